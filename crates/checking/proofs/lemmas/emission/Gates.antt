-- What the emission's loop over the gates writes, gate by gate. Assumes nothing.
use Rattle.std.proofs.Common.{◌≡◌, ℕ, suc, ◌+◌, ◌-◌, ◌*◌, ◌<◌, ◌≤◌, Bool, true, false, cond, eqb, List, [], ◌∷◌, ◌++◌, map, length, get_or, take, drop, set, ℤ, sym, refl, ap, ◌∙◌, subst, ap₂, append_assoc, append-nil, arith, length-append, length-set, get_or-set_other, get_or-set_same, eqb-true}
use Rattle.std.proofs.lemmas.List.{get_or-reverse, drop_all}
use lib.ListN.{length-map}
use lib.Seq.{drop-cons}
use borrow.Author.Tests.{eqb-false}
use borrow.Rule.Slice.PartMut.{put_mid}
use Rattle.bits.specs.Lists.{over, Put}
use Rattle.bits.proofs.Bools.{either, cond-true, cond-false}
use Rattle.bits.proofs.Lists.{over_length, lent_over}
use Rattle.circuit.specs.declared.gate.Gate.{Gate}
use Rattle.circuit.specs.Gate.{max_lines, not_gate, valid, control_count, controls_of}
use Rattle.circuit.specs.Words.{gate_in, all_valid}
use Rattle.circuit.proofs.Promises.{valid_facts, valid_more, controls_count, valid_parts, inverse_length}
use Rattle.checking.specs.declared.clauses.Totals.{Totals}
use Rattle.checking.specs.Clauses.{Clause, literal_of, new_variable, used_by, moved, clauses_of_gate, gates_clauses, used_after, current_after}
use Rattle.checking.specs.Stored.{stored, word_limit}
use Rattle.checking.specs.Sizes.{gate_sizes}
use Rattle.checking.specs.private.Emitter.{by_line, gate_stored, Ready}
use Rattle.checking.specs.private.Emission.{Holds, ordered, GatesReady, GatesPut}
use Rattle.checking.proofs.lemmas.clauses.Gates.{new_named}
use Rattle.checking.proofs.lemmas.clauses.Reading.{stored_append}
use Rattle.checking.proofs.lemmas.clauses.Sums.{gate_sizes_lem}
use Rattle.checking.proofs.lemmas.emitter.Parts.{lent_long}
use Rattle.checking.proofs.lemmas.clauses.Fits.{new_bound}
use Rattle.checking.proofs.lemmas.clauses.Maps.{Agree, gate_local}

-- ---- one gate

gate_words_lem : (n used : ℕ) (current : ℕ → ℕ) (g : Gate) → n ≤ max_lines → valid n g ≡ true
    → length (stored (clauses_of_gate used current g)) ≡ (gate_sizes (control_count g)).words
gate_words_lem n used current g few v =
    let ls = map (literal_of current) (controls_of g) in
    let k : length ls ≡ control_count g = length-map (controls_of g) (literal_of current) ∙ controls_count g (valid_more n max_lines g few v) in
    ap (λ (t : Totals). t.words) (gate_sizes_lem used (current g.target) ls) ∙ ap (λ (j : ℕ). (gate_sizes j).words) k

-- one current variable is stored
set_line : (current : List ℕ) (t w k : ℕ) → t < length current → by_line (set current t w) k ≡ cond (eqb k t) w (by_line current k)
set_line current t w k h =
    either (eqb k t)
    (λ e. ap (λ (j : ℕ). get_or (set current t w) j 0) (eqb-true k t e) ∙ get_or-set_same current t w 0 h ∙ sym (cond-true (eqb k t) w (by_line current k) e))
    (λ e. get_or-set_other current t k w 0 (eqb-false k t e) ∙ sym (cond-false (eqb k t) w (by_line current k) e))

cond_most : (b : Bool) (x y m : ℕ) → x ≤ m → y ≤ m → cond b x y ≤ m
cond_most true x y m h l = h
cond_most false x y m h l = l

-- ---- the gates in their order, or from the last one on

pub ordered_length : (reversed : Bool) (gs : List Gate) → length (ordered reversed gs) ≡ length gs
ordered_length true gs = inverse_length gs
ordered_length false gs = refl

pub ordered_last : (gs : List Gate) (i m : ℕ) (g : Gate) (reversed : Bool) → reversed ≡ true → i < m → length gs ≡ m → g ≡ gate_in gs (m - 1 - i) → g ≡ gate_in (ordered reversed gs) i
ordered_last gs i m g reversed r h l e =
    e
    ∙ ap (λ (k : ℕ). gate_in gs (k - 1 - i)) (sym l)
    ∙ sym (get_or-reverse gs i (not_gate 0) (omega (arith, l)))
    ∙ ap (λ (b : Bool). gate_in (ordered b gs) i) (sym r)

-- ---- current variables of lines below n

pub moved_local : (n used : ℕ) (a b : ℕ → ℕ) (g : Gate) → Agree n a b → Agree n (moved used a g) (moved used b g)
unfolding moved
moved_local n used a b g h k l = ap (cond (eqb k g.target) (used_by used g)) (h k l)

pub gates_local : (n used : ℕ) (a b : ℕ → ℕ) (gs : List Gate) → all_valid n gs ≡ true → Agree n a b → gates_clauses used a gs ≡ gates_clauses used b gs
unfolding gates_clauses
gates_local n used a b [] v h = refl
gates_local n used a b (g ∷ gs) v h =
    let (x, y) = valid_parts n g gs v in
    ap₂ (λ (cs ds : List Clause). cs ++ ds) (gate_local n used a b g x h) (gates_local n (used_by used g) (moved used a g) (moved used b g) gs y (moved_local n used a b g h))

pub after_local : (n used : ℕ) (a b : ℕ → ℕ) (gs : List Gate) → Agree n a b → Agree n (current_after used a gs) (current_after used b gs)
unfolding current_after
after_local n used a b [] h = h
after_local n used a b (g ∷ gs) h = after_local n (used_by used g) (moved used a g) (moved used b g) gs (moved_local n used a b g h)

-- ---- the loop

-- the clauses of gates below i stand at the buffer's start, the others are left; `variables` are the current ones
pub record Emitted (n : ℕ) (gs : List Gate) (start_used : ℕ) (start : List ℕ) (first : List ℤ) (current : List ℕ) (out : List ℤ) (used at i : ℕ) : Type 0 where
  pub front : List ℤ
  pub variables : ℕ → ℕ
  pub inside : i ≤ length gs
  pub clauses_left_lem : stored (gates_clauses start_used (by_line start) gs) ≡ front ++ stored (gates_clauses used variables (drop i gs))
  pub used_left : used_after start_used gs ≡ used_after used (drop i gs)
  pub currents_left : current_after start_used (by_line start) gs ≡ current_after used variables (drop i gs)
  pub good : all_valid n (drop i gs) ≡ true
  pub holds : Holds n current variables
  pub small : (k : ℕ) → k < n → by_line current k ≤ used
  pub few : used ≤ start_used + 2 * i
  pub kept : length current ≡ length start
  pub place : length front ≡ at
  pub as_long : length out ≡ length first
  pub buffer : out ≡ over front first

pub emitted_none : (n : ℕ) (gs : List Gate) (used : ℕ) (start : List ℕ) (first : List ℤ) → GatesReady n gs used start (length first)
    → Emitted n gs used start first start first used 0 0
emitted_none n gs used start first ready =
    record {
      front = [];
      variables = by_line start;
      inside = omega arith;
      clauses_left_lem = refl;
      used_left = refl;
      currents_left = refl;
      good = ready.gates;
      holds = λ k h. refl;
      small = ready.small;
      few = omega arith;
      kept = refl;
      place = refl;
      as_long = refl;
      buffer = refl;
    }

module _ (n : ℕ) (gs : List Gate) (start_used : ℕ) (start : List ℕ) (first : List ℤ) (current : List ℕ) (out : List ℤ) (used at i : ℕ)
    (ready : GatesReady n gs start_used start (length first))
    (e : Emitted n gs start_used start first current out used at i) (inside : i < length gs) (g : Gate) (is : g ≡ gate_in gs i) where
  abbrev later : List Gate
  later = drop (i + 1) gs

  abbrev new : List ℤ
  new = gate_stored used current g

  abbrev after : List ℤ
  after = stored (gates_clauses (used_by used g) (moved used e.variables g) later)

  next : drop i gs ≡ g ∷ later
  next =
      let one : suc i ≡ i + 1 = omega arith in
      drop-cons gs i (not_gate 0) inside ∙ ap₂ (λ (h : Gate) (m : ℕ). h ∷ drop m gs) (sym is) one

  both_good : (valid n g ≡ true) × (all_valid n later ≡ true)
  both_good = valid_parts n g later (sym (ap (all_valid n) next) ∙ e.good)

  pub gate_good : valid n g ≡ true
  gate_good = both_good.0

  target_inside : g.target < length current
  target_inside = omega (arith, (valid_facts n g gate_good).target_below, ready.long, e.kept)

  pub split : stored (gates_clauses start_used (by_line start) gs) ≡ (e.front ++ new) ++ after
  unfolding gates_clauses
  split =
      e.clauses_left_lem
      ∙ ap (λ (hs : List Gate). e.front ++ stored (gates_clauses used e.variables hs)) next
      ∙ ap (λ (r : List ℤ). e.front ++ r)
      (stored_append (clauses_of_gate used e.variables g) (gates_clauses (used_by used g) (moved used e.variables g) later)
      ∙ ap (λ (cs : List Clause). stored cs ++ after) (sym (gate_local n used (by_line current) e.variables g gate_good e.holds)))
      ∙ sym (append_assoc e.front new after)

  pub room : at + length new ≤ length out
  room = omega (arith, ap length split, length-append (e.front ++ new) after, length-append e.front new, ready.enough, e.place, e.as_long)

  pub gate_ready : Ready n used current g (length (take (length out - at) (drop at out)))
  gate_ready =
      record {
        currents =
            record {
              lines = ready.lines;
              long = omega (arith, ready.long, e.kept);
              small = λ k h. omega (arith, e.small k h, e.few, ready.few);
            };
        gate = gate_good;
        few = omega (arith, e.few, ready.few);
        enough = omega (arith, lent_long out at, room, gate_words_lem n used (by_line current) g ready.lines gate_good);
      }

  -- the gate's clauses are written to the lent rest, and its last variable is the target's
  put : (last : List ℤ) (words : ℕ) → words ≡ length new → last ≡ over new (take (length out - at) (drop at out))
      → Emitted n gs start_used start first (set current g.target (used_by used g)) (put_mid at (length out - at) out last) (used_by used g) (at + words) (i + 1)
  unfolding moved used_after current_after
  put last words h l =
      let w : ℕ = used_by used g in
      let filled = lent_over e.front new first out last at e.buffer e.place (omega (arith, room)) l in
      let front_long = length-append e.front new in
      record {
        front = e.front ++ new;
        variables = moved used e.variables g;
        inside = omega arith;
        clauses_left_lem = split;
        used_left = e.used_left ∙ ap (used_after used) next;
        currents_left = e.currents_left ∙ ap (current_after used e.variables) next;
        good = both_good.1;
        holds = λ k l. set_line current g.target w k target_inside ∙ ap (cond (eqb k g.target) w) (e.holds k l);
        small = λ k l.
            subst (λ (x : ℕ). x ≤ w) (sym (set_line current g.target w k target_inside))
            (cond_most (eqb k g.target) w (by_line current k) w (omega arith) (omega (arith, e.small k l, new_named used (length (controls_of g)))));
        few = omega (arith, e.few, new_bound used (length (controls_of g)));
        kept = length-set current g.target w ∙ e.kept;
        place = omega (arith, front_long, e.place);
        as_long = ap length filled ∙ over_length (e.front ++ new) first (omega (arith, front_long, e.place, room, e.as_long));
        buffer = filled;
      }

  pub emitted_next : (last : List ℤ) (words k w : ℕ) → words ≡ length new → last ≡ over new (take (length out - at) (drop at out)) → k ≡ control_count g → w ≡ new_variable used k
      → Emitted n gs start_used start first (set current g.target w) (put_mid at (length out - at) out last) w (at + words) (i + 1)
  emitted_next last words k w h l c f =
      let e : w ≡ used_by used g = f ∙ ap (new_variable used) (c ∙ sym (controls_count g (valid_more n max_lines g ready.lines gate_good))) in
      subst (λ (x : ℕ). Emitted n gs start_used start first (set current g.target x) (put_mid at (length out - at) out last) x (at + words) (i + 1)) (sym e) (put last words h l)

-- at the end
pub emitted_all : (n : ℕ) (gs : List Gate) (start_used : ℕ) (start : List ℕ) (first : List ℤ) (current : List ℕ) (out : List ℤ) (used at i : ℕ) → length gs ≤ i
    → Emitted n gs start_used start first current out used at i → GatesPut n gs start_used (by_line start) current first out at used
unfolding gates_clauses used_after current_after stored
emitted_all n gs start_used start first current out used at i past e =
    let none : drop i gs ≡ [] = drop_all i gs past in
    let all : stored (gates_clauses start_used (by_line start) gs) ≡ e.front =
    e.clauses_left_lem ∙ ap (λ (hs : List Gate). e.front ++ stored (gates_clauses used e.variables hs)) none ∙ append-nil e.front in
    let same : current_after start_used (by_line start) gs ≡ e.variables = e.currents_left ∙ ap (current_after used e.variables) none in
    record {
      variables = sym (e.used_left ∙ ap (used_after used) none);
      currents = λ k h. e.holds k h ∙ sym (ap (λ (f : ℕ → ℕ). f k) same);
      small = e.small;
      written = record { count = sym e.place ∙ ap length (sym all); buffer = e.buffer ∙ ap (λ (f : List ℤ). over f first) (sym all) };
    }

-- ---- the same from any map with the same current variables

module _ (n : ℕ) (gs : List Gate) (current : List ℕ) (start : ℕ → ℕ) (few : n ≤ max_lines) (v : all_valid n gs ≡ true) (holds : Holds n current start) where
  pub ready_from : (used room : ℕ) → used + 2 * length gs < word_limit → n ≤ length current → ((k : ℕ) → k < n → by_line current k ≤ used)
      → length (stored (gates_clauses used start gs)) ≤ room → GatesReady n gs used current room
  ready_from used room fit long small enough =
      record {
        lines = few;
        gates = v;
        few = fit;
        long = long;
        small = small;
        enough = omega (arith, enough, ap (λ (cs : List Clause). length (stored cs)) (gates_local n used (by_line current) start gs v holds));
      }

  pub put_from : (used used' : ℕ) (after : List ℕ) (first last : List ℤ) (at end : ℕ) → used ≡ used' → GatesPut n gs used (by_line current) after first last at end
      → GatesPut n gs used' start after first last at end
  put_from used used' after first last at end e p =
      let same : gates_clauses used (by_line current) gs ≡ gates_clauses used start gs = gates_local n used (by_line current) start gs v holds in
      subst (λ (u : ℕ). GatesPut n gs u start after first last at end) e
      (record {
        variables = p.variables;
        currents = λ k l. p.currents k l ∙ after_local n used (by_line current) start gs holds k l;
        small = p.small;
        written = subst (λ (cs : List Clause). Put at last (stored cs) first) same p.written;
      })

-- ---- gates after gates

pub gates_append : (used : ℕ) (current : ℕ → ℕ) (xs ys : List Gate)
    → gates_clauses used current (xs ++ ys) ≡ gates_clauses used current xs ++ gates_clauses (used_after used xs) (current_after used current xs) ys
unfolding gates_clauses used_after current_after
gates_append used current [] ys = refl
gates_append used current (x ∷ xs) ys =
    ap (λ (cs : List Clause). clauses_of_gate used current x ++ cs) (gates_append (used_by used x) (moved used current x) xs ys)
    ∙ sym (append_assoc (clauses_of_gate used current x) (gates_clauses (used_by used x) (moved used current x) xs) _)

pub used_append : (used : ℕ) (xs ys : List Gate) → used_after used (xs ++ ys) ≡ used_after (used_after used xs) ys
unfolding used_after
used_append used [] ys = refl
used_append used (x ∷ xs) ys = used_append (used_by used x) xs ys

pub current_append : (used : ℕ) (current : ℕ → ℕ) (xs ys : List Gate) → current_after used current (xs ++ ys) ≡ current_after (used_after used xs) (current_after used current xs) ys
unfolding used_after current_after
current_append used current [] ys = refl
current_append used current (x ∷ xs) ys = current_append (used_by used x) (moved used current x) xs ys

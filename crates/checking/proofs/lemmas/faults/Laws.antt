-- The laws of faults: candidates bit by bit, repairs, excluded lines, and the stand-ins. Assumes nothing.
use Rattle.std.proofs.Common.{◌≡◌, ℕ, zero, suc, ◌+◌, ◌*◌, ◌^◌, ◌<◌, ◌≤◌, Bool, true, false, not, ◌&&◌, ◌||◌, eqb, ltb, ◌↔◌, List, [], ◌∷◌, ◌++◌, length, get_or, take, drop, sym, refl, ap, ◌∙◌, ap₂, true≢false, append_assoc, append-nil, add-one, arith, drop_at, ltb-true, lt-ltb, eq-eqb, ne_eqb, eqb-true}
use mathlib.Core.Bool.{xor}
use lib.Bits.{bit_or, bit_xor}
use lib.ListN.{get_or-append}
use lib.Seq.{split_at}
use borrow.Author.Tests.{eqb-false, not-true}
use Rattle.bits.specs.Digits.{bit}
use Rattle.bits.specs.Lists.{over}
use Rattle.bits.proofs.Bools.{and_parts, both, either, same_test, not_held, xor_twice, xor_all, none_xor, or_left, or_right, or_second, table₁}
use Rattle.bits.proofs.Digits.{bit-or, bit_pow}
use Rattle.bits.proofs.Lists.{over_length}
use Rattle.circuit.specs.declared.gate.Gate.{Gate}
use Rattle.circuit.specs.declared.header.Header.{Header}
use Rattle.circuit.specs.Gate.{max_lines, max_gates, not_gate, valid, fires}
use Rattle.circuit.specs.Outcome.{served, Untouched}
use Rattle.circuit.specs.Words.{gates_of, all_valid, gate_in}
use Rattle.circuit.specs.Run.{run, DiffersFor}
use Rattle.circuit.proofs.Promises.{written_served, written_refused, cascade_count, fires_lines, lines_fires, valid_by_lines, lines_valid, valid_more, apply_gate, inverted_fired, inverted_idle, run_append, gate_valid, run_next}
use Rattle.checking.specs.Compare.{Agree}
use Rattle.checking.specs.Faults.{is_free, missing, missing_control, gate_masks, everywhere, stands, mask_where, masks_from, fault_masks, fault_outcome, fault_buffer}
use Rattle.checking.specs.Each.{Every}
use Rattle.checking.specs.RefusalLaws.{StatesGood}
use Rattle.checking.specs.FaultLaws.{state_at, Candidate, Masking, mask_place, MasksStand, repaired_at, Repairs, with_control}
use Rattle.checking.proofs.lemmas.faults.Masks.{mask_bit}
use Rattle.checking.proofs.lemmas.faults.Loops.{masks_length}
use Rattle.checking.proofs.lemmas.faults.Refusals.{masks_made}

-- ---- the masks of gate i

at_start : (before : List Gate) (g : Gate) (gs : List Gate) (i : ℕ) → (before ++ (g ∷ [])) ++ take i gs ≡ before ++ take (suc i) (g ∷ gs)
at_start before g gs i = append_assoc before (g ∷ []) (take i gs)

mask_at : (n : ℕ) (before gs : List Gate) (xs : List ℕ) (i : ℕ) (positive : Bool) → i < length gs
    → get_or (masks_from n before gs xs) (mask_place positive i) 0 ≡ mask_where n (stands (missing_control positive) (before ++ take i gs) (gate_in gs i) xs)
unfolding masks_from
mask_at n before [] xs i positive h = absurd (omega arith)
mask_at n before (g ∷ gs) xs zero true h = ap (λ (l : List Gate). mask_where n (stands (missing_control true) l g xs)) (sym (append-nil before))
mask_at n before (g ∷ gs) xs zero false h = ap (λ (l : List Gate). mask_where n (stands (missing_control false) l g xs)) (sym (append-nil before))
mask_at n before (g ∷ gs) xs (suc i) positive h =
    ap (λ (k : ℕ). get_or (masks_from n before (g ∷ gs) xs) k 0) (later positive)
    ∙ mask_at n (before ++ (g ∷ [])) gs xs i positive (omega arith)
    ∙ ap (λ (l : List Gate). mask_where n (stands (missing_control positive) l (gate_in gs i) xs)) (at_start before g gs i)
  where
    later : (positive : Bool) → mask_place positive (suc i) ≡ suc (suc (mask_place positive i))
    later true = omega arith
    later false = omega arith

-- ---- every state

pub every_at : (pattern : ℕ → Bool) (before : List Gate) (xs : List ℕ) → everywhere pattern before xs ≡ true → (j : ℕ) → j < length xs → pattern (run before (get_or xs j 0)) ≡ true
unfolding everywhere
every_at pattern before [] e j h = absurd (omega arith)
every_at pattern before (x ∷ xs) e zero h = (and_parts (pattern (run before x)) (everywhere pattern before xs) e).0
every_at pattern before (x ∷ xs) e (suc j) h = every_at pattern before xs (and_parts (pattern (run before x)) (everywhere pattern before xs) e).1 j (omega arith)

pub at_every : (pattern : ℕ → Bool) (before : List Gate) (xs : List ℕ) → ((j : ℕ) → j < length xs → pattern (run before (get_or xs j 0)) ≡ true) → everywhere pattern before xs ≡ true
unfolding everywhere
at_every pattern before [] f = refl
at_every pattern before (x ∷ xs) f = both (f 0 (omega arith)) (at_every pattern before xs (λ j h. f (suc j) (omega arith)))

pub every_fails : (pattern : ℕ → Bool) (before : List Gate) (xs : List ℕ) → everywhere pattern before xs ≡ false
    → (j : ℕ) × (j < length xs) × (pattern (run before (get_or xs j 0)) ≡ false)
unfolding everywhere
every_fails pattern before [] e = absurd (true≢false e)
every_fails pattern before (x ∷ xs) e =
    either (pattern (run before x))
    (λ t. let (j, h, f) = every_fails pattern before xs (sym (ap (λ (b : Bool). b && everywhere pattern before xs) t) ∙ e) in (suc j, omega arith, f))
    (λ t. (zero, omega arith, t))

-- ---- candidates

free_parts : (g : Gate) (k : ℕ) → is_free g k ≡ true → (k ≡ g.target → ⊥) × (bit g.positive k ≡ false) × (bit g.negative k ≡ false)
free_parts g k e =
    let (a, b) = and_parts (not (eqb k g.target)) (not (bit g.positive k) && not (bit g.negative k)) e in
    let (p, q) = and_parts (not (bit g.positive k)) (not (bit g.negative k)) b in
    (eqb-false k g.target (not-true _ a), not-true _ p, not-true _ q)

parts_free : (g : Gate) (k : ℕ) → (k ≡ g.target → ⊥) → bit g.positive k ≡ false → bit g.negative k ≡ false → is_free g k ≡ true
parts_free g k t p q = both (ap not (ne_eqb k g.target t)) (both (ap not p) (ap not q))

xor_sign_lem : (positive b : Bool) → xor positive b ≡ true → b ≡ not positive
xor_sign_lem positive b e = sym (xor_twice positive b) ∙ ap (xor positive) e ∙ xor_all positive

sign_xor : (positive b : Bool) → b ≡ not positive → xor positive b ≡ true
sign_xor positive b e = ap (xor positive) (e ∙ sym (xor_all positive)) ∙ xor_twice positive true

module _ (n : ℕ) (gs : List Gate) (xs : List ℕ) (i : ℕ) (positive : Bool) (k : ℕ) where
  abbrev g : Gate
  g = gate_in gs i

  abbrev before : List Gate
  before = take i gs

  pub stands_candidate : k < n → stands (missing_control positive) before g xs k ≡ true → Candidate n gs xs i positive k
  stands_candidate below e =
      let (f, v) = and_parts (is_free g k) (everywhere (missing positive k g) before xs) e in
      let (t, p, q) = free_parts g k f in
      let m : (j : ℕ) → j < length xs → missing positive k g (state_at gs i xs j) ≡ true = every_at (missing positive k g) before xs v in
      record {
        below = below;
        not_target = t;
        not_positive = p;
        not_negative = q;
        fired = λ j h. (and_parts (fires g (state_at gs i xs j)) (xor positive (bit (state_at gs i xs j) k)) (m j h)).0;
        line = λ j h. xor_sign_lem positive _ (and_parts (fires g (state_at gs i xs j)) (xor positive (bit (state_at gs i xs j) k)) (m j h)).1;
      }

  pub candidate_stands : Candidate n gs xs i positive k → stands (missing_control positive) before g xs k ≡ true
  candidate_stands c =
      both (parts_free g k c.not_target c.not_positive c.not_negative)
      (at_every (missing positive k g) before xs (λ j h. both (c.fired j h) (sign_xor positive _ (c.line j h))))

  -- bit by bit
  pub mask_candidate : (m : ℕ) → m ≡ mask_where n (stands (missing_control positive) before g xs) → (bit m k ≡ true) ↔ Candidate n gs xs i positive k
  mask_candidate m e =
      let d : bit m k ≡ (ltb k n && stands (missing_control positive) before g xs k) = ap (λ (x : ℕ). bit x k) e ∙ mask_bit n (stands (missing_control positive) before g xs) k in (
        (λ t. let (l, s) = and_parts (ltb k n) (stands (missing_control positive) before g xs k) (sym d ∙ t) in stands_candidate (ltb-true k n l) s),
        (λ c. d ∙ both (lt-ltb k n c.below) (candidate_stands c)),
      )

pub masks_masking : Masking fault_masks
masks_masking =
    record {
      size = λ n gs xs. masks_length n [] gs xs;
      lines = λ n gs xs i line positive h. mask_candidate n gs xs i positive line _ (mask_at n [] gs xs i positive h);
    }

-- ---- repairs

pub repair_leaves : (pattern : Gate → ℕ → Bool) (repair : Gate → Gate) (gs : List Gate) (i : ℕ) → i < length gs → Repairs pattern repair (gate_in gs i)
    → (x : ℕ) → pattern (gate_in gs i) (run (take i gs) x) ≡ false → run (repaired_at i repair gs) x ≡ run gs x
repair_leaves pattern repair gs i h r x e =
    let g : Gate = gate_in gs i in
    let front : List Gate = take i gs in
    let back : List Gate = drop (i + 1) gs in
    let parts : gs ≡ front ++ (g ∷ back) = split_at gs i (not_gate 0) h ∙ ap (λ (k : ℕ). front ++ (g ∷ drop k gs)) (sym (add-one i)) in
    run_append front (repair g ∷ back) x
    ∙ run_next (repair g) back (run front x)
    ∙ ap (run back) (r (run front x) e)
    ∙ sym (ap (λ (l : List Gate). run l x) parts ∙ run_append front (g ∷ back) x ∙ run_next g back (run front x))

-- ---- one control more

-- the digits of a mask with line k added
more_bit : (m k j : ℕ) → bit (bit_or m (2 ^ k)) j ≡ (bit m j || eqb j k)
more_bit m k j = bit-or m (2 ^ k) j ∙ ap (λ (b : Bool). bit m j || b) (bit_pow k j)

more_cases : {P : Type 0} (m k j : ℕ) → bit (bit_or m (2 ^ k)) j ≡ true → (bit m j ≡ true → P) → (j ≡ k → P) → P
more_cases m k j e f g = either (bit m j) f (λ t. g (eqb-true j k (or_second (bit m j) (eqb j k) (sym (more_bit m k j) ∙ e) t)))

more_old : (m k j : ℕ) → bit m j ≡ true → bit (bit_or m (2 ^ k)) j ≡ true
more_old m k j e = more_bit m k j ∙ or_left (eqb j k) e

more_new : (m k : ℕ) → bit (bit_or m (2 ^ k)) k ≡ true
more_new m k = more_bit m k k ∙ or_right (bit m k) (eq-eqb k k refl)

more_none : (m k j : ℕ) → bit m j ≡ false → (j ≡ k → ⊥) → bit (bit_or m (2 ^ k)) j ≡ false
more_none m k j e h = more_bit m k j ∙ ap₂ ◌||◌ e (ne_eqb j k h)

on_value : (b : Bool) → not (xor true b) ≡ b
unfolding xor
on_value = table₁ _ _ refl

-- the gate fires where it did and the line has the right value
pub control_fires : (positive : Bool) (k : ℕ) (g : Gate) (s : ℕ) → fires (with_control positive k g) s ≡ (fires g s && not (xor positive (bit s k)))
control_fires true k g s =
    same_test (fires (with_control true k g) s) (fires g s && not (xor true (bit s k)))
    (λ e.
    let f = fires_lines (with_control true k g) s e in
    both (lines_fires g s (record { on = λ j t. f.on j (more_old g.positive k j t); off = f.off })) (on_value (bit s k) ∙ f.on k (more_new g.positive k)))
    (λ e.
    let (a, b) = and_parts (fires g s) (not (xor true (bit s k))) e in
    let f = fires_lines g s a in
    lines_fires (with_control true k g) s
    (record { on = λ j t. more_cases g.positive k j t (f.on j) (λ i. ap (bit s) i ∙ sym (on_value (bit s k)) ∙ b); off = f.off }))
control_fires false k g s =
    same_test (fires (with_control false k g) s) (fires g s && not (xor false (bit s k)))
    (λ e.
    let f = fires_lines (with_control false k g) s e in
    both (lines_fires g s (record { on = f.on; off = λ j t. f.off j (more_old g.negative k j t) })) (ap not (none_xor (bit s k) ∙ f.off k (more_new g.negative k))))
    (λ e.
    let (a, b) = and_parts (fires g s) (not (xor false (bit s k))) e in
    let f = fires_lines g s a in
    lines_fires (with_control false k g) s
    (record { on = f.on; off = λ j t. more_cases g.negative k j t (f.off j) (λ i. ap (bit s) i ∙ not-true (bit s k) (ap not (sym (none_xor (bit s k))) ∙ b)) }))

pub control_valid : (n : ℕ) (positive : Bool) (k : ℕ) (g : Gate) → valid n g ≡ true → k < n → is_free g k ≡ true → valid n (with_control positive k g) ≡ true
control_valid n true k g v h f =
    let (t, p, q) = free_parts g k f in
    let l = valid_by_lines n g v in
    lines_valid n (with_control true k g)
    (record {
      target_below = l.target_below;
      positive_below = λ j m. more_none g.positive k j (l.positive_below j m) (λ e. omega arith);
      negative_below = l.negative_below;
      apart = λ j e. more_cases g.positive k j e (l.apart j) (λ i. ap (bit g.negative) i ∙ q);
      target_not_positive = more_none g.positive k g.target l.target_not_positive (λ e. t (sym e));
      target_not_negative = l.target_not_negative;
    })
control_valid n false k g v h f =
    let (t, p, q) = free_parts g k f in
    let l = valid_by_lines n g v in
    lines_valid n (with_control false k g)
    (record {
      target_below = l.target_below;
      positive_below = l.positive_below;
      negative_below = λ j m. more_none g.negative k j (l.negative_below j m) (λ e. omega arith);
      apart = λ j e. more_none g.negative k j (l.apart j e) (λ i. true≢false (sym e ∙ ap (bit g.positive) i ∙ p));
      target_not_positive = l.target_not_positive;
      target_not_negative = more_none g.negative k g.target l.target_not_negative (λ e. t (sym e));
    })

-- a control does not move the target
same_target : (positive : Bool) (k : ℕ) (g : Gate) → (with_control positive k g).target ≡ g.target
same_target true k g = refl
same_target false k g = refl

pub control_repairs : (positive : Bool) (k : ℕ) (g : Gate) → valid max_lines g ≡ true → k < max_lines → is_free g k ≡ true → Repairs (missing positive k) (with_control positive k) g
control_repairs positive k g v h f s e =
    let w = control_valid max_lines positive k g v h f in
    let r : Gate = with_control positive k g in
    apply_gate r s w
    ∙ either (fires g s)
    (λ t.
    let x : xor positive (bit s k) ≡ false = sym (ap (λ (b : Bool). b && xor positive (bit s k)) t) ∙ e in
    let u : fires r s ≡ true = control_fires positive k g s ∙ both t (ap not x) in
    inverted_fired r s u ∙ ap (λ (j : ℕ). bit_xor s (2 ^ j)) (same_target positive k g) ∙ sym (inverted_fired g s t))
    (λ t.
    let u : fires r s ≡ false = control_fires positive k g s ∙ ap (λ (b : Bool). b && not (xor positive (bit s k))) t in
    inverted_idle r s u ∙ sym (inverted_idle g s t))
    ∙ sym (apply_gate g s v)

-- ---- excluded lines

pub excluded : (h : Header) (suspect reference : List Gate) (xs : List ℕ) (i k : ℕ) (positive : Bool) → h.lines ≤ max_lines → all_valid h.lines suspect ≡ true
    → Every (DiffersFor h suspect reference) xs → i < length suspect → k < h.lines → is_free (gate_in suspect i) k ≡ true
    → (Candidate h.lines suspect xs i positive k → ⊥)
    → (j : ℕ) × (j < length xs) × DiffersFor h (repaired_at i (with_control positive k) suspect) reference (get_or xs j 0)
excluded h suspect reference xs i k positive few v differ inside below free out =
    let n : ℕ = h.lines in
    let g : Gate = gate_in suspect i in
    let w : valid max_lines g ≡ true = valid_more n max_lines g few (gate_valid n suspect i v inside) in
    let fails : everywhere (missing positive k g) (take i suspect) xs ≡ false =
    not_held _ (λ e. out (stands_candidate n suspect xs i positive k below (both free e))) in
    let (j, l, e) = every_fails (missing positive k g) (take i suspect) xs fails in
    let same = repair_leaves (missing positive k) (with_control positive k) suspect i inside (control_repairs positive k g w (omega arith) free) (get_or xs j 0) e in
    let d = differ j l 0 in
    (j, l, record { permitted = d.permitted; line = d.line; counts = d.counts; outputs = λ q. d.outputs (ap (λ (y : ℕ). bit y d.line) (sym same) ∙ q) })

-- ---- the call

pub masks_untouched : (ha : Header) (a : List ℕ) (hb : Header) (b states out : List ℕ) → Untouched (fault_outcome ha a hb b states (length out)) out (fault_buffer ha a hb b states out)
unfolding fault_buffer
masks_untouched ha a hb b states out = written_refused (fault_masks ha.lines (gates_of a) states) out (fault_outcome ha a hb b states (length out))

module _ (ha : Header) (a : List ℕ) (hb : Header) (b states out : List ℕ) (k : ℕ) (made : fault_outcome ha a hb b states (length out) ≡ served k) where
  abbrev masks : List ℕ
  masks = fault_masks ha.lines (gates_of a) states

  abbrev last : List ℕ
  last = fault_buffer ha a hb b states out

  call : StatesGood ha a hb b states k
  call = (masks_made ha a hb b states (length out) k made).0

  suspect_count : length (gates_of a) ≡ k
  suspect_count = cascade_count ha.lines a max_gates k call.pair.first_good.cascade

  left : last ≡ over masks out
  unfolding fault_buffer
  left = written_served masks out (fault_outcome ha a hb b states (length out)) k made

  all_masks : length masks ≡ gate_masks * k
  all_masks = masks_length ha.lines [] (gates_of a) states ∙ ap (λ (n : ℕ). gate_masks * n) suspect_count

  -- a place among the masks
  masked : (place : ℕ) → place < gate_masks * k → get_or last place 0 ≡ get_or masks place 0
  masked place h = ap (λ (l : List ℕ). get_or l place 0) left ∙ get_or-append masks (drop (length masks) out) 0 place (omega (arith, all_masks))

  lines : (i line : ℕ) (positive : Bool) → i < k → (bit (get_or last (mask_place positive i) 0) line ≡ true) ↔ Candidate ha.lines (gates_of a) states i positive line
  lines i line positive h =
      rw (masked (mask_place positive i) (inside positive)) (masks_masking.lines ha.lines (gates_of a) states i line positive (omega (arith, suspect_count)))
    where
      inside : (positive : Bool) → mask_place positive i < gate_masks * k
      inside true = omega arith
      inside false = omega arith

  pub masks_stand : MasksStand ha.lines (gates_of a) states k out last
  masks_stand =
      record {
        long = ap length left ∙ over_length masks out (omega (arith, all_masks, (masks_made ha a hb b states (length out) k made).1));
        lines = lines;
        rest = ap (drop (gate_masks * k)) left ∙ drop_at masks (drop (length masks) out) (gate_masks * k) all_masks ∙ ap (λ (n : ℕ). drop n out) all_masks;
      }

  pub guilty_stands : (i line : ℕ) (positive : Bool) → i < k → line < ha.lines → is_free (gate_in (gates_of a) i) line ≡ true
      → Every (Agree ha (repaired_at i (with_control positive line) (gates_of a)) (gates_of b)) states
      → bit (get_or last (mask_place positive i) 0) line ≡ true
  guilty_stands i line positive h below free agree =
      either (bit (get_or last (mask_place positive i) 0) line) (λ t. t)
      (λ t.
      let c = call.pair.first_good.cascade in
      let (j, l, d) =
      excluded ha (gates_of a) (gates_of b) states i line positive c.lines_high c.gates call.differing
      (omega (arith, suspect_count)) below free (λ x. true≢false (sym ((lines i line positive h).1 x) ∙ t)) in
      absurd (d.outputs (agree j l 0 d.line d.counts)))

-- The clauses before the d, those of the d, and the last one make the whole list. Assumes nothing.
use Rattle.std.proofs.Common.{◌≡◌, ℕ, suc, ◌+◌, ◌-◌, ◌*◌, ◌<◌, ◌≤◌, Bool, true, false, cond, not, ◌||◌, eqb, ltb, ltb-true, ne_eqb, eq-eqb, true≢false, List, [], ◌∷◌, ◌++◌, length, ℤ, sym, refl, ap, ◌∙◌, subst, ap₂, arith, length-append, lt-ltb}
use mathlib.Core.Bool.{or-false, or-true}
use Rattle.bits.specs.Lists.{over, Put}
use Rattle.bits.proofs.Bools.{cond-false, or_none}
use Rattle.circuit.specs.declared.gate.Gate.{Gate}
use Rattle.circuit.specs.declared.header.Header.{Header}
use Rattle.circuit.specs.Gate.{max_lines, controls_of}
use Rattle.circuit.specs.Header.{marked}
use Rattle.circuit.specs.Inverse.{inverse}
use Rattle.circuit.proofs.Promises.{inverse_length}
use Rattle.checking.specs.declared.clauses.Totals.{Totals}
use Rattle.checking.specs.Clauses.{input_of, used_by, moved, used_after, current_after, targeted}
use Rattle.checking.specs.Miter.{miter_gates}
use Rattle.checking.specs.Pair.{counted_lines, either_targets, used_after_both, pair_clauses}
use Rattle.checking.specs.Stored.{stored, word_limit}
use Rattle.checking.specs.private.Emitter.{by_line}
use Rattle.checking.specs.private.Emission.{counted_stored, last_stored, LinesReady, LinesPut, front_used, left_after, right_after, ListReady, FrontPut}
use Rattle.checking.proofs.lemmas.clauses.Gates.{new_named}
use Rattle.checking.proofs.lemmas.clauses.Within.{after_named, inputs_named}
use Rattle.checking.proofs.lemmas.clauses.Fits.{used_bound}
use Rattle.checking.proofs.lemmas.clauses.Maps.{differences_local}
use Rattle.checking.proofs.lemmas.clauses.Forced.{used_more}
use Rattle.checking.proofs.lemmas.clauses.Sums.{last_sizes}
use Rattle.checking.proofs.lemmas.emission.Front.{front_words, lines_words, last_part, list_words}
use Rattle.checking.proofs.lemmas.emission.Rest.{lent, with_lent, rest_room, put_next}
use Rattle.checking.proofs.lemmas.pair_emission.Fits.{counted_below, counted_few}
use Rattle.checking.proofs.lemmas.pair_emission.Sums.{targeted_miter}

-- ---- a gate targets a line exactly where its two variables differ

moved_hit : (n used w line : ℕ) (b later : Bool) → n < w → (ltb n (cond b w line) || later) ≡ (ltb n line || (b || later))
moved_hit n used w line true later h = ap (λ (x : Bool). x || later) (lt-ltb n w h) ∙ sym (or-true (ltb n line))
moved_hit n used w line false later h = refl

hit_after : (n used : ℕ) (current : ℕ → ℕ) (gs : List Gate) (k : ℕ) → n ≤ used → ltb n (current_after used current gs k) ≡ (ltb n (current k) || targeted gs k)
unfolding current_after targeted moved
hit_after n used current [] k h = sym (or-false (ltb n (current k)))
hit_after n used current (g ∷ gs) k h =
    let more = new_named used (length (controls_of g)) in
    hit_after n (used_by used g) (moved used current g) gs k (omega (arith, more))
    ∙ moved_hit n used (used_by used g) (current k) (eqb k g.target) (targeted gs k) (omega (arith, more))

-- a line that no gate targets keeps its variable
untargeted : (used : ℕ) (current : ℕ → ℕ) (gs : List Gate) (k : ℕ) → targeted gs k ≡ false → current_after used current gs k ≡ current k
unfolding current_after targeted moved
untargeted used current [] k t = refl
untargeted used current (g ∷ gs) k t =
    let (x, y) = or_none (eqb k g.target) (targeted gs k) t in
    untargeted (used_by used g) (moved used current g) gs k y ∙ cond-false (eqb k g.target) (used_by used g) (current k) x

-- two variables of a line, the second numbered after `middle` where a gate targets the line: they differ exactly where one of them is no input
apart : (line a b middle : ℕ) (s t : Bool) → (s ≡ true → line < a) → (s ≡ false → a ≡ line) → (t ≡ true → middle < b) → (t ≡ false → b ≡ line) → a ≤ middle
    → not (eqb a b) ≡ (s || t)
apart line a b middle true true f f' g g' few = ap not (ne_eqb a b (λ e. let h = g refl in omega arith))
apart line a b middle false true f f' g g' few = ap not (ne_eqb a b (λ e. let h = g refl in omega arith))
apart line a b middle true false f f' g g' few = ap not (ne_eqb a b (λ e. let h = f refl in let i = g' refl in omega arith))
apart line a b middle false false f f' g g' few = ap not (eq-eqb a b (f' refl ∙ sym (g' refl)))

-- a gate targets the line: its variable is numbered after those before the gates
after_used : (m used : ℕ) (gs : List Gate) (k : ℕ) → m ≤ used → suc k ≤ m → targeted gs k ≡ true → m < current_after used input_of gs k
after_used m used gs k few low t = ltb-true m _ (hit_after m used input_of gs k few ∙ ap (λ (b : Bool). ltb m (suc k) || b) t ∙ or-true (ltb m (suc k)))

both_hit : (n : ℕ) (a b : List Gate) (k : ℕ) → k < n → not (eqb (current_after n input_of a k) (current_after (used_after n a) input_of b k)) ≡ (targeted a k || targeted b k)
both_hit n a b k l =
    let middle : ℕ = used_after n a in
    let more = used_more n a in
    let named = after_named n middle n input_of a (omega arith) (inputs_named n middle more) in
    apart (suc k) (current_after n input_of a k) (current_after middle input_of b k) middle (targeted a k) (targeted b k)
    (λ t. omega (arith, after_used n n a k (omega arith) l t))
    (untargeted n input_of a k)
    (λ t. after_used middle middle b k (omega arith) (omega arith) t)
    (untargeted middle input_of b k)
    (named.high k l)

module _ (h : Header) (a b : List Gate) where
  abbrev n : ℕ
  n = h.lines

  -- B's variables are numbered after A's
  either_hit : (k : ℕ) → k < n → not (eqb (left_after h a b k) (right_after h a b k)) ≡ either_targets a b k
  either_hit k l = by (marked h)
    where
      by : (t : Bool)
          → not (eqb (cond t (current_after n input_of a) input_of k) (cond t (current_after (used_after n a) input_of b) (current_after n input_of (miter_gates a b)) k))
          ≡ either_targets a b k
      by true = both_hit n a b k l
      by false =
          apart (suc k) (suc k) (current_after n input_of (miter_gates a b) k) n false (targeted (miter_gates a b) k)
          (λ t. absurd (true≢false (sym t))) (λ t. refl) (after_used n n (miter_gates a b) k (omega arith) l) (untargeted n input_of (miter_gates a b) k) l
          ∙ ap (λ (f : ℕ → Bool). f k) (targeted_miter a b)

  few_used : front_used h a b ≤ n + 2 * (length a + length b)
  few_used = by (marked h)
    where
      by : (t : Bool) → cond t (used_after_both h a b) (used_after n (miter_gates a b)) ≤ n + 2 * (length a + length b)
      by true = omega (arith, used_bound n a, used_bound (used_after n a) b)
      by false = omega (arith, used_bound n (miter_gates a b), length-append a (inverse b), inverse_length b)

-- ---- the parts in a row

module _ (h : Header) (a b : List Gate) (first : List ℤ) (ready : ListReady h a b (length first)) where
  abbrev count : ℕ
  count = length (counted_lines h)

  abbrev last_words : List ℤ
  last_words = stored (last_part h a b ∷ [])

  whole_long : length ((front_words h a b ++ lines_words h a b) ++ last_words) ≤ length first
  whole_long = omega (arith, ready.enough, ap length (list_words h a b))

  most_long : length (front_words h a b ++ lines_words h a b) ≤ length first
  most_long = omega (arith, whole_long, length-append (front_words h a b ++ lines_words h a b) last_words)

  module _ (left right : List ℕ) (out : List ℤ) (at used : ℕ) (p : FrontPut h a b left right first out at used) where
    same_lines : counted_stored h.lines h.junk left right used ≡ lines_words h a b
    same_lines =
        ap (counted_stored h.lines h.junk left right) p.variables
        ∙ ap stored
        (differences_local h.lines (λ k. not (eqb (by_line left k) (by_line right k))) (either_targets a b) (by_line left) (left_after h a b) (by_line right) (right_after h a b)
        (λ k l. ap₂ (λ (x y : ℕ). not (eqb x y)) (p.left_holds k l) (p.right_holds k l) ∙ either_hit h a b k l) p.left_holds p.right_holds
        (front_used h a b) (counted_lines h) (counted_below h))

    used_few : used + h.lines < word_limit
    used_few = omega (arith, p.variables, few_used h a b, ready.lines, ready.few)

    pub lines_ready : h.lines ≤ length left → h.lines ≤ length right → LinesReady h.lines h.junk left right used (length (lent at out))
    lines_ready long_left long_right =
        record {
          lines = ready.lines;
          long_left = long_left;
          long_right = long_right;
          small_left = λ k l. omega (arith, p.left_small k l, used_few);
          small_right = λ k l. omega (arith, p.right_small k l, used_few);
          few = used_few;
          enough = omega (arith, ap length same_lines, rest_room (front_words h a b) (lines_words h a b) first out at p.written most_long);
        }

    module _ (last : List ℤ) (words end : ℕ) (q : LinesPut h.lines h.junk left right used (lent at out) last words end) where
      put_lines : Put (at + words) (with_lent at out last) (front_words h a b ++ lines_words h a b) first
      put_lines =
          put_next (front_words h a b) (lines_words h a b) first out at p.written most_long last words
          (subst (λ (ws : List ℤ). Put words last ws (lent at out)) same_lines q.written)

      counted : end - used ≡ count
      counted = omega (arith, q.variables)

      pub last_few : end - used ≤ max_lines
      last_few = omega (arith, counted, counted_few h, ready.lines)

      pub last_fits : used + (end - used) < word_limit
      last_fits = omega (arith, counted, counted_few h, used_few)

      last_long : length last_words ≡ count + 2
      last_long = ap (λ (t : Totals). t.words) (last_sizes (suc (front_used h a b)) count)

      pub last_room : end - used + 2 ≤ length (lent (at + words) (with_lent at out last))
      last_room = omega (arith, counted, last_long, rest_room (front_words h a b ++ lines_words h a b) last_words first (with_lent at out last) (at + words) put_lines whole_long)

      pub list_filled : (all : List ℤ) → all ≡ over (last_stored (end - used) used) (lent (at + words) (with_lent at out last))
          → with_lent (at + words) (with_lent at out last) all ≡ over (stored (pair_clauses h a b)) first
      list_filled all e =
          let same : last_stored (end - used) used ≡ last_words = ap₂ last_stored counted p.variables in
          (put_next (front_words h a b ++ lines_words h a b) last_words first (with_lent at out last) (at + words) put_lines whole_long all (length last_words)
          (record { count = refl; buffer = e ∙ ap (λ (ws : List ℤ). over ws (lent (at + words) (with_lent at out last))) same })).buffer
          ∙ ap (λ (ws : List ℤ). over ws first) (sym (list_words h a b))

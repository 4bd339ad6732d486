-- Every literal of a pair's list is one of a variable from 1 to V, and every stored number fits a word. Assumes nothing.
use Rattle.std.proofs.Common.{◌≡◌, ℕ, zero, suc, ◌+◌, ◌*◌, ◌<◌, ◌≤◌, Bool, true, false, cond, List, [], ◌∷◌, map, length, arith, length-append}
use Rattle.bits.specs.Digits.{bit, lines_in}
use Rattle.bits.specs.Lists.{All}
use Rattle.bits.proofs.Lists.{all_append, all_map}
use Rattle.circuit.specs.declared.gate.Gate.{Gate}
use Rattle.circuit.specs.declared.header.Header.{Header}
use Rattle.circuit.specs.Gate.{max_lines, max_gates}
use Rattle.circuit.specs.Header.{marked}
use Rattle.circuit.specs.Words.{all_valid}
use Rattle.circuit.specs.Inverse.{inverse}
use Rattle.circuit.proofs.Promises.{valid_append, inverse_valid, inverse_length}
use Rattle.checking.specs.Clauses.{Clause, plus, minus, input_of, gates_clauses, used_after, current_after, up_from, difference_clauses, clauses_of, variables_of}
use Rattle.checking.specs.Satisfaction.{LiteralsWithin, clause_literals, ClausesWithin}
use Rattle.checking.specs.Stored.{stored, FitsIn, AllFit, word_limit}
use Rattle.checking.specs.Miter.{miter_gates}
use Rattle.checking.specs.Pair.{constant_clause, constant_clauses, without_junk, counted_lines, either_targets, used_after_both, side_by_side, pair_clauses, pair_variables}
use Rattle.checking.proofs.lemmas.clauses.Forced.{Below, below_up_from, used_more, length_up_from}
use Rattle.checking.proofs.lemmas.clauses.Within.{inputs_named, after_named, gates_within, differences_within, last_within, clauses_within}
use Rattle.checking.proofs.lemmas.clauses.Fits.{Short, short_gates, short_differences, short_last, stored_fits, counts_small, limits_fit, count_fits, used_bound, variables_few}

-- ---- the lines of a mask, and those that count, are lines below n

pub lines_below : (mask n m : ℕ) → n ≤ m → Below m (lines_in mask n)
unfolding lines_in
lines_below mask zero m h = tt
lines_below mask (suc n) m h = all_append _ (lines_in mask n) _ (lines_below mask n m (omega arith)) (one (bit mask n))
  where
    one : (b : Bool) → Below m (cond b (n ∷ []) [])
    one true = (omega arith, tt)
    one false = tt

pub kept_below : (junk m : ℕ) (ks : List ℕ) → Below m ks → Below m (without_junk junk ks)
unfolding without_junk
kept_below junk m [] h = tt
kept_below junk m (k ∷ ks) h = one (bit junk k) (without_junk junk ks) (kept_below junk m ks h.1)
  where
    one : (b : Bool) (kept : List ℕ) → Below m kept → Below m (cond b kept (k ∷ kept))
    one true kept w = w
    one false kept w = (h.0, w)

pub kept_few : (junk : ℕ) (ks : List ℕ) → length (without_junk junk ks) ≤ length ks
unfolding without_junk
kept_few junk [] = omega arith
kept_few junk (k ∷ ks) = one (bit junk k) (without_junk junk ks) (kept_few junk ks)
  where
    one : (b : Bool) (kept : List ℕ) → length kept ≤ length ks → length (cond b kept (k ∷ kept)) ≤ suc (length ks)
    one true kept h = omega arith
    one false kept h = omega arith

pub counted_below : (h : Header) → Below h.lines (counted_lines h)
counted_below h = kept_below h.junk h.lines (up_from 0 h.lines) (below_up_from h.lines 0 h.lines (omega arith))

pub counted_few : (h : Header) → length (counted_lines h) ≤ h.lines
counted_few h = omega (arith, kept_few h.junk (up_from 0 h.lines), length_up_from 0 h.lines)

-- ---- the clauses of the constants

constants_within : (h : Header) (m : ℕ) → h.lines ≤ m → ClausesWithin m (constant_clauses h)
constants_within h m few =
    all_map (λ (k : ℕ). k < h.lines) (λ (c : Clause). LiteralsWithin m (clause_literals c)) (constant_clause h) (λ k l. one (bit h.values k) k l) (lines_in h.constants h.lines)
    (lines_below h.constants h.lines h.lines (omega arith))
  where
    one : (b : Bool) (k : ℕ) → k < h.lines → LiteralsWithin m (cond b (plus (input_of k)) (minus (input_of k)) ∷ [])
    one true k l = ((omega arith, omega arith), tt)
    one false k l = ((omega arith, omega arith), tt)

short_constants : (h : Header) (m : ℕ) (ks : List ℕ) → 1 ≤ m → Short m (map (constant_clause h) ks)
short_constants h m [] some = tt
short_constants h m (k ∷ ks) some = (some, short_constants h m ks some)

-- ---- the list

module _ (h : Header) (a b : List Gate) (few : h.lines ≤ max_lines) where
  abbrev n : ℕ
  n = h.lines

  pub side_within : all_valid n a ≡ true → all_valid n b ≡ true → ClausesWithin (used_after_both h a b + length (counted_lines h)) (side_by_side h a b)
  unfolding side_by_side
  side_within v w =
      let m = used_after_both h a b + length (counted_lines h) in
      let middle : ℕ = used_after n a in
      let after_a = used_more n a in
      let after_b = used_more middle b in
      let start = inputs_named n m (omega arith) in
      all_append _ (constant_clauses h) _ (constants_within h m (omega arith))
      (all_append _ (gates_clauses n input_of a) _ (gates_within n m n input_of a few v (omega arith) start)
      (all_append _ (gates_clauses middle input_of b) _ (gates_within n m middle input_of b few w (omega arith) start)
      (all_append _ (difference_clauses (either_targets a b) (current_after n input_of a) (current_after middle input_of b) (used_after_both h a b) (counted_lines h)) _
      (differences_within n m (either_targets a b) (current_after n input_of a) (current_after middle input_of b)
      (after_named n m n input_of a (omega arith) start) (after_named n m middle input_of b (omega arith) start)
      (used_after_both h a b) (counted_lines h) (omega arith) (counted_below h))
      (last_within m (suc (used_after_both h a b)) (length (counted_lines h)) (omega arith) (omega arith), tt))))

  short_side : Short (max_lines + 3) (side_by_side h a b)
  unfolding side_by_side
  short_side =
      let middle : ℕ = used_after n a in
      let k : ℕ = max_lines + 3 in
      all_append _ (constant_clauses h) _ (short_constants h k (lines_in h.constants n) (omega arith))
      (all_append _ (gates_clauses n input_of a) _ (short_gates k n input_of a (omega arith))
      (all_append _ (gates_clauses middle input_of b) _ (short_gates k middle input_of b (omega arith))
      (all_append _ (difference_clauses (either_targets a b) (current_after n input_of a) (current_after middle input_of b) (used_after_both h a b) (counted_lines h)) _
      (short_differences k (either_targets a b) (current_after n input_of a) (current_after middle input_of b) (used_after_both h a b) (counted_lines h) (omega arith))
      (short_last k (suc (used_after_both h a b)) (length (counted_lines h)) (omega (arith, counted_few h)), tt))))

  miter_valid : all_valid n a ≡ true → all_valid n b ≡ true → all_valid n (miter_gates a b) ≡ true
  miter_valid v w = valid_append n a (inverse b) v (inverse_valid n b w)

  -- every literal of the list is one of a variable from 1 to V
  pub pair_within : all_valid n a ≡ true → all_valid n b ≡ true → ClausesWithin (pair_variables h a b) (pair_clauses h a b)
  unfolding pair_variables pair_clauses
  pair_within v w = by (marked h)
    where
      by : (t : Bool) → ClausesWithin (cond t (used_after_both h a b + length (counted_lines h)) (variables_of n (miter_gates a b))) (cond t (side_by_side h a b) (clauses_of n (miter_gates a b)))
      by true = side_within v w
      by false = clauses_within n (miter_gates a b) few (miter_valid v w)

  short_pair : Short (max_lines + 3) (pair_clauses h a b)
  unfolding pair_clauses
  short_pair = by (marked h)
    where
      by : (t : Bool) → Short (max_lines + 3) (cond t (side_by_side h a b) (clauses_of n (miter_gates a b)))
      by true = short_side
      by false = counts_small n (miter_gates a b) few

  -- two variables at most for each line and each gate
  pub pair_variables_few : pair_variables h a b ≤ 2 * n + 2 * (length a + length b)
  unfolding pair_variables
  pair_variables_few = by (marked h)
    where
      by : (t : Bool) → cond t (used_after_both h a b + length (counted_lines h)) (variables_of n (miter_gates a b)) ≤ 2 * n + 2 * (length a + length b)
      by true = omega (arith, used_bound n a, used_bound (used_after n a) b, counted_few h)
      by false = omega (arith, variables_few n (miter_gates a b), length-append a (inverse b), inverse_length b)

  -- every number of the list is one of a width that holds so many variables, and fits a word
  pub pair_words_within : (limit : ℕ) → max_lines + 3 < limit → pair_variables h a b < limit → all_valid n a ≡ true → all_valid n b ≡ true
      → All (FitsIn limit) (stored (pair_clauses h a b))
  pair_words_within limit more fits v w =
      stored_fits limit (pair_variables h a b) (max_lines + 3) (pair_clauses h a b) fits more (omega arith) (pair_within v w) short_pair

  pub pair_words_fit : length a ≤ max_gates → length b ≤ max_gates → all_valid n a ≡ true → all_valid n b ≡ true → AllFit (stored (pair_clauses h a b))
  pair_words_fit short_a short_b v w = pair_words_within word_limit count_fits (omega (arith, limits_fit, pair_variables_few)) v w

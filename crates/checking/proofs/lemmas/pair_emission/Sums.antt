-- The sums of a pair are the variables, clauses and words of its list. Assumes nothing.
use Rattle.std.proofs.Common.{◌≡◌, ℕ, suc, ◌+◌, ◌-◌, ◌*◌, ◌^◌, ◌<◌, ◌≤◌, Bool, true, false, not, ◌&&◌, ◌||◌, eqb, eqb-true, lt-ltb, List, [], ◌∷◌, ◌++◌, map, length, sym, refl, ap, ◌∙◌, ap₂, arith}
use mathlib.Core.Bool.{xor, or-false, or_assoc, or_comm, not-not}
use mathlib.Core.List.{reverse-cons}
use mathlib.Core.Path.{fun_ext}
use Rattle.std.proofs.Math.Pow.{pow_mono}
use lib.Bits.{bit_and, bit_or, and_le_l, or_lt}
use lib.Count.{ones}
use Rattle.bits.specs.Digits.{bit, lines_in}
use Rattle.bits.proofs.Bools.{and_parts, either, cond-true, cond-false, xor_all}
use Rattle.bits.proofs.Digits.{bit-and, bit-or, bit-xor, lines_ones}
use Rattle.bits.proofs.Lowest.{lines_none}
use Rattle.circuit.specs.declared.gate.Gate.{Gate}
use Rattle.circuit.specs.declared.header.Header.{Header}
use Rattle.circuit.specs.Gate.{max_lines, control_count}
use Rattle.circuit.specs.Header.{marks_good, marked}
use Rattle.circuit.specs.Words.{all_valid}
use Rattle.circuit.specs.Inverse.{inverse}
use Rattle.circuit.proofs.Promises.{marks_facts, valid_append, inverse_valid}
use Rattle.checking.specs.declared.clauses.Totals.{Totals}
use Rattle.checking.specs.Clauses.{OR, plus, input_of, gates_clauses, used_after, current_after, targeted, up_from, difference_clauses, clauses_of, variables_of}
use Rattle.checking.specs.Stored.{stored}
use Rattle.checking.specs.Sizes.{totals, added, gate_sizes, gates_sizes, lines_sizes, sizes_of}
use Rattle.checking.specs.Faults.{mask_where}
use Rattle.checking.specs.private.Sums.{sums_of, pair_totals}
use Rattle.checking.specs.Miter.{miter_gates}
use Rattle.checking.specs.Pair.{constant_clause, constant_clauses, without_junk, counted_lines, either_targets, used_after_both, side_by_side, pair_clauses, pair_variables, pair_sizes_of}
use Rattle.checking.proofs.lemmas.clauses.Forced.{length_up_from}
use Rattle.checking.proofs.lemmas.clauses.Sums.{sizes_in, sizes_append, gates_sizes_lem, used_sizes, lines_sizes_lem, last_sizes, sizes_list, totals_same}
use Rattle.checking.proofs.lemmas.clauses.Totals.{counted_count, lines_share, none_junk}
use Rattle.checking.proofs.lemmas.faults.Masks.{flipped, mask_below, mask_bit, all_bit}

-- ---- the list of a pair side by side

constants_sizes : (h : Header) (ks : List ℕ) → sizes_in 0 (map (constant_clause h) ks) ≡ totals 0 (length ks) (3 * length ks)
unfolding stored
constants_sizes h [] = refl
constants_sizes h (k ∷ ks) =
    let more = constants_sizes h ks in
    let words : length (stored (map (constant_clause h) (k ∷ ks))) ≡ 3 * length (k ∷ ks) = omega (arith, ap (λ (t : Totals). t.words) more) in
    ap₂ (totals 0) (ap (λ (t : Totals). suc t.clauses) more) words

pub side_sizes : (h : Header) (a b : List Gate) → h.lines ≤ max_lines → all_valid h.lines a ≡ true → all_valid h.lines b ≡ true
    → pair_sizes_of h a b ≡ sizes_in (used_after_both h a b + length (counted_lines h)) (side_by_side h a b)
unfolding pair_sizes_of side_by_side stored
side_sizes h a b few v w =
    let n : ℕ = h.lines in
    let ks = counted_lines h in
    let middle : ℕ = used_after n a in
    let last = OR (map plus (up_from (suc (used_after_both h a b)) (length ks))) ∷ [] in
    let fourth = difference_clauses (either_targets a b) (current_after n input_of a) (current_after middle input_of b) (used_after_both h a b) ks in
    let third = gates_clauses middle input_of b in
    let second = gates_clauses n input_of a in
    let first = constant_clauses h in
    let va : ℕ = (gates_sizes a).variables in
    let vb : ℕ = (gates_sizes b).variables in
    let sum : n + (0 + (va + (vb + (length ks + 0)))) ≡ used_after_both h a b + length ks = omega (arith, used_sizes n n a few v, used_sizes n middle b few w) in
    sym
    (ap (λ (i : ℕ). sizes_in i (first ++ (second ++ (third ++ (fourth ++ last))))) (sym sum)
    ∙ sizes_append n (0 + (va + (vb + (length ks + 0)))) [] (first ++ (second ++ (third ++ (fourth ++ last))))
    ∙ ap (added (totals n 0 0))
    (sizes_append 0 (va + (vb + (length ks + 0))) first (second ++ (third ++ (fourth ++ last)))
    ∙ ap₂ added (constants_sizes h (lines_in h.constants h.lines))
    (sizes_append va (vb + (length ks + 0)) second (third ++ (fourth ++ last))
    ∙ ap₂ added (gates_sizes_lem n n input_of a few v)
    (sizes_append vb (length ks + 0) third (fourth ++ last)
    ∙ ap₂ added (gates_sizes_lem n middle input_of b few w)
    (sizes_append (length ks) 0 fourth last
    ∙ ap₂ added (lines_sizes_lem (either_targets a b) (current_after n input_of a) (current_after middle input_of b) (used_after_both h a b) ks) (last_sizes (suc (used_after_both h a b)) (length ks)))))))

-- ---- the miter's

targeted_append : (a b : List Gate) (k : ℕ) → targeted (a ++ b) k ≡ (targeted a k || targeted b k)
unfolding targeted
targeted_append [] b k = refl
targeted_append (g ∷ a) b k = ap (λ (t : Bool). eqb k g.target || t) (targeted_append a b k) ∙ sym (or_assoc (eqb k g.target) (targeted a k) (targeted b k))

targeted_inverse : (gs : List Gate) (k : ℕ) → targeted (inverse gs) k ≡ targeted gs k
unfolding targeted
targeted_inverse [] k = refl
targeted_inverse (g ∷ gs) k =
    ap (λ (l : List Gate). targeted l k) (reverse-cons g gs)
    ∙ targeted_append (inverse gs) (g ∷ []) k
    ∙ ap₂ ◌||◌ (targeted_inverse gs k) (or-false (eqb k g.target))
    ∙ or_comm (targeted gs k) (eqb k g.target)

-- a gate of the miter targets a line exactly where one of the cascades does
pub targeted_miter : (a b : List Gate) → targeted (miter_gates a b) ≡ either_targets a b
targeted_miter a b = fun_ext (λ k. targeted_append a (inverse b) k ∙ ap (λ (t : Bool). targeted a k || t) (targeted_inverse b k))

sizes_gates : (a b : List Gate) → gates_sizes (a ++ b) ≡ added (gates_sizes a) (gates_sizes b)
unfolding gates_sizes
sizes_gates [] b = totals_same _ _ (omega arith) (omega arith) (omega arith)
sizes_gates (g ∷ a) b =
    ap (added (gate_sizes (control_count g))) (sizes_gates a b) ∙ totals_same _ _ (omega arith) (omega arith) (omega arith)

sizes_inverse : (gs : List Gate) → gates_sizes (inverse gs) ≡ gates_sizes gs
unfolding gates_sizes
sizes_inverse [] = refl
sizes_inverse (g ∷ gs) =
    ap gates_sizes (reverse-cons g gs)
    ∙ sizes_gates (inverse gs) (g ∷ [])
    ∙ ap (λ (t : Totals). added t (added (gate_sizes (control_count g)) (totals 0 0 0))) (sizes_inverse gs)
    ∙ totals_same _ _ (omega arith) (omega arith) (omega arith)

-- without marks
unmarked_masks : (h : Header) → marked h ≡ false → (h.constants ≡ 0) × (h.junk ≡ 0)
unmarked_masks h e =
    let (a, b) = and_parts (eqb h.constants 0) (eqb h.junk 0) (sym (not-not (eqb h.constants 0 && eqb h.junk 0)) ∙ ap not e) in
    (eqb-true _ _ a, eqb-true _ _ b)

-- every line counts
pub unmarked_lines : (h : Header) → marked h ≡ false → counted_lines h ≡ up_from 0 h.lines
unmarked_lines h e = ap (λ (x : ℕ). without_junk x (up_from 0 h.lines)) (unmarked_masks h e).1 ∙ none_junk h.lines

pub miter_sizes : (h : Header) (a b : List Gate) → marked h ≡ false → pair_sizes_of h a b ≡ sizes_of h.lines (miter_gates a b)
unfolding pair_sizes_of sizes_of
miter_sizes h a b e =
    let n : ℕ = h.lines in
    let no_constants = (unmarked_masks h e).0 in
    let constants : length (lines_in h.constants n) ≡ 0 = ap (λ (x : ℕ). length (lines_in x n)) no_constants ∙ ap length (lines_none n) in
    let counted = unmarked_lines h e in
    let gates : gates_sizes (miter_gates a b) ≡ added (gates_sizes a) (gates_sizes b) = sizes_gates a (inverse b) ∙ ap (added (gates_sizes a)) (sizes_inverse b) in
    let lines : lines_sizes (either_targets a b) (counted_lines h) ≡ lines_sizes (targeted (miter_gates a b)) (up_from 0 n) =
    ap₂ lines_sizes (sym (targeted_miter a b)) counted in
    let long : length (counted_lines h) ≡ n = ap length counted ∙ length_up_from 0 n in
    totals_same _ _
    (omega (arith, ap (λ (t : Totals). t.variables) gates, ap (λ (t : Totals). t.variables) lines))
    (omega (arith, constants, ap (λ (t : Totals). t.clauses) gates, ap (λ (t : Totals). t.clauses) lines))
    (omega (arith, constants, long, ap (λ (t : Totals). t.words) gates, ap (λ (t : Totals). t.words) lines))

-- ---- of any pair

pub pair_sizes_list : (h : Header) (a b : List Gate) → h.lines ≤ max_lines → all_valid h.lines a ≡ true → all_valid h.lines b ≡ true
    → pair_sizes_of h a b ≡ totals (pair_variables h a b) (length (pair_clauses h a b)) (length (stored (pair_clauses h a b)))
unfolding pair_variables pair_clauses
pair_sizes_list h a b few v w =
    either (marked h)
    (λ e.
    side_sizes h a b few v w
    ∙ ap₂ sizes_in
    (sym (cond-true (marked h) (used_after_both h a b + length (counted_lines h)) (variables_of h.lines (miter_gates a b)) e))
    (sym (cond-true (marked h) (side_by_side h a b) (clauses_of h.lines (miter_gates a b)) e)))
    (λ e.
    miter_sizes h a b e
    ∙ sizes_list h.lines (miter_gates a b) few (valid_append h.lines a (inverse b) v (inverse_valid h.lines b w))
    ∙ ap₂ sizes_in
    (sym (cond-false (marked h) (used_after_both h a b + length (counted_lines h)) (variables_of h.lines (miter_gates a b)) e))
    (sym (cond-false (marked h) (side_by_side h a b) (clauses_of h.lines (miter_gates a b)) e)))

-- ---- the totals that the code makes of the sums over the gates of each

module _ (h : Header) (a b : List Gate) (few : h.lines ≤ max_lines) (marks : marks_good h ≡ true) where
  abbrev n : ℕ
  n = h.lines

  abbrev targets : ℕ
  targets = bit_or (mask_where n (targeted a)) (mask_where n (targeted b))

  -- the lines that count and that a gate targets
  abbrev hit : ℕ
  hit = bit_and targets (2 ^ max_lines - 1 - h.junk)

  hit_below : hit < 2 ^ n
  hit_below =
      omega (
        arith,
        and_le_l targets (2 ^ max_lines - 1 - h.junk),
        or_lt n (mask_where n (targeted a)) (mask_where n (targeted b)) (mask_below n (targeted a)) (mask_below n (targeted b)),
      )

  one_target : (gs : List Gate) (k : ℕ) → k < n → bit (mask_where n (targeted gs)) k ≡ targeted gs k
  one_target gs k l = mask_bit n (targeted gs) k ∙ ap (λ (t : Bool). t && targeted gs k) (lt-ltb k n l)

  junk_small : h.junk < 2 ^ max_lines
  junk_small = omega (arith, (marks_facts h marks).1, pow_mono few)

  hit_lines : (k : ℕ) → k < n → bit hit k ≡ (either_targets a b k && not (bit h.junk k))
  hit_lines k l =
      bit-and targets (2 ^ max_lines - 1 - h.junk) k
      ∙ ap₂ ◌&&◌
      (bit-or (mask_where n (targeted a)) (mask_where n (targeted b)) k ∙ ap₂ ◌||◌ (one_target a k l) (one_target b k l))
      (ap (λ (x : ℕ). bit x k) (flipped max_lines h.junk junk_small)
      ∙ bit-xor h.junk (2 ^ max_lines - 1) k
      ∙ ap (xor (bit h.junk k)) (all_bit max_lines k ∙ lt-ltb k max_lines (omega arith))
      ∙ xor_all (bit h.junk k))

  pub pair_totals_made : pair_sizes_of h a b ≡ pair_totals h (sums_of n a) (sums_of n b)
  unfolding pair_sizes_of
  pair_totals_made =
      let (constants_below, junk_below, inside) = marks_facts h marks in
      let counted : length (counted_lines h) ≡ n - ones h.junk = omega (arith, counted_count h.junk n, lines_ones n h.junk junk_below) in
      let lines : lines_sizes (either_targets a b) (counted_lines h) ≡ totals (n - ones h.junk) (n - ones h.junk) (3 * (n - ones h.junk) + 2 * ones hit) =
      lines_share hit h.junk (either_targets a b) n hit_lines
      ∙ ap₂ (λ (k m : ℕ). totals k k (3 * k + 2 * m)) counted (lines_ones n hit hit_below) in
      let constants = lines_ones n h.constants constants_below in
      totals_same _ _
      (omega (arith, ap (λ (t : Totals). t.variables) lines))
      (omega (arith, constants, ap (λ (t : Totals). t.clauses) lines))
      (omega (arith, constants, counted, ap (λ (t : Totals). t.words) lines))

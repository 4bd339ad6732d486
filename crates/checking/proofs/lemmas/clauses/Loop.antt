-- What a turn over the gates adds to the sums, and the sums at the end. Assumes nothing.
use Rattle.std.proofs.Common.{◌≡◌, ℕ, zero, suc, ◌+◌, ◌*◌, ◌/◌, ◌^◌, ◌<◌, ◌≤◌, Bool, true, false, ◌||◌, eqb, List, [], ◌∷◌, length, drop, sym, refl, ap, ◌∙◌, ap₂, zero-add, arith, ne_eqb}
use mathlib.Core.Bool.{or-false, or_assoc}
use lib.Bits.{bit_or}
use Rattle.bits.specs.Digits.{bit}
use Rattle.bits.proofs.Digits.{bit_none, bit-or, bit_pow}
use Rattle.circuit.specs.declared.gate.Gate.{Gate}
use Rattle.circuit.specs.Gate.{max_lines, max_miter_gates, valid, control_count}
use Rattle.circuit.specs.Outcome.{served, refused, and_then}
use Rattle.circuit.specs.Refusal.{bad_line_count}
use Rattle.circuit.specs.Words.{gates_of, gate_at, all_valid, line_count_good, valid_from, size_outcome, check_outcome}
use Rattle.circuit.proofs.Promises.{then_served, then_refused, then_both, then_fails, valid_facts, valid_more, controls_count, gates_next, gates_end, next_good, none_left, from_served, check_lines, check_gates, gates_refused, gates_sized, few_controls, valid_parts}
use Rattle.checking.specs.declared.clauses.Totals.{Totals}
use Rattle.checking.specs.declared.sums.Sums.{Sums}
use Rattle.checking.specs.Clauses.{targeted}
use Rattle.checking.specs.Sizes.{totals, added, gate_sizes, gates_sizes, sizes_of, sizes_outcome}
use Rattle.checking.specs.Faults.{mask_where}
use Rattle.checking.specs.private.Sums.{sums_of}
use Rattle.checking.proofs.lemmas.clauses.Sums.{totals_same}
use Rattle.checking.proofs.lemmas.faults.Masks.{is_mask}

-- ---- the sizes of a gate

pub sizes_many : (k : ℕ) → 2 ≤ k → gate_sizes k ≡ totals 2 (k + 2) (4 * (k + 2) + k)
sizes_many zero h = absurd (omega arith)
sizes_many (suc zero) h = absurd (omega arith)
sizes_many (suc (suc k)) h =
    let e : suc (suc k) + 3 + 4 * suc (suc k) + 5 ≡ 4 * (suc (suc k) + 2) + suc (suc k) = omega arith in
    ap (totals 2 (suc (suc k) + 2)) e

gate_words_lem : (k : ℕ) → (gate_sizes k).words ≡ 4 * (gate_sizes k).clauses + k
gate_words_lem zero = refl
gate_words_lem (suc zero) = refl
gate_words_lem (suc (suc k)) = omega arith

pub one_more : (k m : ℕ) → m + 1 ≡ (gate_sizes k).variables → m ≤ 1
one_more zero m e = omega arith
one_more (suc zero) m e = omega arith
one_more (suc (suc k)) m e = omega arith

pub controls_more : (k m : ℕ) → m + (gate_sizes k).variables ≡ (gate_sizes k).clauses → m ≤ k
controls_more zero m e = omega arith
controls_more (suc zero) m e = omega arith
controls_more (suc (suc k)) m e = omega arith

-- a gate on at most 64 lines has at most 64 controls
pub controls_few : (n : ℕ) (g : Gate) → n ≤ max_lines → valid n g ≡ true → control_count g ≤ max_lines
controls_few n g few v = omega (arith, controls_count g (valid_more n max_lines g few v), few_controls max_lines g)

-- ---- the lines that gates target, as a mask

targeted_below : (n : ℕ) (gs : List Gate) (k : ℕ) → all_valid n gs ≡ true → n ≤ k → targeted gs k ≡ false
unfolding targeted
targeted_below n [] k v h = refl
targeted_below n (g ∷ gs) k v h =
    let (a, b) = valid_parts n g gs v in
    let below = (valid_facts n g a).target_below in
    ap₂ ◌||◌ (ne_eqb k g.target (λ e. omega arith)) (targeted_below n gs k b h)

-- ---- the loop

-- gates below i are valid and summed up, and the others are left
pub record Summed (n : ℕ) (ws : List ℕ) (variables clauses controls hit i : ℕ) : Type 0 where
  pub inside : i ≤ length ws / 3
  pub tested : valid_from n 0 (gates_of ws) ≡ valid_from n i (gates_of (drop (3 * i) ws))
  pub few_variables : variables ≤ i
  pub few_clauses : clauses ≤ 64 * i
  pub few_controls : controls ≤ 64 * i
  pub variables_left : i + variables + (gates_sizes (gates_of (drop (3 * i) ws))).variables ≡ (gates_sizes (gates_of ws)).variables
  pub clauses_left_lem : i + variables + clauses + (gates_sizes (gates_of (drop (3 * i) ws))).clauses ≡ (gates_sizes (gates_of ws)).clauses
  pub words_left : 4 * (i + variables + clauses) + controls + (gates_sizes (gates_of (drop (3 * i) ws))).words ≡ (gates_sizes (gates_of ws)).words
  pub lines_left_lem : (k : ℕ) → (bit hit k || targeted (gates_of (drop (3 * i) ws)) k) ≡ targeted (gates_of ws) k

pub summed_start : (n : ℕ) (ws : List ℕ) → Summed n ws 0 0 0 0 0
summed_start n ws =
    record {
      inside = omega arith;
      tested = refl;
      few_variables = omega arith;
      few_clauses = omega arith;
      few_controls = omega arith;
      variables_left = zero-add _;
      clauses_left_lem = zero-add _;
      words_left = zero-add _;
      lines_left_lem = λ k. ap (λ (b : Bool). b || targeted (gates_of ws) k) (bit_none k);
    }

module _ (n : ℕ) (ws : List ℕ) (v c d hit i : ℕ) (g : Gate) (few : n ≤ max_lines) (s : Summed n ws v c d hit i) (inside : i < length ws / 3) (is : g ≡ gate_at ws i)
    (good : valid n g ≡ true) where
  turn_sizes : gates_sizes (gates_of (drop (3 * i) ws)) ≡ added (gate_sizes (control_count g)) (gates_sizes (gates_of (drop (3 * (i + 1)) ws)))
  unfolding gates_sizes
  turn_sizes =
      ap gates_sizes (gates_next ws i inside)
      ∙ ap (λ (h : Gate). added (gate_sizes (control_count h)) (gates_sizes (gates_of (drop (3 * (i + 1)) ws)))) (sym is)

  turn_lines : (k : ℕ) → (bit (bit_or hit (2 ^ g.target)) k || targeted (gates_of (drop (3 * (i + 1)) ws)) k) ≡ targeted (gates_of ws) k
  unfolding targeted
  turn_lines k =
      ap (λ (b : Bool). b || targeted (gates_of (drop (3 * (i + 1)) ws)) k) (bit-or hit (2 ^ g.target) k ∙ ap (λ (b : Bool). bit hit k || b) (bit_pow g.target k))
      ∙ or_assoc (bit hit k) (eqb k g.target) (targeted (gates_of (drop (3 * (i + 1)) ws)) k)
      ∙ ap (λ (h : Gate). bit hit k || (eqb k h.target || targeted (gates_of (drop (3 * (i + 1)) ws)) k)) is
      ∙ ap (λ (gs : List Gate). bit hit k || targeted gs k) (sym (gates_next ws i inside))
      ∙ s.lines_left_lem k

  pub summed_next : (k x y : ℕ) → k ≡ control_count g → x + 1 ≡ (gate_sizes k).variables → y + (gate_sizes k).variables ≡ (gate_sizes k).clauses
      → Summed n ws (v + x) (c + y) (d + k) (bit_or hit (2 ^ g.target)) (i + 1)
  summed_next k x y count p q =
      let controls = controls_few n g few good in
      let turn : gates_sizes (gates_of (drop (3 * i) ws)) ≡ added (gate_sizes k) (gates_sizes (gates_of (drop (3 * (i + 1)) ws))) =
      turn_sizes ∙ ap (λ (j : ℕ). added (gate_sizes j) (gates_sizes (gates_of (drop (3 * (i + 1)) ws)))) (sym count) in
      record {
        inside = omega arith;
        tested = s.tested ∙ next_good n ws i g inside is good;
        few_variables = omega (arith, s.few_variables, one_more k x p);
        few_clauses = omega (arith, s.few_clauses, controls_more k y q);
        few_controls = omega (arith, s.few_controls);
        variables_left = omega (arith, s.variables_left, ap (λ (t : Totals). t.variables) turn);
        clauses_left_lem = omega (arith, s.clauses_left_lem, ap (λ (t : Totals). t.clauses) turn);
        words_left = omega (arith, s.words_left, ap (λ (t : Totals). t.words) turn, gate_words_lem k);
        lines_left_lem = turn_lines;
      }

-- at the end: the totals that the code makes of the sums
abbrev pub summed : (gates variables clauses controls : ℕ) → Totals
summed gates variables clauses controls = totals (gates + variables) (gates + variables + clauses) (4 * (gates + variables + clauses) + controls)

module _ (n : ℕ) (ws : List ℕ) (v c d hit i : ℕ) (past : length ws / 3 ≤ i) (s : Summed n ws v c d hit i) where
  abbrev gs : List Gate
  gs = gates_of ws

  all_tested : valid_from n 0 gs ≡ served i
  all_tested = s.tested ∙ none_left n ws i past

  none : gates_of (drop (3 * i) ws) ≡ []
  none = gates_end ws i past

  all_summed : summed (length ws / 3) v c d ≡ gates_sizes gs
  unfolding gates_sizes
  all_summed =
      let empty : gates_sizes (gates_of (drop (3 * i) ws)) ≡ totals 0 0 0 = ap gates_sizes none in
      let all : length ws / 3 ≡ i = omega (arith, s.inside) in
      totals_same _ _
      (omega (arith, s.variables_left, ap (λ (x : Totals). x.variables) empty))
      (omega (arith, s.clauses_left_lem, ap (λ (x : Totals). x.clauses) empty))
      (omega (arith, s.words_left, ap (λ (x : Totals). x.words) empty))

  all_targets : hit ≡ mask_where n (targeted gs)
  unfolding targeted
  all_targets =
      let good = (from_served n 0 gs i all_tested).0 in
      let same : (k : ℕ) → bit hit k ≡ targeted gs k =
      λ k. sym (or-false (bit hit k)) ∙ ap (λ (hs : List Gate). bit hit k || targeted hs k) (sym none) ∙ s.lines_left_lem k in
      is_mask n (targeted gs) hit (λ k h. same k) (λ k h. same k ∙ targeted_below n gs k good h)

  pub summed_all : served (record { totals = summed (length ws / 3) v c d; targets = hit }) ≡ and_then (valid_from n 0 gs) (λ k. served (sums_of n gs))
  summed_all =
      ap₂ (λ (t : Totals) (m : ℕ). served (record { totals = t; targets = m })) all_summed all_targets
      ∙ sym (then_served (valid_from n 0 gs) (λ k. served (sums_of n gs)) i all_tested)

-- ---- what the call answers

module _ (n : ℕ) (ws : List ℕ) where
  pub sizes_lines : line_count_good n ≡ false → sizes_outcome n ws ≡ refused bad_line_count 0
  unfolding sizes_outcome
  sizes_lines e = then_refused _ _ bad_line_count 0 (check_lines n ws max_miter_gates e)

  pub sizes_refused : line_count_good n ≡ true → (number place : ℕ) → size_outcome ws max_miter_gates ≡ refused number place → sizes_outcome n ws ≡ refused number place
  unfolding sizes_outcome
  sizes_refused good number place e = then_refused _ _ number place (check_gates n ws max_miter_gates good ∙ gates_refused n ws max_miter_gates number place e)

  module _ (good : line_count_good n ≡ true) (k : ℕ) (sized : size_outcome ws max_miter_gates ≡ served k) where
    tested : check_outcome n ws max_miter_gates ≡ valid_from n 0 (gates_of ws)
    tested = check_gates n ws max_miter_gates good ∙ gates_sized n ws max_miter_gates k sized

    pub sizes_untested : (number place : ℕ) → and_then (valid_from n 0 (gates_of ws)) (λ k. served (sums_of n (gates_of ws))) ≡ refused number place
        → sizes_outcome n ws ≡ refused number place
    unfolding sizes_outcome
    sizes_untested number place e = then_refused _ _ number place (tested ∙ then_fails (valid_from n 0 (gates_of ws)) (λ k. sums_of n (gates_of ws)) number place e)

    pub sizes_tested : (s : Sums) → and_then (valid_from n 0 (gates_of ws)) (λ k. served (sums_of n (gates_of ws))) ≡ served s
        → sizes_outcome n ws ≡ served (sizes_of n (gates_of ws))
    unfolding sizes_outcome
    sizes_tested s e =
        let (m, v, f) = then_both (valid_from n 0 (gates_of ws)) (λ k. served (sums_of n (gates_of ws))) s e in
        then_served _ _ m (tested ∙ v)

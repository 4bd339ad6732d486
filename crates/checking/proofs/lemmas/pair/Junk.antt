-- The list of a pair whose lines are all junk. Assumes nothing.
use Rattle.std.proofs.Common.{◌≡◌, ℕ, suc, ◌≤◌, Bool, true, false, not, ◌&&◌, eqb, List, [], ◌∷◌, ◌++◌, map, length, sym, refl, ap, ◌∙◌, arith, eqb-true}
use mathlib.Core.Bool.{and-false, not-not}
use Rattle.bits.specs.Digits.{bit}
use Rattle.bits.specs.Lists.{All}
use Rattle.bits.proofs.Bools.{and_parts, either, cond-true}
use Rattle.bits.proofs.Digits.{bit_none}
use Rattle.circuit.specs.declared.gate.Gate.{Gate}
use Rattle.circuit.specs.declared.header.Header.{Header}
use Rattle.circuit.specs.Header.{marked, LineCounts}
use Rattle.checking.specs.Miter.{miter_gates}
use Rattle.checking.specs.Clauses.{Clause, OR, plus, input_of, gates_clauses, used_after, current_after, up_from, difference_clauses, clauses_of}
use Rattle.checking.specs.Satisfaction.{holds, satisfies}
use Rattle.checking.specs.Pair.{constant_clauses, counted_lines, either_targets, used_after_both, side_by_side, pair_clauses}
use Rattle.checking.proofs.lemmas.clauses.Tests.{satisfies_append}
use Rattle.checking.proofs.lemmas.pair.Lines.{all_counted}

none_at_all : (ks : List ℕ) → All (λ (k : ℕ). ⊥) ks → ks ≡ []
none_at_all [] a = refl
none_at_all (k ∷ ks) a = absurd a.0

no_d : (σ : List Bool) → satisfies σ (OR [] ∷ []) ≡ false
unfolding satisfies holds
no_d σ = refl

after : (σ : List Bool) (xs ys : List Clause) → satisfies σ ys ≡ false → satisfies σ (xs ++ ys) ≡ false
after σ xs ys e = satisfies_append σ xs ys ∙ ap (λ (t : Bool). satisfies σ xs && t) e ∙ and-false (satisfies σ xs)

is_marked : (h : Header) → 1 ≤ h.lines → ((k : ℕ) → LineCounts h k → ⊥) → marked h ≡ true
is_marked h low none =
    either (marked h) (λ t. t)
    (λ e.
    let both_none : (eqb h.constants 0 && eqb h.junk 0) ≡ true = sym (not-not _) ∙ ap not e in
    let (a, b) = and_parts (eqb h.constants 0) (eqb h.junk 0) both_none in
    absurd (none 0 (record { below = omega (arith, low); kept = ap (λ (j : ℕ). bit j 0) (eqb-true _ _ b) ∙ bit_none 0 })))

pub all_junk : (h : Header) (a b : List Gate) → 1 ≤ h.lines → ((k : ℕ) → LineCounts h k → ⊥) → (counted_lines h ≡ []) × ((σ : List Bool) → satisfies σ (pair_clauses h a b) ≡ false)
unfolding pair_clauses side_by_side difference_clauses up_from
all_junk h a b low none = (empty, unsatisfied)
  where
    empty : counted_lines h ≡ []
    empty = none_at_all (counted_lines h) (all_counted (λ (k : ℕ). ⊥) h none)

    list : List ℕ → List Clause
    list ls =
        difference_clauses (either_targets a b) (current_after h.lines input_of a) (current_after (used_after h.lines a) input_of b) (used_after_both h a b) ls
        ++ (OR (map plus (up_from (suc (used_after_both h a b)) (length ls))) ∷ [])

    last : (σ : List Bool) → satisfies σ (list (counted_lines h)) ≡ false
    last σ = ap (λ (ls : List ℕ). satisfies σ (list ls)) empty ∙ no_d σ

    unsatisfied : (σ : List Bool) → satisfies σ (pair_clauses h a b) ≡ false
    unsatisfied σ =
        ap (satisfies σ) (cond-true (marked h) (side_by_side h a b) (clauses_of h.lines (miter_gates a b)) (is_marked h low none))
        ∙ after σ (constant_clauses h) _ (after σ (gates_clauses h.lines input_of a) _ (after σ (gates_clauses (used_after h.lines a) input_of b) _ (last σ)))

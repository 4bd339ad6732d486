-- The stand-ins that the laws of the sweep and of the masks shut out, and the record of these laws. Assumes nothing.
use Rattle.std.proofs.Common.{◌≡◌, ℕ, zero, suc, ◌-◌, ◌^◌, ◌<◌, true, false, List, [], ◌∷◌, refl, subst, true≢false, arith}
use mathlib.Core.Bool.{false≢true}
use Rattle.bits.specs.Digits.{bit}
use Rattle.bits.specs.Lists.{fold}
use Rattle.circuit.specs.declared.gate.Gate.{Gate}
use Rattle.circuit.specs.declared.header.Header.{Header}
use Rattle.circuit.specs.Header.{unmarked, marks_good, permits, alike}
use Rattle.circuit.specs.Words.{gate_in, all_valid}
use Rattle.circuit.specs.Gate.{not_gate, valid, fires, inverted, apply}
use Rattle.circuit.specs.Run.{run, DiffersFor}
use Rattle.circuit.proofs.Promises.{unmarked_good, unmarked_state, unmarked_line}
use Rattle.checking.specs.Compare.{Difference, none, lowest, lowest_from, Says}
use Rattle.circuit.specs.Outcome.{served}
use Rattle.checking.specs.Faults.{mask_where}
use Rattle.checking.specs.FaultLaws.{Sweeping, without_constants, all_counted, Candidate, Masking, strikes_nothing, strikes_all, state_at, FaultLaws}
use Rattle.checking.proofs.lemmas.compare.Laws.{sweep_says}
use Rattle.checking.proofs.lemmas.faults.Laws.{masks_masking, repair_leaves, control_repairs, control_valid, excluded, masks_stand, masks_untouched, guilty_stands}

-- NOT on line 0, and no gate: they differ on state 0, on line 0 alone
abbrev one : List Gate
one = not_gate 0 ∷ []

abbrev pub one_line : ℕ → ℕ → ℕ → Header
one_line constants values junk = record { lines = 1; constants = constants; values = values; junk = junk }

never_agree : bit (run one 0) 0 ≡ bit (run [] 0) 0 → ⊥
unfolding fold apply valid fires inverted bit
never_agree e = true≢false e

one_gates : all_valid 1 one ≡ true
unfolding all_valid valid
one_gates = refl

no_gates : all_valid 1 [] ≡ true
unfolding all_valid
no_gates = refl

pub untried_fails : Sweeping (λ h a b. none) → ⊥
untried_fails s = never_agree (s (unmarked 1) one [] (unmarked_good 1) one_gates no_gates 0 (unmarked_state 1 0 (omega arith)) 0 (unmarked_line 1 0 (omega arith)))

pub from_one_fails : Sweeping (λ h a b. lowest_from h a b 1 (2 ^ h.lines - 1)) → ⊥
unfolding lowest_from permits alike fold apply valid fires inverted
from_one_fails s =
    never_agree ((s (unmarked 1) one [] (unmarked_good 1) one_gates no_gates).1 0 (omega arith) (unmarked_state 1 0 (omega arith)) 0 (unmarked_line 1 0 (omega arith)))

-- state 0 breaks the constant 1 on line 0
pub constants_ignored_fails : Sweeping (λ h a b. lowest_from (without_constants h) a b 0 (2 ^ h.lines)) → ⊥
unfolding lowest_from permits alike marks_good fold apply valid fires inverted bit
constants_ignored_fails s = false≢true ((s (one_line 1 1 0) one [] refl one_gates no_gates).0.permitted.constants 0 refl)

-- line 0 is junk
pub junk_counted_fails : Sweeping (λ h a b. lowest_from (all_counted h) a b 0 (2 ^ h.lines)) → ⊥
unfolding lowest_from permits alike marks_good fold apply valid fires inverted
junk_counted_fails s = no_line (s (one_line 0 0 1) one [] refl one_gates no_gates).0
  where
    counted : (k : ℕ) → k < 1 → bit 1 k ≡ false → ⊥
    counted zero l e = unfold bit in true≢false e
    counted (suc k) l e = omega arith

    no_line : DiffersFor (one_line 0 0 1) one [] 0 → ⊥
    no_line d = counted d.line d.counts.below d.counts.kept

-- what says a difference on which the two headers disagree
no_both : (d : Difference) → Says (one_line 0 0 0) one [] (served d) → Says (one_line 1 1 0) one [] (served d) → ⊥
unfolding bit
no_both none s t = never_agree (s 0 (unmarked_state 1 0 (omega arith)) 0 (unmarked_line 1 0 (omega arith)))
no_both (lowest zero) s t = false≢true (t.0.permitted.constants 0 refl)
no_both (lowest (suc x)) s t = never_agree (s.1 0 (omega arith) (unmarked_state 1 0 (omega arith)) 0 (unmarked_line 1 0 (omega arith)))

pub constants_unread_fails : (sweep : Header → List Gate → List Gate → Difference) → ((h : Header) (a b : List Gate) → marks_good h ≡ true → sweep h a b ≡ sweep (without_constants h) a b) → Sweeping sweep → ⊥
unfolding marks_good
constants_unread_fails sweep same s =
    no_both (sweep (one_line 0 0 0) one []) (s (one_line 0 0 0) one [] refl one_gates no_gates)
    (subst (λ (d : Difference). Says (one_line 1 1 0) one [] (served d)) (same (one_line 1 1 0) one [] refl) (s (one_line 1 1 0) one [] refl one_gates no_gates))

no_junk : (d : Difference) → Says (one_line 0 0 0) one [] (served d) → Says (one_line 0 0 1) one [] (served d) → ⊥
no_junk none s t = never_agree (s 0 (unmarked_state 1 0 (omega arith)) 0 (unmarked_line 1 0 (omega arith)))
no_junk (lowest x) s t = counted t.0.line t.0.counts.below t.0.counts.kept
  where
    counted : (k : ℕ) → k < 1 → bit 1 k ≡ false → ⊥
    counted zero l e = unfold bit in true≢false e
    counted (suc k) l e = omega arith

pub junk_unread_fails : (sweep : Header → List Gate → List Gate → Difference) → ((h : Header) (a b : List Gate) → marks_good h ≡ true → sweep h a b ≡ sweep (all_counted h) a b) → Sweeping sweep → ⊥
unfolding marks_good
junk_unread_fails sweep same s =
    no_junk (sweep (one_line 0 0 0) one []) (s (one_line 0 0 0) one [] refl one_gates no_gates)
    (subst (λ (d : Difference). Says (one_line 0 0 1) one [] (served d)) (same (one_line 0 0 1) one [] refl) (s (one_line 0 0 1) one [] refl one_gates no_gates))

pub nothing_struck_fails : Masking strikes_nothing → ⊥
unfolding mask_where bit fold apply valid fires inverted
nothing_struck_fails m =
    let c : Candidate 2 one (0 ∷ []) 0 false 1 = (m.lines 2 one (0 ∷ []) 0 1 false (omega arith)).0 refl in
    false≢true (c.line 0 (omega arith))

-- line 1 may be a missing positive control
standing : Candidate 2 one (0 ∷ []) 0 true 1
unfolding bit fold apply valid fires inverted
standing =
    record {
      below = omega arith;
      not_target = λ e. omega arith;
      not_positive = refl;
      not_negative = refl;
      fired = at_first;
      line = low_first;
    }
  where
    at_first : (j : ℕ) → j < 1 → fires (gate_in one 0) (state_at one 0 (0 ∷ []) j) ≡ true
    at_first zero h = refl
    at_first (suc j) h = absurd (omega arith)

    low_first : (j : ℕ) → j < 1 → bit (state_at one 0 (0 ∷ []) j) 1 ≡ false
    low_first zero h = refl
    low_first (suc j) h = absurd (omega arith)

pub all_struck_fails : Masking strikes_all → ⊥
unfolding bit
all_struck_fails m = false≢true ((m.lines 2 one (0 ∷ []) 0 1 true (omega arith)).1 standing)

pub fault_laws : FaultLaws
fault_laws =
    record {
      sweep = λ h a b m va vb. sweep_says h a b (record { marks = m; first = va; second = vb });
      untried = untried_fails;
      from_one = from_one_fails;
      constants_ignored = constants_ignored_fails;
      junk_counted = junk_counted_fails;
      constants_unread = constants_unread_fails;
      junk_unread = junk_unread_fails;
      two_masks = refl;
      masks = masks_masking;
      nothing_struck = nothing_struck_fails;
      all_struck = all_struck_fails;
      masks_stand = masks_stand;
      masks_untouched = masks_untouched;
      repair_leaves = repair_leaves;
      control_repairs = control_repairs;
      control_valid = control_valid;
      excluded = excluded;
      guilty_stands = guilty_stands;
    }

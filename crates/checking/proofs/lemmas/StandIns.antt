-- The stand-ins of `specs/StandIns.antt` have not the relation, rules of passing by two gates on three lines, steps and reductions by two and by four equal gates. Assumes nothing.
use Rattle.std.proofs.Common.{◌≡◌, ℕ, ◌≤◌, Bool, true, false, List, [], ◌∷◌, length, sym, refl, ap, ◌∙◌, arith}
use Rattle.circuit.specs.declared.gate.Gate.{Gate}
use Rattle.circuit.specs.Gate.{max_lines, not_gate, valid}
use Rattle.circuit.specs.Words.{all_valid}
use Rattle.checking.specs.Match.{control_lines, targets_uncontrolled, opposing, may_pass, differing, Kind, match_of}
use Rattle.checking.specs.Rows.{t1, t2+0, t2+1, t1+2-0}
use Rattle.checking.specs.Step.{scan_from, search_from, replaced, found, none, step_gates}
use Rattle.checking.specs.Reduce.{Reduced, reduce_by, reduce_gates}
use Rattle.checking.specs.StepLaws.{PassingOf}
use Rattle.checking.specs.StandIns.{always_pass, StepOf, ReductionOf, always_none, copying, idle, once_only, inventing, exchanging, merges_only, StandInLaws}
use Rattle.bits.proofs.Bools.{refuted}
use Rattle.checking.proofs.lemmas.step.Passing.{passing_only}
use Rattle.checking.proofs.lemmas.step.Laws.{step_is, steps_step}
use Rattle.checking.proofs.lemmas.reduce.Relation.{reduce_is, reduces_reduce}

-- t2+0 and t1+2-0 pass, since line 0 is a positive control of one and a negative control of the other
narrow_refuted : (rule : Gate → Gate → Bool) → ((n : ℕ) (g h : Gate) → n ≤ max_lines → valid n g ≡ true → valid n h ≡ true → rule g h ≡ true → targets_uncontrolled g h ≡ true) → PassingOf rule → ⊥
unfolding valid control_lines targets_uncontrolled opposing may_pass
narrow_refuted rule narrow is = refuted {b = false} refl (narrow 3 t2+0 t1+2-0 (omega arith) refl refl (passing_only rule is 3 t2+0 t1+2-0 (omega arith) refl refl))

-- the second inverts a line that the first reads
always_refuted : PassingOf always_pass → ⊥
unfolding valid control_lines targets_uncontrolled opposing may_pass
always_refuted is = refuted {b = false} refl (sym (passing_only always_pass is 3 t2+1 t1 (omega arith) refl refl))

-- two, and four, equal gates
abbrev two : List Gate
two = not_gate 0 ∷ not_gate 0 ∷ []

abbrev four : List Gate
four = not_gate 0 ∷ not_gate 0 ∷ two

two_valid : all_valid max_lines two ≡ true
unfolding all_valid valid
two_valid = refl

four_valid : all_valid max_lines four ≡ true
unfolding all_valid valid
four_valid = refl

two_step : step_gates two ≡ found 0 1 Kind.pair []
unfolding step_gates search_from scan_from match_of differing replaced
two_step = refl

two_reduced : reduce_gates two ≡ record { left = []; pairs = 1; merges = 0 }
unfolding reduce_gates reduce_by step_gates search_from scan_from match_of differing replaced
two_reduced = refl

four_reduced : reduce_gates four ≡ record { left = []; pairs = 2; merges = 0 }
unfolding reduce_gates reduce_by step_gates search_from scan_from match_of differing replaced
four_reduced = refl

none_refuted : StepOf always_none → ⊥
none_refuted h = let e : found 0 1 Kind.pair [] ≡ none = sym two_step ∙ steps_step two two_valid none (h two two_valid) in let z : ◌≡◌ {A = ℕ} 0 1 = cc in omega arith

copy_refuted : StepOf copying → ⊥
unfolding step_gates search_from scan_from match_of differing replaced
copy_refuted h =
    let e : found 0 1 Kind.pair [] ≡ found 0 1 Kind.pair two = sym two_step ∙ steps_step two two_valid (copying two) (h two two_valid) in
    let l : ◌≡◌ {A = List Gate} [] two = cc in
    let n : ◌≡◌ {A = ℕ} 0 2 = ap length l in
    omega arith

-- the pairs and merges that a reduction with the relation tells
pairs_told : (f : List Gate → Reduced (List Gate)) → ReductionOf f → (gs : List Gate) → all_valid max_lines gs ≡ true → reduce_gates gs ≡ f gs
pairs_told f h gs v = reduces_reduce gs (f gs).left (f gs).pairs (f gs).merges v (h gs v)

idle_refuted : ReductionOf idle → ⊥
idle_refuted h = let e : ◌≡◌ {A = ℕ} 1 0 = sym (ap (λ (r : Reduced (List Gate)). r.pairs) two_reduced) ∙ ap (λ (r : Reduced (List Gate)). r.pairs) (pairs_told idle h two two_valid) in omega arith

once_refuted : ReductionOf once_only → ⊥
unfolding step_gates search_from scan_from match_of differing replaced
once_refuted h =
    let e : ◌≡◌ {A = ℕ} 2 1 = sym (ap (λ (r : Reduced (List Gate)). r.pairs) four_reduced) ∙ ap (λ (r : Reduced (List Gate)). r.pairs) (pairs_told once_only h four four_valid) in
    omega arith

invented_refuted : (p m : ℕ) → ReductionOf (inventing p m) → ⊥
invented_refuted p m h =
    let e : 1 ≡ p = sym (ap (λ (r : Reduced (List Gate)). r.pairs) two_reduced) ∙ ap (λ (r : Reduced (List Gate)). r.pairs) (pairs_told (inventing p m) h two two_valid) in
    let f : 2 ≡ p = sym (ap (λ (r : Reduced (List Gate)). r.pairs) four_reduced) ∙ ap (λ (r : Reduced (List Gate)). r.pairs) (pairs_told (inventing p m) h four four_valid) in
    omega arith

exchanged_refuted : ReductionOf exchanging → ⊥
exchanged_refuted h =
    let p : (reduce_gates two).pairs ≡ 1 = ap (λ (r : Reduced (List Gate)). r.pairs) two_reduced in
    let q : (reduce_gates two).merges ≡ 0 = ap (λ (r : Reduced (List Gate)). r.merges) two_reduced in
    let e : (reduce_gates two).pairs ≡ (reduce_gates two).merges = ap (λ (r : Reduced (List Gate)). r.pairs) (pairs_told exchanging h two two_valid) in
    omega arith

merges_only_refuted : ReductionOf merges_only → ⊥
merges_only_refuted h =
    let e : ◌≡◌ {A = ℕ} 1 0 = sym (ap (λ (r : Reduced (List Gate)). r.pairs) two_reduced) ∙ ap (λ (r : Reduced (List Gate)). r.pairs) (pairs_told merges_only h two two_valid) in
    omega arith

pub stand_in_laws : StandInLaws
stand_in_laws =
    record {
      passing_only = passing_only;
      narrow_refuted = narrow_refuted;
      always_refuted = always_refuted;
      ours = λ gs v. step_is gs v (step_gates gs) refl;
      step_only = λ f h gs v. sym (steps_step gs v (f gs) (h gs v));
      none_refuted = none_refuted;
      copy_refuted = copy_refuted;
      ours_reduces = λ gs v. reduce_is gs v (reduce_gates gs) refl;
      reduction_only = λ f h gs v. sym (pairs_told f h gs v);
      idle_refuted = idle_refuted;
      once_refuted = once_refuted;
      invented_refuted = invented_refuted;
      exchanged_refuted = exchanged_refuted;
      merges_only_refuted = merges_only_refuted;
    }

-- Rules of passing, steps and reductions that are wrong, and what shuts them out: they have not the relation that ours has.
use Rattle.std.specs.Prelude.{◌≡◌, ℕ, ◌+◌, ◌*◌, ◌≤◌, Bool, true, List}
use Rattle.circuit.specs.declared.gate.Gate.{Gate}
use Rattle.circuit.specs.Gate.{max_lines, valid}
use Rattle.circuit.specs.Words.{all_valid}
use Rattle.checking.specs.Match.{targets_uncontrolled, may_pass}
use Rattle.checking.specs.Step.{Step, found, none, step_gates}
use Rattle.checking.specs.StepLaws.{PassingOf, Steps}
use Rattle.checking.specs.Reduce.{Reduced, continued, reduce_gates}
use Rattle.checking.specs.ReduceLaws.{Reduces}

-- a step, and a reduction, that does what document 01 says of all valid gates, with T-01's rule of passing
abbrev pub StepOf : (List Gate → Step (List Gate)) → Type 0
StepOf f = (gs : List Gate) → all_valid max_lines gs ≡ true → Steps gs (f gs)

abbrev pub ReductionOf : (List Gate → Reduced (List Gate)) → Type 0
ReductionOf f = (gs : List Gate) → all_valid max_lines gs ≡ true → Reduces gs (f gs).left (f gs).pairs (f gs).merges

-- a rule by which all gates pass
abbrev pub always_pass : Gate → Gate → Bool
always_pass g h = true

-- a step that says none while a match stands
abbrev pub always_none : List Gate → Step (List Gate)
always_none gs = none

-- a step that copies its input
abbrev pub input_kept : Step (List Gate) → List Gate → Step (List Gate)
input_kept (found i j k hs) gs = found i j k gs
input_kept none gs = none

abbrev pub copying : List Gate → Step (List Gate)
copying gs = input_kept (step_gates gs) gs

-- a reduction that copies its input
abbrev pub idle : List Gate → Reduced (List Gate)
idle gs = record { left = gs; pairs = 0; merges = 0 }

-- a reduction that works once and then idles
abbrev pub once_only : List Gate → Reduced (List Gate)
once_only gs = continued (step_gates gs) gs idle

-- a reduction with invented p and m, and one that exchanges them
abbrev pub inventing : ℕ → ℕ → List Gate → Reduced (List Gate)
inventing p m gs = record { left = (reduce_gates gs).left; pairs = p; merges = m }

abbrev pub exchanging : List Gate → Reduced (List Gate)
exchanging gs = record { left = (reduce_gates gs).left; pairs = (reduce_gates gs).merges; merges = (reduce_gates gs).pairs }

-- a reduction that counts each pair as two merges: the sum is right
abbrev pub merges_only : List Gate → Reduced (List Gate)
merges_only gs = record { left = (reduce_gates gs).left; pairs = 0; merges = 2 * (reduce_gates gs).pairs + (reduce_gates gs).merges }

pub record StandInLaws : Type 0 where
  -- any rule of passing that has the law agrees with ours on all gates of n lines. No rule has it by which gates pass only where neither's target is a control of the other, as by document 01's, and the rule by which all pass has it not.
  pub passing_only : (rule : Gate → Gate → Bool) → PassingOf rule → (n : ℕ) (g h : Gate) → n ≤ max_lines → valid n g ≡ true → valid n h ≡ true → rule g h ≡ may_pass g h
  pub narrow_refuted : (rule : Gate → Gate → Bool) → ((n : ℕ) (g h : Gate) → n ≤ max_lines → valid n g ≡ true → valid n h ≡ true → rule g h ≡ true → targets_uncontrolled g h ≡ true) → PassingOf rule → ⊥
  pub always_refuted : PassingOf always_pass → ⊥
  -- ours has it, and any that has it is ours
  pub ours : StepOf step_gates
  pub step_only : (f : List Gate → Step (List Gate)) → StepOf f → (gs : List Gate) → all_valid max_lines gs ≡ true → f gs ≡ step_gates gs
  pub none_refuted : StepOf always_none → ⊥
  pub copy_refuted : StepOf copying → ⊥
  pub ours_reduces : ReductionOf reduce_gates
  pub reduction_only : (f : List Gate → Reduced (List Gate)) → ReductionOf f → (gs : List Gate) → all_valid max_lines gs ≡ true → f gs ≡ reduce_gates gs
  pub idle_refuted : ReductionOf idle → ⊥
  pub once_refuted : ReductionOf once_only → ⊥
  pub invented_refuted : (p m : ℕ) → ReductionOf (inventing p m) → ⊥
  pub exchanged_refuted : ReductionOf exchanging → ⊥
  pub merges_only_refuted : ReductionOf merges_only → ⊥

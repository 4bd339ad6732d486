-- `circuit::file::fill::controls` meets its contract. The loop's invariant: the controls that were passed are in the masks, and the others stand at the position. Assumes nothing.
use Rattle.std.proofs.Common.{◌-◌, List, length}
use Rattle.circuit.specs.Gate.{Control}
use Rattle.circuit.specs.private.Fill.{ControlsAt}
use Rattle.circuit.proofs.lemmas.file.fill.Laws.{Passing}
use Rattle.circuit.proofs.file.fill.controls.Given as goal

abbrev pub invariant-loop-at : goal.invariant-loop-at
invariant-loop-at l = (cs : List Control) → ControlsAt l.text l.first cs → Passing l.text l.first cs l.at l.positive l.negative

abbrev pub decreases-loop-at : goal.decreases-loop-at
decreases-loop-at l = length l.text - l.at

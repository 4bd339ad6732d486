-- `circuit::file::scan::controls` meets its contract. The loop's invariant: the controls that were passed are known, and what is left of the line decides. Assumes nothing.
use Rattle.std.proofs.Common.{◌-◌, ◌≤◌, length}
use Rattle.circuit.specs.Gate.{max_lines}
use Rattle.circuit.proofs.lemmas.file.scan.Rest.{Going}
use Rattle.circuit.proofs.file.scan.controls.Given as goal

abbrev pub invariant-loop-at : goal.invariant-loop-at
invariant-loop-at l = (l.n ≤ max_lines) × Going l.n l.place l.target l.text l.first l.at l.seen

abbrev pub decreases-loop-at : goal.decreases-loop-at
decreases-loop-at l = length l.text - l.at

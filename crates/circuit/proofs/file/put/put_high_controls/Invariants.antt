-- `circuit::file::put::put_high_controls` meets its contract. The loop's invariant: the controls on the lines that are not left stand at the buffer's start. Assumes nothing.
use Rattle.circuit.specs.private.Put.{high_piece}
use Rattle.circuit.proofs.lemmas.file.put.Laws.{Putting}
use Rattle.circuit.proofs.file.put.put_high_controls.Given as goal

abbrev pub invariant-loop-left : goal.invariant-loop-left
invariant-loop-left l = Putting (high_piece l.positive) l.lines l.initial.out l.out l.at l.left

abbrev pub decreases-loop-left : goal.decreases-loop-left
decreases-loop-left l = l.left

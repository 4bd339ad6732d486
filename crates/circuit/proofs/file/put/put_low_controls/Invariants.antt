-- `circuit::file::put::put_low_controls` meets its contract. The loop's invariant: the controls on the lines that are not left stand at the buffer's start, and those that are left are below 10. Assumes nothing.
use Rattle.std.proofs.Common.{◌^◌, ◌<◌}
use Rattle.circuit.specs.private.Put.{control_piece}
use Rattle.circuit.proofs.lemmas.file.put.Laws.{Putting}
use Rattle.circuit.proofs.file.put.put_low_controls.Given as goal

abbrev pub invariant-loop-left : goal.invariant-loop-left
invariant-loop-left l = (Putting (control_piece l.positive) l.lines l.initial.out l.out l.at l.left) × (l.left < 2 ^ 10)

abbrev pub decreases-loop-left : goal.decreases-loop-left
decreases-loop-left l = l.left

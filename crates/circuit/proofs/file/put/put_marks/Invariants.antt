-- `circuit::file::put::put_marks` meets its contract. The loop's invariant: the lines of the marks that are not left stand at the buffer's start. Assumes nothing.
use Rattle.bits.specs.Digits.{bit}
use Rattle.circuit.specs.private.Put.{mark_line}
use Rattle.circuit.proofs.lemmas.file.put.Laws.{Putting}
use Rattle.circuit.proofs.file.put.put_marks.Given as goal

abbrev pub invariant-loop-left : goal.invariant-loop-left
invariant-loop-left l = Putting (λ k. mark_line l.constant k (bit l.values k)) l.mask l.initial.out l.out l.at l.left

abbrev pub decreases-loop-left : goal.decreases-loop-left
decreases-loop-left l = l.left

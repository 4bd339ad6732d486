-- `circuit::inverse::put_inverse` meets its contract. The loop's invariant: the gates from j on stand in reverse order at the buffer's start. Assumes nothing.
use Rattle.std.proofs.Common.{◌≡◌, ◌+◌, ◌*◌, ◌/◌, length}
use Rattle.bits.specs.Lists.{over}
use Rattle.circuit.proofs.lemmas.inverse.Laws.{tail_back}
use Rattle.circuit.proofs.inverse.put_inverse.Given as goal

abbrev pub invariant-loop-j : goal.invariant-loop-j
invariant-loop-j l =
    (l.at + 3 * l.j ≡ 3 * (length l.words / 3)) × (length l.out ≡ length l.initial.out) × (l.out ≡ over (tail_back l.words l.j) l.initial.out)

abbrev pub decreases-loop-j : goal.decreases-loop-j
decreases-loop-j l = l.j

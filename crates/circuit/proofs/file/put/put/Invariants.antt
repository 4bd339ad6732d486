-- `circuit::file::put::put` meets its contract. The loop's invariant: the first i items stand at the buffer's start. Assumes nothing.
use Rattle.std.proofs.Common.{◌≡◌, take}
use Rattle.bits.specs.Lists.{over}
use Rattle.circuit.proofs.file.put.put.Given as goal

abbrev pub invariant-loop-i : goal.invariant-loop-i
invariant-loop-i g l = l.out ≡ over (take l.i l.items) l.fn.out

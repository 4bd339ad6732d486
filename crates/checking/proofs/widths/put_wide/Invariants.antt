-- `checking::widths::put_wide` meets its contract. The loop's invariant: the first i words stand at the buffer's start. Assumes nothing.
use Rattle.std.proofs.Common.{◌≡◌, take}
use Rattle.bits.specs.Lists.{over}
use Rattle.checking.proofs.widths.put_wide.Given as goal

abbrev pub invariant-loop-i : goal.invariant-loop-i
invariant-loop-i l = l.out ≡ over (take l.i l.words) l.fn.out

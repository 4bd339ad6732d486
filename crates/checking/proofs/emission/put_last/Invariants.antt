-- `checking::emission::put_last` meets its contract. The loop's invariant: kind, count and the first k literals stand at the buffer's start. Assumes nothing.
use Rattle.std.proofs.Common.{◌≡◌}
use Rattle.bits.specs.Lists.{over}
use Rattle.checking.proofs.lemmas.emission.Lines.{or_front}
use Rattle.checking.proofs.emission.put_last.Given as goal

abbrev pub invariant-loop-k : goal.invariant-loop-k
invariant-loop-k l = l.out ≡ over (or_front l.count l.used l.k) l.fn.out

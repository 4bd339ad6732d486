-- `checking::emission::put_differences` meets its contract. The loop's invariant: the clauses of the lines passed stand at the buffer's start, and the others are left. Assumes nothing.
use Rattle.checking.proofs.lemmas.emission.Lines.{Compared}
use Rattle.checking.proofs.emission.put_differences.Given as goal

abbrev pub invariant-loop-lines : goal.invariant-loop-lines
invariant-loop-lines l = Compared l.n l.junk l.left l.right l.fn.used l.initial.out l.out l.lines l.used l.at

abbrev pub decreases-loop-lines : goal.decreases-loop-lines
decreases-loop-lines l = l.lines

-- `checking::emission::put_constants` meets its contract. The loop's invariant: the clauses of the constants passed stand at the buffer's start, and the others are left. Assumes nothing.
use Rattle.checking.proofs.lemmas.emission.Constants.{Walked}
use Rattle.checking.proofs.emission.put_constants.Given as goal

abbrev pub invariant-loop-left : goal.invariant-loop-left
invariant-loop-left l = Walked l.h l.initial.out l.out l.left l.at

abbrev pub decreases-loop-left : goal.decreases-loop-left
decreases-loop-left l = l.left

-- `checking::reduce::reduce_gates` meets its contract. The loop's invariant: the gates that now stand, whose reduction is what is left to do. Assumes nothing.
use Rattle.checking.proofs.lemmas.reduce.Turns.{Standing}
use Rattle.checking.proofs.reduce.reduce_gates.Given as goal

abbrev pub invariant-loop-found : goal.invariant-loop-found
invariant-loop-found l = Standing l.initial.words l.words l.gates l.pairs l.merges

abbrev pub decreases-loop-found : goal.decreases-loop-found
decreases-loop-found l = l.gates

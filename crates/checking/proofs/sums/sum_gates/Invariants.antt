-- `checking::sums::sum_gates` meets its contract. The loop's invariant: the gates passed are valid and summed up, and their targets stand in the mask. Assumes nothing.
use Rattle.checking.proofs.lemmas.clauses.Loop.{Summed}
use Rattle.checking.proofs.sums.sum_gates.Given as goal

abbrev pub invariant-loop-i : goal.invariant-loop-i
invariant-loop-i l = Summed l.n l.words l.variables l.clauses l.controls l.hit l.i

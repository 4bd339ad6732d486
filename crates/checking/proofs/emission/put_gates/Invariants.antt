-- `checking::emission::put_gates` meets its contract. The loop's invariant: the clauses of gates below i stand at the buffer's start, and the others are left. Assumes nothing.
use Rattle.circuit.specs.Words.{gates_of}
use Rattle.checking.specs.private.Emission.{ordered}
use Rattle.checking.proofs.lemmas.emission.Gates.{Emitted}
use Rattle.checking.proofs.emission.put_gates.Given as goal

abbrev pub invariant-loop-i : goal.invariant-loop-i
invariant-loop-i l = Emitted l.n (ordered l.reversed (gates_of l.words)) l.fn.used l.initial.current l.initial.out l.current l.out l.used l.at l.i

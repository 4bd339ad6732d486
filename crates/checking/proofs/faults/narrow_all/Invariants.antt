-- `checking::faults::narrow_all` meets its contract. The loop's invariant: narrowing what the buffer holds by the states that are left gives the answer. Assumes nothing.
use Rattle.std.proofs.Common.{◌≡◌, drop}
use Rattle.circuit.specs.Words.{gates_of}
use Rattle.checking.specs.private.Narrowing.{narrowed_by}
use Rattle.checking.proofs.faults.narrow_all.Given as goal

abbrev pub invariant-loop-state : goal.invariant-loop-state
invariant-loop-state l =
    narrowed_by (gates_of l.gates.words.now) l.states l.initial.out ≡ narrowed_by (gates_of l.gates.words.now) (drop l.state-index l.states) l.out

-- `checking::step::search_gates` meets its contract. The loop's invariant: none of the gates before i finds a match, so those from i on decide. Assumes nothing.
use Rattle.std.proofs.Common.{◌≡◌, ◌*◌, drop}
use Rattle.circuit.specs.Words.{gates_of}
use Rattle.checking.specs.Step.{search_from}
use Rattle.checking.proofs.step.search_gates.Given as goal

abbrev pub invariant-loop-i : goal.invariant-loop-i
invariant-loop-i l = search_from 0 (gates_of l.gates.words.now) ≡ search_from l.i (gates_of (drop (3 * l.i) l.gates.words.now))

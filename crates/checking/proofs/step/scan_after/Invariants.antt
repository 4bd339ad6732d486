-- `checking::step::scan_after` meets its contract. The loop's invariant: gate i matches none of the gates passed, so what is left decides. Assumes nothing.
use Rattle.std.proofs.Common.{◌≡◌, ◌+◌, ◌*◌, drop}
use Rattle.circuit.specs.Words.{gates_of, gate_at}
use Rattle.checking.specs.Step.{scan_from}
use Rattle.checking.proofs.step.scan_after.Given as goal

abbrev pub invariant-loop-j : goal.invariant-loop-j
invariant-loop-j l = scan_from (l.i + 1) (gate_at l.gates.words.now l.i) (gates_of (drop (3 * (l.i + 1)) l.gates.words.now)) ≡ scan_from l.j l.g (gates_of (drop (3 * l.j) l.gates.words.now))

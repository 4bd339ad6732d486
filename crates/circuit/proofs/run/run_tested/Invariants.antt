-- `circuit::run::run_tested` meets its contract. The loop's invariant: running what is left on the state gives the output. Assumes nothing.
use Rattle.std.proofs.Common.{◌≡◌, ◌*◌, drop}
use Rattle.circuit.specs.Words.{gates_of}
use Rattle.circuit.specs.Run.{run_tested}
use Rattle.circuit.proofs.run.run_tested.Given as goal

abbrev pub invariant-loop-i : goal.invariant-loop-i
invariant-loop-i l = run_tested (gates_of l.words) l.state ≡ run_tested (gates_of (drop (3 * l.i) l.words)) l.s

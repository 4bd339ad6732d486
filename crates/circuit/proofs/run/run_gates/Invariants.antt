-- `circuit::run::run_gates` meets its contract. The loop's invariant: what is left decides. Assumes nothing.
use Rattle.std.proofs.Common.{◌≡◌, drop}
use Rattle.circuit.specs.Words.{gates_of}
use Rattle.circuit.proofs.lemmas.run.Laws.{run_from}
use Rattle.circuit.proofs.run.run_gates.Given as goal

abbrev pub invariant-loop-i : goal.invariant-loop-i
invariant-loop-i l = run_from l.n 0 (gates_of l.words) l.state ≡ run_from l.n l.i (drop l.i (gates_of l.words)) l.s

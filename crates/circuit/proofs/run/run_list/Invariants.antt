-- `circuit::run::run_list` meets its contract. The loop's invariant: what is left decides. Assumes nothing.
use Rattle.std.proofs.Common.{◌≡◌, drop}
use Rattle.circuit.proofs.lemmas.run.Laws.{run_from}
use Rattle.circuit.proofs.run.run_list.Given as goal

abbrev pub invariant-loop-i : goal.invariant-loop-i
invariant-loop-i l = run_from l.n 0 l.gates l.state ≡ run_from l.n l.i (drop l.i l.gates) l.s

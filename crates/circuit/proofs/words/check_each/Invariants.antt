-- `circuit::words::check_each` meets its contract. The loop's invariant: the gates that were passed are valid, so what is left decides. Assumes nothing.
use Rattle.std.proofs.Common.{◌≡◌, ◌*◌, drop}
use Rattle.circuit.specs.Words.{gates_of, valid_from}
use Rattle.circuit.proofs.words.check_each.Given as goal

abbrev pub invariant-loop-i : goal.invariant-loop-i
invariant-loop-i l = valid_from l.n 0 (gates_of l.words) ≡ valid_from l.n l.i (gates_of (drop (3 * l.i) l.words))

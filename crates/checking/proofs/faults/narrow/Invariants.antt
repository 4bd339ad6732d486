-- `checking::faults::narrow` meets its contract. The loop's invariant: the masks of the gates that were passed are narrowed, and those of the others are as they were. Assumes nothing.
use Rattle.std.proofs.Common.{◌≡◌, ◌*◌, true, ◌++◌, take, drop}
use Rattle.circuit.specs.Gate.{max_lines}
use Rattle.circuit.specs.Words.{gates_of, all_valid}
use Rattle.checking.specs.private.Narrowing.{narrowed}
use Rattle.checking.proofs.faults.narrow.Given as goal

abbrev pub invariant-loop-i : goal.invariant-loop-i
invariant-loop-i l =
    (all_valid max_lines (gates_of (drop (3 * l.i) l.gates.words.now)) ≡ true)
    × (narrowed (gates_of l.gates.words.now) l.state l.initial.out ≡ take (2 * l.i) l.out ++ narrowed (gates_of (drop (3 * l.i) l.gates.words.now)) l.s (drop (2 * l.i) l.out))

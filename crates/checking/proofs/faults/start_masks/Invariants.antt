-- `checking::faults::start_masks` meets its contract. The loop's invariant: the gates that were passed have their free lines in both masks, and the rest of the buffer is as it was. Assumes nothing.
use Rattle.std.proofs.Common.{◌≡◌, ◌*◌, true, drop}
use Rattle.bits.specs.Lists.{over}
use Rattle.circuit.specs.Words.{gates_of, all_valid}
use Rattle.checking.proofs.lemmas.faults.Loops.{free_masks, free_left}
use Rattle.checking.proofs.faults.start_masks.Given as goal

abbrev pub invariant-loop-i : goal.invariant-loop-i
invariant-loop-i l =
    (all_valid l.n (gates_of (drop (3 * l.i) l.words)) ≡ true)
    × (over (free_masks l.n (gates_of l.words)) l.initial.out ≡ free_left l.n l.words l.out l.i)

-- The bytes that were read stand inside the buffer. Each turn reads some or spends one of the reads that are made again.
use Rattle.std.proofs.Common.{length, ◌-◌, ◌+◌, ◌≤◌}
use Rattle.streams.proofs.read_all.Given as goal

abbrev pub invariant-loop-done : goal.invariant-loop-done
invariant-loop-done g l = l.done ≤ length l.initial.buf

abbrev pub decreases-loop-done : goal.decreases-loop-done
decreases-loop-done g l = l.again + (length l.initial.buf - l.done)

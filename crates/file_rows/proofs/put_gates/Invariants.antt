-- The position is inside the buffer.
use Rattle.std.proofs.Common.{length, ◌≤◌}
use Rattle.file_rows.proofs.put_gates.Given as goal

abbrev pub invariant-loop : goal.invariant-loop
invariant-loop l = l.at ≤ length l.out

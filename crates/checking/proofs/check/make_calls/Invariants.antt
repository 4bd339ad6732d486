-- `checking::check::make_calls` meets its contract. The loop's invariant: the calls that are left, made on what stands, leave what is owed. Assumes nothing.
use Rattle.std.proofs.Common.{◌≡◌, ◌*◌, ◌≤◌, length, drop}
use Rattle.checking.specs.Check.{called_all}
use Rattle.checking.proofs.check.make_calls.Given as goal

abbrev pub invariant-loop-call : goal.invariant-loop-call
invariant-loop-call l = record {
  room : 3 * l.left ≤ length l.words;
  owed : called_all l.calls (record { gates = l.gates; words = l.initial.words }) ≡ called_all (drop l.call-index l.calls) (record { gates = l.left; words = l.words });
}

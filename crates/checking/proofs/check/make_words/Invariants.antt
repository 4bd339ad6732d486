-- `checking::check::make_words` meets its contract. The loop's invariant: the calls that are left, made on what stands, leave what is owed. Assumes nothing.
use Rattle.std.proofs.Common.{◌≡◌, ◌*◌, ◌≤◌, length, drop}
use Rattle.checking.specs.Check.{calls_of, called_all}
use Rattle.checking.proofs.check.make_words.Given as goal

abbrev pub invariant-loop-i : goal.invariant-loop-i
invariant-loop-i l = record {
  room : 3 * l.left ≤ length l.words;
  owed : called_all (calls_of l.calls) (record { gates = l.gates; words = l.initial.words }) ≡ called_all (calls_of (drop (2 * l.i) l.calls)) (record { gates = l.left; words = l.words });
}

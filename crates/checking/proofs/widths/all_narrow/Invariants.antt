-- `checking::widths::all_narrow` meets its contract. The loop's invariant: 16 bits hold the first i words, if `all` is true. Assumes nothing.
use Rattle.std.proofs.Common.{◌≡◌, ℕ, ◌<◌, ℤ, true, get_or}
use Rattle.checking.specs.Widths.{Narrow}
use Rattle.checking.proofs.widths.all_narrow.Given as goal

abbrev pub invariant-loop-i : goal.invariant-loop-i
invariant-loop-i l = l.all ≡ true → (j : ℕ) → j < l.i → (d : ℤ) → Narrow (get_or l.words j d)

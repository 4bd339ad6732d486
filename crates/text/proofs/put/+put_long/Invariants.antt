-- The measure of `text::put::put_long` is the number. Assumes nothing.
use Rattle.text.proofs.put.+put_long.Given as goal

abbrev pub decreases-put_long : goal.decreases-put_long
decreases-put_long l = l.k

-- A clause word as it is passed on. Assumes nothing.
use mathlib.Core.Path.{◌≡◌}
use lib.IntN.{ℤ}
use mir.Val.{SFits, to_z, of_z}
use mir.ValLaws.{to_z-of_z}
use Rattle.checking.specs.Stored.{word_width}

pub word_is : (z : ℤ) → SFits word_width z → to_z word_width (of_z word_width z) ≡ z
word_is z f = to_z-of_z word_width z f

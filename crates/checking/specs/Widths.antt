-- A list of words of 16 bits made one of 32 bits, and back, by document 02: the numbers stay as they are.
use Rattle.std.specs.Prelude.{ℕ, Bool, List, length, ℤ, pos, negsuc, nat_lt, nat_le}
use Rattle.circuit.specs.Outcome.{Outcome, served, demand, and_then, written}
use Rattle.circuit.specs.Refusal.{no_room, word_too_wide}
use Rattle.checking.specs.Each.{each_from}
use Rattle.checking.specs.Stored.{FitsIn}

-- 16 bits hold −32,768 to 32,767
abbrev pub narrow_limit : ℕ
narrow_limit = 32768

abbrev pub Narrow : ℤ → Type 0
Narrow w = FitsIn narrow_limit w

abbrev pub is_narrow : ℤ → Bool
is_narrow (pos v) = nat_lt v narrow_limit
is_narrow (negsuc i) = nat_lt i narrow_limit

-- 10
unfoldable pub widen_outcome : List ℤ → ℕ → Outcome ℕ
widen_outcome ws room = demand (nat_le (length ws) room) no_room 0 (served (length ws))

-- the words at the buffer's start
unfoldable pub widen_buffer : List ℤ → List ℤ → List ℤ
widen_buffer ws out = written (widen_outcome ws (length out)) ws out

-- 16 at the first word that 16 bits do not hold, then 10
unfoldable pub narrow_outcome : List ℤ → ℕ → Outcome ℕ
narrow_outcome ws room = and_then (each_from is_narrow word_too_wide 0 ws) (λ k. demand (nat_le k room) no_room 0 (served k))

unfoldable pub narrow_buffer : List ℤ → List ℤ → List ℤ
narrow_buffer ws out = written (narrow_outcome ws (length out)) ws out

-- The identity miter of two cascades: the first's gates, then the second's reversed.
use Rattle.std.specs.Prelude.{ℕ, ◌+◌, List, ◌++◌, length, nat_le}
use Rattle.circuit.specs.declared.gate.Gate.{Gate}
use Rattle.circuit.specs.Outcome.{Outcome, served, demand, and_then, written}
use Rattle.circuit.specs.Refusal.{no_room}
use Rattle.circuit.specs.Words.{gates_of, words_of, pair_outcome}
use Rattle.circuit.specs.Inverse.{inverse}

abbrev pub miter_gates : List Gate → List Gate → List Gate
miter_gates a b = a ++ inverse b

-- 2, 11, 6, 7 for the first cascade, the same for the second, 8, 10: the buffer has room for the words of both
unfoldable pub miter_outcome : ℕ → List ℕ → ℕ → List ℕ → ℕ → Outcome ℕ
miter_outcome na a nb b room =
    and_then (pair_outcome na a nb b) (λ counts.
    demand (nat_le (length a + length b) room) no_room 0 (served (counts.first + counts.second)))

-- the miter's words at the buffer's start
unfoldable pub miter_buffer : ℕ → List ℕ → ℕ → List ℕ → List ℕ → List ℕ
miter_buffer na a nb b out = written (miter_outcome na a nb b (length out)) (words_of (miter_gates (gates_of a) (gates_of b))) out

-- The inverse of a cascade.
use Rattle.std.specs.Prelude.{ℕ, ◌/◌, cond, List, reverse, length, nat_le}
use Rattle.bits.specs.Lists.{over}
use Rattle.circuit.specs.declared.gate.Gate.{Gate}
use Rattle.circuit.specs.Gate.{max_gates}
use Rattle.circuit.specs.Outcome.{Outcome, served, demand, and_then, written}
use Rattle.circuit.specs.Refusal.{no_room}
use Rattle.circuit.specs.Words.{gates_of, words_of, check_outcome}

-- the gates in reverse order
abbrev pub inverse : List Gate → List Gate
inverse gates = reverse gates

-- a buffer with the words of the inverse of the whole gates at its start; the same one where they do not fit
abbrev pub put_inverse : List ℕ → List ℕ → List ℕ
put_inverse ws out = cond (nat_le (length ws / 3) (length out / 3)) (over (words_of (inverse (gates_of ws))) out) out

-- 2, 11, 6, 7, 10: the buffer has room for as many words
unfoldable pub inverse_outcome : ℕ → List ℕ → ℕ → Outcome ℕ
inverse_outcome n ws room =
    and_then (check_outcome n ws max_gates) (λ k.
    demand (nat_le (length ws) room) no_room 0 (served k))

-- the inverse's words at the buffer's start
unfoldable pub inverse_buffer : ℕ → List ℕ → List ℕ → List ℕ
inverse_buffer n ws out = written (inverse_outcome n ws (length out)) (words_of (inverse (gates_of ws))) out

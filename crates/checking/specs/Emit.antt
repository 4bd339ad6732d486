-- Emission: the clause list of a cascade in the caller's buffer.
use Rattle.std.specs.Prelude.{ℕ, List, length, ℤ, nat_le}
use Rattle.circuit.specs.Outcome.{Outcome, served, demand, and_then, written}
use Rattle.circuit.specs.Refusal.{no_room}
use Rattle.circuit.specs.Words.{gates_of}
use Rattle.checking.specs.declared.clauses.Totals.{Totals}
use Rattle.checking.specs.Clauses.{clauses_of}
use Rattle.checking.specs.Stored.{stored}
use Rattle.checking.specs.Sizes.{sizes_outcome}

-- 2, 11, 6, 7, 10: the same totals as the sizes
unfoldable pub emit_outcome : ℕ → List ℕ → ℕ → Outcome Totals
emit_outcome n ws room = and_then (sizes_outcome n ws) (λ t. demand (nat_le t.words room) no_room 0 (served t))

-- the stored clauses at the buffer's start
unfoldable pub emit_buffer : ℕ → List ℕ → List ℤ → List ℤ
emit_buffer n ws out = written (emit_outcome n ws (length out)) (stored (clauses_of n (gates_of ws))) out

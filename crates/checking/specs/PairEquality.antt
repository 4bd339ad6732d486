-- The theorem for pairs, of document 02: the emitted clauses of two cascades with the same header, marked or not, tell on which permitted states a line that counts comes out differently.
use Rattle.std.specs.Prelude.{ℕ, ◌≤◌, List, length, ℤ}
use Rattle.circuit.specs.declared.header.Header.{Header}
use Rattle.circuit.specs.Gate.{max_gates}
use Rattle.circuit.specs.Outcome.{Outcome}
use Rattle.circuit.specs.Words.{gates_of, Headed}
use Rattle.checking.specs.declared.check.Call.{Call}
use Rattle.checking.specs.declared.clauses.Totals.{Totals}
use Rattle.checking.specs.Stored.{stored}
use Rattle.checking.specs.Equality.{after_all}
use Rattle.checking.specs.Pair.{pair_clauses, pair_emit_outcome, pair_emit_buffer}
use Rattle.checking.specs.PairTold.{PairEmitted}

-- of any emission, by its answer and its final buffer: on words of two cascades with the same header, and a clause buffer that is at least as long as their clause list
abbrev pub PairEqualityOf : (Header → List ℕ → Header → List ℕ → ℕ → Outcome Totals) → (Header → List ℕ → Header → List ℕ → List ℤ → List ℤ) → Type 0
PairEqualityOf emits leaves =
    (h : Header) (a b : List ℕ) (i j : ℕ) → Headed h a max_gates i → Headed h b max_gates j
    → (out : List ℤ) → length (stored (pair_clauses h (gates_of a) (gates_of b))) ≤ length out
    → PairEmitted h a b (emits h a h b (length out)) (leaves h a h b out)

-- the same after a list of calls on each cascade alone: what is emitted for the two that are left tells of the two that were drawn
abbrev pub PairEqualityAfter : (Header → List ℕ → Header → List ℕ → ℕ → Outcome Totals) → (Header → List ℕ → Header → List ℕ → List ℤ → List ℤ) → Type 0
PairEqualityAfter emits leaves =
    (h : Header) (a b : List ℕ) (i j : ℕ) → Headed h a max_gates i → Headed h b max_gates j → (on_a on_b : List Call)
    → (out : List ℤ) → length (stored (pair_clauses h (gates_of (after_all on_a a)) (gates_of (after_all on_b b)))) ≤ length out
    → PairEmitted h a b (emits h (after_all on_a a) h (after_all on_b b) (length out)) (leaves h (after_all on_a a) h (after_all on_b b) out)

-- the theorem, of the very definitions that the call's contract cites
abbrev pub PairEquality : Type 0
PairEquality = PairEqualityOf pair_emit_outcome pair_emit_buffer

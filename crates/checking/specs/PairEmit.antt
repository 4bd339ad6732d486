-- What the emission of a pair owes.
use Rattle.std.specs.Prelude.{ℕ, List, length, ℤ}
use Rattle.circuit.specs.declared.header.Header.{Header}
use Rattle.circuit.specs.Outcome.{Outcome, Yields}
use Rattle.checking.specs.declared.clauses.Totals.{Totals}
use Rattle.checking.specs.Pair.{pair_emit_outcome, pair_emit_buffer}
use Rattle.checking.specs.PairTold.{PairServedTells}

-- its answer and its final buffer; and where it is served, what the clauses in that buffer tell of the two cascades
pub record PairEmits (ha : Header) (a : List ℕ) (hb : Header) (b : List ℕ) (out : List ℤ) (answer : Outcome Totals) (last : List ℤ) : Type 0 where
  pub yields : Yields answer last (pair_emit_outcome ha a hb b (length out)) (pair_emit_buffer ha a hb b out)
  pub tells : PairServedTells ha a hb b answer last

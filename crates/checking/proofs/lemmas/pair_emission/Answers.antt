-- What the emission of a pair answers and leaves. Assumes nothing.
use Rattle.std.proofs.Common.{◌≡◌, ℕ, leb, List, length, ℤ, sym, ap, ◌∙◌, subst}
use Rattle.bits.specs.Lists.{over}
use Rattle.circuit.specs.declared.header.Header.{Header}
use Rattle.circuit.specs.declared.words.Counts.{Counts}
use Rattle.circuit.specs.Gate.{max_gates}
use Rattle.circuit.specs.Outcome.{served, refused, demand}
use Rattle.circuit.specs.Refusal.{no_room}
use Rattle.circuit.specs.Words.{gates_of, Cascade, headed_pair_outcome, HeadedPair}
use Rattle.circuit.proofs.Promises.{then_served, then_refused, written_served, served_headed_pair}
use Rattle.checking.specs.declared.clauses.Totals.{Totals}
use Rattle.checking.specs.Clauses.{Clause}
use Rattle.checking.specs.Stored.{stored}
use Rattle.checking.specs.Sizes.{totals}
use Rattle.checking.specs.Pair.{pair_clauses, pair_variables, pair_sizes_outcome, pair_emit_outcome, pair_emit_buffer}
use Rattle.checking.proofs.lemmas.pair_emission.Sums.{pair_sizes_list}

module _ (ha : Header) (a : List ℕ) (hb : Header) (b : List ℕ) where
  abbrev cs : List Clause
  cs = pair_clauses ha (gates_of a) (gates_of b)

  -- of two cascades with the same header
  pub pair_emit_good : (c : Counts) → HeadedPair ha a hb b c → (room : ℕ)
      → pair_emit_outcome ha a hb b room
      ≡ demand (leb (length (stored cs)) room) no_room 0 (served (totals (pair_variables ha (gates_of a) (gates_of b)) (length cs) (length (stored cs))))
  unfolding pair_emit_outcome pair_sizes_outcome
  pair_emit_good c g room =
      let x = g.first_good.cascade in
      let y : Cascade ha.lines b max_gates c.second = subst (λ (h : Header). Cascade h.lines b max_gates c.second) (sym g.header) g.second_good.cascade in
      then_served _ _ _ (then_served _ _ c (served_headed_pair ha a hb b c g))
      ∙ ap (λ (t : Totals). demand (leb t.words room) no_room 0 (served t)) (pair_sizes_list ha (gates_of a) (gates_of b) x.lines_high x.gates y.gates)

  -- and what is wrong with two cascades stands
  pub pair_emit_wrong : (x y : ℕ) → headed_pair_outcome ha a hb b ≡ refused x y → (room : ℕ) → pair_emit_outcome ha a hb b room ≡ refused x y
  unfolding pair_emit_outcome pair_sizes_outcome
  pair_emit_wrong x y e room = then_refused _ _ x y (then_refused _ _ x y e)

  pub pair_emit_leaves : (out : List ℤ) (t : Totals) → pair_emit_outcome ha a hb b (length out) ≡ served t → pair_emit_buffer ha a hb b out ≡ over (stored cs) out
  unfolding pair_emit_buffer
  pair_emit_leaves out t e = written_served (stored cs) out (pair_emit_outcome ha a hb b (length out)) t e

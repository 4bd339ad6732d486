-- Without marks the sizes and the emission of a pair are those of its miter. Assumes nothing.
use Rattle.std.proofs.Common.{◌≡◌, ℕ, true, leb, List, length, ℤ, sym, refl, ap, ◌∙◌, ap₂, subst, arith, length-append}
use Rattle.circuit.specs.declared.gate.Gate.{Gate}
use Rattle.circuit.specs.declared.words.Counts.{Counts}
use Rattle.circuit.specs.Gate.{max_gates, max_miter_gates}
use Rattle.circuit.specs.Header.{unmarked}
use Rattle.circuit.specs.Inverse.{inverse}
use Rattle.circuit.specs.Outcome.{Outcome, served, refused, demand, and_then, written}
use Rattle.circuit.specs.Refusal.{no_room}
use Rattle.circuit.specs.Words.{gates_of, all_valid, pair_outcome, Cascade, GoodPair}
use Rattle.circuit.proofs.Promises.{then_served, unmarked_pair, pair_served, served_check, words_cascade, gates_words, valid_append, inverse_length, inverse_valid, cascade_count}
use Rattle.checking.specs.declared.clauses.Totals.{Totals}
use Rattle.checking.specs.Clauses.{clauses_of}
use Rattle.checking.specs.Stored.{stored}
use Rattle.checking.specs.Miter.{miter_gates}
use Rattle.checking.specs.Sizes.{sizes_of, sizes_outcome}
use Rattle.checking.specs.Emit.{emit_outcome, emit_buffer}
use Rattle.checking.specs.Pair.{pair_sizes_of, pair_sizes_outcome, pair_emit_outcome, pair_emit_buffer}
use Rattle.checking.specs.UnmarkedLaws.{words_of_miter, unmarked_sizes, unmarked_emission}
use Rattle.checking.proofs.lemmas.pair_emission.Sums.{miter_sizes}
use Rattle.checking.proofs.lemmas.pair.Laws.{unmarked_list}

module _ (na : ℕ) (a : List ℕ) (nb : ℕ) (b : List ℕ) where
  abbrev miter : List Gate
  miter = miter_gates (gates_of a) (gates_of b)

  miter_good : (c : Counts) → pair_outcome na a nb b ≡ served c → Cascade na (words_of_miter a b) max_miter_gates (length miter)
  miter_good c e =
      let g : GoodPair na a nb b c = pair_served na a nb b c e in
      let vb : all_valid na (gates_of b) ≡ true = subst (λ (n : ℕ). all_valid n (gates_of b) ≡ true) (sym g.lines) g.second_good.gates in
      let i = cascade_count na a max_gates c.first g.first_good in
      let j = cascade_count nb b max_gates c.second g.second_good in
      words_cascade na miter max_miter_gates g.first_good.lines_low g.first_good.lines_high
      (omega (arith, length-append (gates_of a) (inverse (gates_of b)), inverse_length (gates_of b), i, j, g.first_good.few, g.second_good.few))
      (valid_append na (gates_of a) (inverse (gates_of b)) g.first_good.gates (inverse_valid na (gates_of b) vb))

  miter_sized : (c : Counts) → pair_outcome na a nb b ≡ served c → sizes_outcome na (words_of_miter a b) ≡ served (sizes_of na miter)
  unfolding sizes_outcome
  miter_sized c e =
      then_served _ _ _ (served_check na (words_of_miter a b) max_miter_gates (length miter) (miter_good c e))
      ∙ ap (λ (gs : List Gate). served (sizes_of na gs)) (gates_words miter)

  pair_sized : (o : Outcome Counts) → pair_outcome na a nb b ≡ o
      → and_then o (λ counts. served (pair_sizes_of (unmarked na) (gates_of a) (gates_of b))) ≡ and_then o (λ counts. sizes_outcome na (words_of_miter a b))
  pair_sized (served c) e = ap served (miter_sizes (unmarked na) (gates_of a) (gates_of b) refl) ∙ sym (miter_sized c e)
  pair_sized (refused number place) e = refl

  pub sizes_same : pair_sizes_outcome (unmarked na) a (unmarked nb) b ≡ unmarked_sizes na a nb b
  unfolding pair_sizes_outcome
  sizes_same =
      ap (λ (o : Outcome Counts). and_then o (λ counts. served (pair_sizes_of (unmarked na) (gates_of a) (gates_of b)))) (unmarked_pair na a nb b)
      ∙ pair_sized (pair_outcome na a nb b) refl

  pub emission_same : (room : ℕ) → pair_emit_outcome (unmarked na) a (unmarked nb) b room ≡ unmarked_emission na a nb b room
  unfolding pair_emit_outcome emit_outcome
  emission_same room =
      ap (λ (o : Outcome Totals). and_then o (λ t. demand (leb t.words room) no_room 0 (served t))) sizes_same ∙ go (pair_outcome na a nb b)
    where
      go : (o : Outcome Counts)
          → and_then (and_then o (λ counts. sizes_outcome na (words_of_miter a b))) (λ t. demand (leb t.words room) no_room 0 (served t))
          ≡ and_then o (λ counts. and_then (sizes_outcome na (words_of_miter a b)) (λ t. demand (leb t.words room) no_room 0 (served t)))
      go (served c) = refl
      go (refused number place) = refl

  pub emitted_same : (c : Counts) → pair_outcome na a nb b ≡ served c → (out : List ℤ) → pair_emit_buffer (unmarked na) a (unmarked nb) b out ≡ emit_buffer na (words_of_miter a b) out
  unfolding pair_emit_buffer emit_buffer
  emitted_same c e out =
      ap₂ (λ (o : Outcome Totals) (front : List ℤ). written o front out)
      (emission_same (length out) ∙ ap (λ (o : Outcome Counts). and_then o (λ counts. emit_outcome na (words_of_miter a b) (length out))) e)
      (ap stored ((unmarked_list na (gates_of a) (gates_of b)).0 ∙ sym (ap (clauses_of na) (gates_words miter))))

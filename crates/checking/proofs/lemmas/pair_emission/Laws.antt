-- The laws of the answers of the sizes and the emission of a pair, and what its emission owes. Assumes nothing.
use Rattle.std.proofs.Common.{◌≡◌, ℕ, ◌<◌, ◌≤◌, true, leb, ◌↔◌, List, length, ℤ, sym, refl, ap, ◌∙◌, subst, arith, le-leb, leb-true}
use borrow.Author.Tests.{lt-leb}
use Rattle.bits.specs.Lists.{over}
use Rattle.circuit.specs.declared.header.Header.{Header}
use Rattle.circuit.specs.declared.words.Counts.{Counts}
use Rattle.circuit.specs.Header.{unmarked}
use Rattle.circuit.specs.Outcome.{Outcome, served, refused, Untouched, Yields}
use Rattle.circuit.specs.Refusal.{no_room}
use Rattle.circuit.specs.Words.{gates_of, all_valid, headed_pair_outcome, HeadedPair, HeadedPairRefused}
use Rattle.circuit.proofs.Promises.{told, written_refused, then_served, then_refused, then_both, demand_met, demand_failed, demanded, wrong_refused, fails_refused, same_refused, above, cascade_count, marks_facts, headed_pair_served, served_headed_pair, headed_pair_refused}
use Rattle.checking.specs.declared.clauses.Totals.{Totals}
use Rattle.checking.specs.Stored.{stored}
use Rattle.checking.specs.Pair.{pair_clauses, pair_sizes_of, pair_sizes_outcome, pair_emit_outcome, pair_emit_buffer}
use Rattle.checking.specs.PairEmit.{PairEmits}
use Rattle.checking.specs.PairTold.{PairServedTells}
use Rattle.checking.specs.private.Emission.{ListReady}
use Rattle.checking.specs.PairEmitLaws.{PairCounted, PairEmitRefused, PairEmitLaws}
use Rattle.checking.proofs.lemmas.pair.Equality.{pair_served_tells}
use Rattle.checking.proofs.lemmas.pair_emission.Fits.{pair_variables_few, pair_words_fit}
use Rattle.checking.proofs.lemmas.pair_emission.Sums.{pair_sizes_list, miter_sizes}
use Rattle.checking.proofs.lemmas.pair_emission.Answers.{pair_emit_leaves}

-- ---- served exactly for two cascades with the same header, and refused exactly by what is wrong

module _ (ha : Header) (a : List ℕ) (hb : Header) (b : List ℕ) where
  second_valid : (c : Counts) → HeadedPair ha a hb b c → all_valid ha.lines (gates_of b) ≡ true
  second_valid c g = ap (λ (h : Header). all_valid h.lines (gates_of b)) g.header ∙ g.second_good.cascade.gates

  sizes_good : (c : Counts) (g : HeadedPair ha a hb b c) → pair_sizes_outcome ha a hb b ≡ served (pair_sizes_of ha (gates_of a) (gates_of b))
  unfolding pair_sizes_outcome
  sizes_good c g = then_served _ _ c (served_headed_pair ha a hb b c g)

  sizes_are : (c : Counts) (g : HeadedPair ha a hb b c) → PairCounted ha a hb b (pair_sizes_of ha (gates_of a) (gates_of b))
  sizes_are c g =
      record {
        counts = c;
        good = g;
        sizes = pair_sizes_list ha (gates_of a) (gates_of b) g.first_good.cascade.lines_high g.first_good.cascade.gates (second_valid c g);
      }

  pub sizes_counted : (t : Totals) → pair_sizes_outcome ha a hb b ≡ served t → PairCounted ha a hb b t
  unfolding pair_sizes_outcome
  sizes_counted t e =
      let (c, checked, sum) = then_both (headed_pair_outcome ha a hb b) (λ c. served (pair_sizes_of ha (gates_of a) (gates_of b))) t e in
      let same : pair_sizes_of ha (gates_of a) (gates_of b) ≡ t = cc in
      subst (PairCounted ha a hb b) same (sizes_are c (headed_pair_served ha a hb b c checked))

  counted_sizes : (t : Totals) → PairCounted ha a hb b t → pair_sizes_outcome ha a hb b ≡ served t
  counted_sizes t c = sizes_good c.counts c.good ∙ ap served ((sizes_are c.counts c.good).sizes ∙ sym c.sizes)

  sizes_wrong : (x y : ℕ) → (pair_sizes_outcome ha a hb b ≡ refused x y) ↔ HeadedPairRefused ha a hb b x y
  unfolding pair_sizes_outcome
  sizes_wrong = same_refused (headed_pair_outcome ha a hb b) _ (HeadedPairRefused ha a hb b) (headed_pair_refused ha a hb b)

  module _ (room : ℕ) where
    emit_counted : (t : Totals) → pair_emit_outcome ha a hb b room ≡ served t → (PairCounted ha a hb b t) × (t.words ≤ room)
    unfolding pair_emit_outcome
    emit_counted t e =
        let (u, p, f) = then_both (pair_sizes_outcome ha a hb b) _ t e in
        let (h, g) = demanded (leb u.words room) no_room 0 (served u) t f in
        let same : u ≡ t = cc in
        (sizes_counted t (p ∙ g), leb-true t.words room (ap (λ (x : Totals). leb x.words room) (sym same) ∙ h))

    counted_emit : (t : Totals) → PairCounted ha a hb b t → t.words ≤ room → pair_emit_outcome ha a hb b room ≡ served t
    unfolding pair_emit_outcome
    counted_emit t c h = then_served _ _ t (counted_sizes t c) ∙ demand_met _ _ _ _ (le-leb _ _ h)

    emit_wrong : (x y : ℕ) → (pair_emit_outcome ha a hb b room ≡ refused x y) ↔ PairEmitRefused ha a hb b room x y
    unfolding pair_emit_outcome
    emit_wrong =
        wrong_refused (pair_sizes_outcome ha a hb b) _ _ _ _ sizes_wrong (λ t. (sizes_counted t, counted_sizes t))
        (λ t c. fails_refused (leb t.words room) no_room 0 t (room < t.words) (above t.words room))

  module _ (out : List ℤ) where
    emit_untouched : Untouched (pair_emit_outcome ha a hb b (length out)) out (pair_emit_buffer ha a hb b out)
    unfolding pair_emit_buffer
    emit_untouched = written_refused (stored (pair_clauses ha (gates_of a) (gates_of b))) out (pair_emit_outcome ha a hb b (length out))

pub pair_emit_laws : PairEmitLaws
pair_emit_laws =
    record {
      sizes_served = λ ha a hb b t. (sizes_counted ha a hb b t, counted_sizes ha a hb b t);
      sizes_refused = sizes_wrong;
      emit_served = λ ha a hb b room t. (emit_counted ha a hb b room t, (λ c. counted_emit ha a hb b room t c.0 c.1));
      emit_leaves = pair_emit_leaves;
      emit_untouched = emit_untouched;
      emit_refused = emit_wrong;
      sizes_list = pair_sizes_list;
      unmarked_sizes = λ n a b. miter_sizes (unmarked n) a b refl;
      variables_few = pair_variables_few;
      words_fit = pair_words_fit;
    }

-- ---- what emission answers and leaves

module _ (ha : Header) (a : List ℕ) (hb : Header) (b : List ℕ) (out : List ℤ) where
  abbrev Owes : Outcome Totals → List ℤ → Type 0
  Owes r last = PairEmits ha a hb b out r last

  abbrev front : List ℤ
  front = stored (pair_clauses ha (gates_of a) (gates_of b))

  -- what is told of the answer and the buffer of the definitions is told of the call's
  owes : (r : Outcome Totals) (last : List ℤ) → Yields r last (pair_emit_outcome ha a hb b (length out)) (pair_emit_buffer ha a hb b out) → Owes r last
  owes r last y =
      record {
        yields = y;
        tells =
            subst (λ (o : Outcome Totals). PairServedTells ha a hb b o last) (sym y.answer)
            (subst (λ (l : List ℤ). PairServedTells ha a hb b (pair_emit_outcome ha a hb b (length out)) l) (sym y.buffer) (pair_served_tells ha a hb b out));
      }

  pub emit_refused : (number place : ℕ) → pair_sizes_outcome ha a hb b ≡ refused number place → Owes (refused number place) out
  unfolding pair_emit_outcome pair_emit_buffer
  emit_refused number place f =
      owes (refused number place) out
      (told front out (refused number place) out (pair_emit_outcome ha a hb b (length out)) (refused number place) refl (then_refused _ _ number place f) refl)

  module _ (t : Totals) (sized : pair_sizes_outcome ha a hb b ≡ served t) where
    pub emit_short : length out < t.words → Owes (refused no_room 0) out
    unfolding pair_emit_outcome pair_emit_buffer
    emit_short h =
        owes (refused no_room 0) out
        (told front out (refused no_room 0) out (pair_emit_outcome ha a hb b (length out)) (refused no_room 0) refl
        (then_served _ _ t sized ∙ demand_failed _ no_room 0 (served t) (lt-leb t.words (length out) h)) refl)

    pub emit_served : (last : List ℤ) → t.words ≤ length out → last ≡ over front out → Owes (served t) last
    unfolding pair_emit_outcome pair_emit_buffer
    emit_served last h l =
        owes (served t) last
        (told front out (served t) last (pair_emit_outcome ha a hb b (length out)) (served t) refl
        (then_served _ _ t sized ∙ demand_met _ no_room 0 (served t) (le-leb t.words (length out) h)) l)

    -- two cascades whose clauses fit
    pub list_ready : t.words ≤ length out → ListReady ha (gates_of a) (gates_of b) (length out)
    list_ready h =
        let c = sizes_counted ha a hb b t sized in
        let x = c.good.first_good.cascade in
        let y = c.good.second_good.cascade in
        let words : t.words ≡ length front = ap (λ (x : Totals). x.words) c.sizes in
        record {
          lines = x.lines_high;
          constants = (marks_facts ha c.good.first_good.marks).0;
          first = x.gates;
          second = second_valid ha a hb b c.counts c.good;
          few = omega (arith, cascade_count _ _ _ _ x, x.few, cascade_count _ _ _ _ y, y.few);
          enough = omega arith;
        }

-- What sizes and emission answer, and what emission leaves. Assumes nothing.
use Rattle.std.proofs.Common.{◌≡◌, ℕ, ◌<◌, ◌≤◌, leb, ◌↔◌, List, [], length, ℤ, sym, refl, ap, ◌∙◌, append-nil, arith, le-leb, leb-true, pow_pos}
use borrow.Author.Tests.{lt-leb}
use Rattle.bits.specs.Lists.{over}
use Rattle.circuit.specs.declared.gate.Gate.{Gate}
use Rattle.circuit.specs.Gate.{max_miter_gates}
use Rattle.circuit.specs.Header.{unmarked}
use Rattle.circuit.specs.Outcome.{Outcome, served, refused, demand, Untouched, Yields}
use Rattle.circuit.specs.Refusal.{no_room}
use Rattle.circuit.specs.Words.{gates_of, all_valid, check_outcome, WordsRefused, Cascade}
use Rattle.circuit.proofs.Promises.{gates_end, valid_none, cascade_count, told, written_served, written_refused, then_served, then_refused, then_both, demand_met, demand_failed, demanded, wrong_refused, fails_refused, same_refused, above, check_served, served_check, check_refused, refused_check}
use Rattle.checking.specs.declared.clauses.Totals.{Totals}
use Rattle.checking.specs.Clauses.{Clause, clauses_of, variables_of}
use Rattle.checking.specs.Miter.{miter_gates}
use Rattle.checking.specs.Pair.{pair_clauses}
use Rattle.checking.specs.Stored.{stored}
use Rattle.checking.specs.Sizes.{totals, sizes_of, sizes_outcome}
use Rattle.checking.specs.Emit.{emit_outcome, emit_buffer}
use Rattle.checking.specs.private.Emission.{ListReady}
use Rattle.checking.specs.EmitLaws.{Counted, EmitRefused, EmitLaws}
use Rattle.checking.proofs.lemmas.clauses.Sums.{sizes_list}

-- ---- served exactly for a cascade, and refused exactly by what is wrong

module _ (n : ℕ) (ws : List ℕ) where
  sizes_counted : (t : Totals) → sizes_outcome n ws ≡ served t → Counted n ws t
  unfolding sizes_outcome
  sizes_counted t e =
      let (k, checked, sum) = then_both (check_outcome n ws max_miter_gates) (λ k. served (sizes_of n (gates_of ws))) t e in
      let good = check_served n ws max_miter_gates k checked in
      let same : sizes_of n (gates_of ws) ≡ t = cc in
      record { gates = k; good = good; sizes = sym same ∙ sizes_list n (gates_of ws) good.lines_high good.gates }

  counted_sizes : (t : Totals) → Counted n ws t → sizes_outcome n ws ≡ served t
  unfolding sizes_outcome
  counted_sizes t c =
      then_served _ _ c.gates (served_check n ws max_miter_gates c.gates c.good)
      ∙ ap served (sizes_list n (gates_of ws) c.good.lines_high c.good.gates ∙ sym c.sizes)

  sizes_wrong : (x y : ℕ) → (sizes_outcome n ws ≡ refused x y) ↔ WordsRefused n ws max_miter_gates x y
  unfolding sizes_outcome
  sizes_wrong =
      same_refused (check_outcome n ws max_miter_gates) _ (WordsRefused n ws max_miter_gates)
      (λ x y. (check_refused n ws max_miter_gates x y, refused_check n ws max_miter_gates x y))

  module _ (room : ℕ) where
    emit_counted : (t : Totals) → emit_outcome n ws room ≡ served t → (Counted n ws t) × (t.words ≤ room)
    unfolding emit_outcome
    emit_counted t e =
        let (u, p, f) = then_both (sizes_outcome n ws) _ t e in
        let (h, g) = demanded (leb u.words room) no_room 0 (served u) t f in
        let same : u ≡ t = cc in
        (sizes_counted t (p ∙ g), leb-true t.words room (ap (λ (x : Totals). leb x.words room) (sym same) ∙ h))

    counted_emit : (t : Totals) → Counted n ws t → t.words ≤ room → emit_outcome n ws room ≡ served t
    unfolding emit_outcome
    counted_emit t c h = then_served _ _ t (counted_sizes t c) ∙ demand_met _ _ _ _ (le-leb _ _ h)

    emit_wrong : (x y : ℕ) → (emit_outcome n ws room ≡ refused x y) ↔ EmitRefused n ws room x y
    unfolding emit_outcome
    emit_wrong =
        wrong_refused (sizes_outcome n ws) _ _ _ _ sizes_wrong (λ t. (sizes_counted t, counted_sizes t))
        (λ t c. fails_refused (leb t.words room) no_room 0 t (room < t.words) (above t.words room))

module _ (n : ℕ) (ws : List ℕ) (out : List ℤ) where
  emit_leaves : (t : Totals) → emit_outcome n ws (length out) ≡ served t → emit_buffer n ws out ≡ over (stored (clauses_of n (gates_of ws))) out
  unfolding emit_buffer
  emit_leaves t e = written_served (stored (clauses_of n (gates_of ws))) out (emit_outcome n ws (length out)) t e

  emit_untouched : Untouched (emit_outcome n ws (length out)) out (emit_buffer n ws out)
  unfolding emit_buffer
  emit_untouched = written_refused (stored (clauses_of n (gates_of ws))) out (emit_outcome n ws (length out))

pub emit_laws : EmitLaws
emit_laws =
    record {
      sizes_served = λ n ws t. (sizes_counted n ws t, counted_sizes n ws t);
      sizes_refused = sizes_wrong;
      emit_served = λ n ws room t. (emit_counted n ws room t, (λ c. counted_emit n ws room t c.0 c.1));
      emit_leaves = emit_leaves;
      emit_untouched = emit_untouched;
      emit_refused = emit_wrong;
    }

-- the emission of a cascade
pub emit_cascade : (n : ℕ) (ws : List ℕ) (k : ℕ) → Cascade n ws max_miter_gates k → (room : ℕ)
    → emit_outcome n ws room
    ≡ demand (leb (length (stored (clauses_of n (gates_of ws)))) room) no_room 0
    (served (totals (variables_of n (gates_of ws)) (length (clauses_of n (gates_of ws))) (length (stored (clauses_of n (gates_of ws))))))
unfolding emit_outcome
emit_cascade n ws k c room = then_served _ _ _ (counted_sizes n ws _ (record { gates = k; good = c; sizes = refl }))

-- ---- the list of a cascade is that of a pair without marks whose second cascade has no gates

pub no_gates : gates_of [] ≡ []
no_gates = gates_end [] 0 (omega arith)

pub alone_list : (n : ℕ) (gs : List Gate) → pair_clauses (unmarked n) gs (gates_of []) ≡ clauses_of n gs
unfolding pair_clauses
alone_list n gs = ap (λ (b : List Gate). clauses_of n (miter_gates gs b)) no_gates ∙ ap (clauses_of n) (append-nil gs)

-- ---- what emission answers and leaves

module _ (n : ℕ) (ws : List ℕ) (out : List ℤ) where
  abbrev Owes : Outcome Totals → List ℤ → Type 0
  Owes r last = Yields r last (emit_outcome n ws (length out)) (emit_buffer n ws out)

  abbrev front : List ℤ
  front = stored (clauses_of n (gates_of ws))

  pub emit_refused : (r : Outcome Totals) (number place : ℕ) → r ≡ refused number place → sizes_outcome n ws ≡ refused number place → Owes r out
  unfolding emit_outcome emit_buffer
  emit_refused r number place e f = told front out r out (emit_outcome n ws (length out)) (refused number place) e (then_refused _ _ number place f) refl

  module _ (t : Totals) (sized : sizes_outcome n ws ≡ served t) where
    pub emit_short : (r : Outcome Totals) → r ≡ refused no_room 0 → length out < t.words → Owes r out
    unfolding emit_outcome emit_buffer
    emit_short r e h =
        told front out r out (emit_outcome n ws (length out)) (refused no_room 0) e (then_served _ _ t sized ∙ demand_failed _ no_room 0 (served t) (lt-leb t.words (length out) h)) refl

    pub emit_served : (last : List ℤ) → t.words ≤ length out → last ≡ over front out → Owes (served t) last
    unfolding emit_outcome emit_buffer
    emit_served last h l =
        told front out (served t) last (emit_outcome n ws (length out)) (served t) refl (then_served _ _ t sized ∙ demand_met _ no_room 0 (served t) (le-leb t.words (length out) h)) l

    -- a cascade whose clauses fit; none of a second one's gates come after its own
    pub list_ready : t.words ≤ length out → ListReady (unmarked n) (gates_of ws) (gates_of []) (length out)
    list_ready h =
        let c = sizes_counted n ws t sized in
        let good = c.good in
        let words : t.words ≡ length front = ap (λ (x : Totals). x.words) c.sizes in
        record {
          lines = good.lines_high;
          constants = pow_pos n;
          first = good.gates;
          second = ap (all_valid n) no_gates ∙ valid_none n;
          few = omega (arith, cascade_count n ws max_miter_gates c.gates good, good.few, ap length no_gates);
          enough = omega (arith, ap (λ (cs : List Clause). length (stored cs)) (alone_list n (gates_of ws)));
        }

-- What comparing two cascades owes, case by case. Assumes nothing.
use mathlib.Core.Path.{◌≡◌, refl, sym, ap, ap₂, subst, ◌∙◌}
use mathlib.Core.Bool.{true, false}
use mathlib.Core.List.{List, [], ◌++◌}
use Prim.Native.Nat.{ℕ, ◌+◌, ◌*◌, ◌^◌, ◌≤◌, ◌<◌}
use native.Mathlib.Omega.{arith}
use lib.Dec.{leb}
use lib.IntN.{ℤ}
use lib.ListN.{length, take, drop, length-append}
use lib.Seq.{length-take-le, take-append-le}
use borrow.Author.Tests.{le-leb, leb-true, leb-false}
use Rattle.bits.specs.Lists.{over}
use Rattle.bits.proofs.Bools.{either}
use Rattle.bits.proofs.Lists.{empty}
use Rattle.circuit.specs.declared.gate.Gate.{Gate}
use Rattle.circuit.specs.declared.header.Header.{Header}
use Rattle.std.proofs.Common.{Result, Ok, Err}
use Rattle.circuit.specs.Gate.{max_gates, max_miter_gates}
use Rattle.circuit.specs.Outcome.{Outcome, served, refused, demand}
use Rattle.circuit.specs.Refusal.{no_room}
use Rattle.circuit.specs.Words.{gates_of, Cascade, Headed}
use Rattle.circuit.proofs.Promises.{never, demand_met, demand_failed, gates_length, served_headed_pair}
use Rattle.checking.specs.declared.clauses.Totals.{Totals}
use Rattle.checking.specs.Miter.{miter_gates, miter_outcome, miter_buffer}
use Rattle.checking.specs.Reduce.{Reduced, reduce_gates, numbered, reduce_outcome, reduce_buffer}
use Rattle.checking.specs.Compare.{max_sweep_lines, Difference, lowest_from, difference_outcome}
use Rattle.checking.specs.Clauses.{Clause, max_variables}
use Rattle.checking.specs.Satisfaction.{ClausesWithin}
use Rattle.checking.specs.Sizes.{totals}
use Rattle.checking.specs.Emit.{emit_outcome, emit_buffer}
use Rattle.checking.specs.Pair.{pair_emit_outcome, pair_emit_buffer}
use Rattle.checking.specs.Stored.{stored}
use Rattle.checking.proofs.Promises.{miter_laws, reduce_laws, difference_made, emit_laws, emit_cascade, pair_emit_good, pair_emit_leaves}
use Rattle.text.specs.declared.comparison.Compared.{Compared}
use Rattle.text.specs.declared.comparison.Compared.TheVariants.{Clauses}
use Rattle.text.specs.declared.refused.FileRefusal.{FileRefusal}
use Rattle.text.specs.Formula.{Formula, formula_of, pair_formula}
use Rattle.text.specs.FileOutcome.{FileOutcome, answered, refused_at, answer_of, map_answer}
use Rattle.text.specs.Compare.{max_list, Comparison, unsolved, alone, swept_as, list_as}
use Rattle.text.specs.private.Lists.{ListStands}
use Rattle.text.specs.private.Words.{AllShort}
use Rattle.text.specs.private.Comparing.{MiterWords, MiterCascade, LeftIn, listed_as, compared_as, ClausesReady, ComparedReady, InClauses, SaysCompared, SaysAny}
use Rattle.text.proofs.FileOutcome.{both_met, both_failed, file_served, file_refused, unanswered, not_refused}
use Rattle.text.proofs.Pairs.{list_below}
use Rattle.text.proofs.list.Laws.{list_stands, words_listable}
use Rattle.text.proofs.stored.Laws.{stored_in_lem}
use Rattle.text.proofs.plain.Short.{list_short, pair_short, list_within, stands_stored}
use Rattle.text.proofs.Reduced.{no_more}
use Rattle.text.proofs.Compares.{list_fits, list_long}

-- ---- the reduction

abbrev left_of : Outcome (Reduced ℕ) → ℕ
left_of (served r) = r.left
left_of (refused number place) = 0

module _ (n gates : ℕ) (room : List ℕ) (m : MiterWords n gates room) where
  abbrev ws : List ℕ
  ws = take (3 * gates) room

  abbrev hs : List Gate
  hs = (reduce_gates (gates_of ws)).left

  pub reduce_served : reduce_outcome n ws ≡ served (numbered (reduce_gates (gates_of ws)))
  reduce_served = reduce_laws.call_served n ws gates m.cascade

  pub left_in : (last : List ℕ) (left pairs merges : ℕ) → served (record { left = left; pairs = pairs; merges = merges }) ≡ reduce_outcome n ws → last ≡ reduce_buffer n ws
      → length last ≡ length ws → LeftIn n left (last ++ drop (3 * gates) room) hs
  left_in last left pairs merges e b l =
      let f : left ≡ length hs = ap left_of (e ∙ reduce_served) in
      let s = reduce_laws.call_stands n ws gates m.cascade in
      let c = s.cascade in
      let size : length ws ≡ 3 * gates = length-take-le (3 * gates) room m.inside in
      let few : 3 * left ≤ length last =
      omega (arith, f, c.size, ap length b, lib.ListN.length-take (3 * length hs) (reduce_buffer n ws)) in
      let t : take (3 * left) (last ++ drop (3 * gates) room) ≡ take (3 * length hs) (reduce_buffer n ws) =
      take-append-le (3 * left) last (drop (3 * gates) room) few ∙ ap₂ (λ (k : ℕ) (x : List ℕ). take (3 * k) x) f b in
      record {
        words =
            record {
              inside = omega (arith, few, length-append last (drop (3 * gates) room));
              cascade = subst (λ (x : List ℕ). Cascade n x max_miter_gates left) (sym t) (subst (Cascade n (take (3 * length hs) (reduce_buffer n ws)) max_miter_gates) (sym f) c);
            };
        gates_are = ap gates_of t ∙ s.gates;
      }

-- ---- gates at the start of a room

module _ (n k : ℕ) (room : List ℕ) (gs : List Gate) (l : LeftIn n k room gs) where
  pub left_count : length gs ≡ k
  left_count =
      let c = l.words.cascade in
      sym (ap length l.gates_are) ∙ gates_length (take (3 * k) room) ∙ omega (arith, c.size)

  -- none are left exactly where their count is 0
  pub left_none : k ≡ 0 → gs ≡ []
  left_none e = empty gs (left_count ∙ e)

  pub left_some : (k ≡ 0 → ⊥) → gs ≡ [] → ⊥
  left_some ne e = ne (sym left_count ∙ ap length e)

-- the miter of two cascades
module _ (h k : Header) (a b : List ℕ) (i j : ℕ) (ga : Headed h a max_gates i) (gb : Headed k b max_gates j) (same : h ≡ k) where
  pub miter_made : (room : ℕ) → length a + length b ≤ room → miter_outcome h.lines a k.lines b room ≡ served (i + j)
  miter_made room long =
      let x = ga.cascade in
      let y = gb.cascade in
      (miter_laws.miter_served h.lines a k.lines b room (i + j)).1
      (record { first = i; second = j; first_good = x; second_good = y; lines = ap (λ (g : Header). g.lines) same; fits = omega (arith, x.size, y.size, long); count = refl })

  pub miter_in : (out : List ℕ) (gates : ℕ) (buffer : List ℕ) → length a + length b ≤ length out → served gates ≡ miter_outcome h.lines a k.lines b (length out) → buffer ≡ miter_buffer h.lines a k.lines b out
      → length buffer ≡ length out → LeftIn h.lines gates buffer (miter_gates (gates_of a) (gates_of b))
  miter_in out gates buffer long e is l =
      let m = miter_laws.miter_stands h.lines a k.lines b out gates (sym e) in
      let s = (miter_laws.miter_served h.lines a k.lines b (length out) gates).0 (sym e) in
      let x = s.first_good in
      let y = s.second_good in
      record {
        words =
            record {
              inside = omega (arith, s.count, x.size, y.size, long);
              cascade = subst (λ (ws : List ℕ). Cascade h.lines (take (3 * gates) ws) max_miter_gates gates) (sym is) m.cascade;
            };
        gates_are = ap (λ (ws : List ℕ). gates_of (take (3 * gates) ws)) is ∙ m.gates;
      }

  -- ---- the sweep

  module _ (few : h.lines ≤ max_sweep_lines) where
    difference_is : difference_outcome h a k b ≡ served (lowest_from h (gates_of a) (gates_of b) 0 (2 ^ h.lines))
    difference_is =
        difference_made h a k b _ (served_headed_pair h a k b (record { first = i; second = j }) (record { first_good = ga; second_good = gb; header = same })) few

    pub swept_as_lem : (r : Compared) (d : Difference) (o : Outcome Difference) → o ≡ served d → o ≡ difference_outcome h a k b
        → ((clauses : List ℤ) → SaysCompared (Ok r) clauses (answered (swept_as (gates_of a) (gates_of b) d))) → SaysAny r (swept_as (gates_of a) (gates_of b) (lowest_from h (gates_of a) (gates_of b) 0 (2 ^ h.lines)))
    swept_as_lem r d o e f s =
        let g : d ≡ lowest_from h (gates_of a) (gates_of b) 0 (2 ^ h.lines) = let q = sym e ∙ f ∙ difference_is in cc in
        record { says = λ clauses. subst (λ (x : Difference). SaysCompared (Ok r) clauses (answered (swept_as (gates_of a) (gates_of b) x))) g (s clauses) }

    pub never_refused : {P : Type 0} (o : Outcome Difference) (number place : ℕ) → o ≡ refused number place → o ≡ difference_outcome h a k b → P
    never_refused o number place e f = absurd (never difference_is (sym f ∙ e))

-- ---- each cascade alone

module _ (h : Header) (ws : List ℕ) (k : ℕ) (good : Headed h ws max_gates k) where
  -- what its reduction leaves is such a cascade
  pub left_headed : (left : ℕ) (room : List ℕ) → LeftIn h.lines left room (alone (gates_of ws)) → Headed h (take (3 * left) room) max_gates left
  left_headed left room l =
      let c = l.words.cascade in
      let g = good.cascade in
      record {
        marks = good.marks;
        cascade =
            record {
              lines_low = c.lines_low;
              lines_high = c.lines_high;
              size = c.size;
              few = omega (arith, left_count h.lines left room _ l, no_more h.lines (gates_of ws) g.lines_high g.gates, gates_length ws, g.size, g.few);
              gates = c.gates;
            };
      }

-- ---- the clause list

-- what was emitted of clauses that can be written, by how it was answered and what was left in the buffer
module _ (f : Formula) (short : AllShort f.clauses) (within : ClausesWithin max_variables f.clauses) (out : List ℤ) (long : max_list ≤ length out) where
  abbrev size : ℕ
  size = length (stored f.clauses)

  abbrev emitted : Outcome Totals
  emitted = demand (leb size (length out)) no_room 0 (served (totals f.variables (length f.clauses) size))

  module _ (buffer : List ℤ) (leaves : (t : Totals) → emitted ≡ served t → buffer ≡ over (stored f.clauses) out) where
    ready_as : (r : Result Compared FileRefusal) (t : Totals) → answer_of r ≡ answered (Clauses t) → InClauses t.words buffer → ComparedReady r buffer
    ready_as (Ok c) t e i = subst (λ (d : Compared). ClausesReady d buffer) (sym (unanswered e)) i
    ready_as (Err r) t e i = absurd (not_refused e)

    ready_refused : (r : Result Compared FileRefusal) (number file place : ℕ) → answer_of r ≡ refused_at number file place → ComparedReady r buffer
    ready_refused (Ok c) number file place e = absurd (not_refused (sym e))
    ready_refused (Err r) number file place e = tt

    pub listed_says : (r : Result Compared FileRefusal) → answer_of r ≡ listed_as emitted → SaysCompared r buffer (list_as f)
    listed_says r e = either (leb size max_list) few many
      where
        few : leb size max_list ≡ true → SaysCompared r buffer (list_as f)
        few u =
            let l : size ≤ max_list = leb-true size max_list u in
            let t : Totals = totals f.variables (length f.clauses) size in
            let o : emitted ≡ served t = demand_met _ _ _ _ (le-leb size (length out) (omega (arith, l, long))) in
            let s : ListStands t buffer f = list_stands f short within t buffer out o (leaves t o) in
            let g : answer_of r ≡ answered (Clauses t) = e ∙ file_served 0 emitted _ t o ∙ both_met (leb size max_list) _ _ u in
            record {
              is =
                  ap (map_answer (λ (c : Compared). compared_as c buffer)) g
                  ∙ ap (λ (cs : List Clause). answered (unsolved (record { variables = f.variables; clauses = cs }))) (stored_in_lem (take t.words buffer) f.clauses s.words)
                  ∙ sym (list_fits f l);
              ready = ready_as r t g (record { inside = s.inside; stores = stands_stored t buffer f s l });
            }

        refused_says : answer_of r ≡ refused_at no_room 0 0 → max_list < size → SaysCompared r buffer (list_as f)
        refused_says g l =
            record { is = ap (map_answer (λ (c : Compared). compared_as c buffer)) g ∙ sym (list_long f l); ready = ready_refused r no_room 0 0 g }

        many : leb size max_list ≡ false → SaysCompared r buffer (list_as f)
        many u =
            let l : max_list < size = leb-false size max_list u in
            either (leb size (length out))
            (λ v. refused_says (e ∙ file_served 0 emitted _ _ (demand_met _ _ _ _ v) ∙ both_failed (leb size max_list) _ _ u) l)
            (λ v. refused_says (e ∙ file_refused 0 emitted _ no_room 0 (demand_failed _ _ _ _ v)) l)

-- of gates
pub gates_say : (n : ℕ) (ws : List ℕ) → MiterCascade n ws → (out buffer : List ℤ) → max_list ≤ length out → buffer ≡ emit_buffer n ws out
    → (r : Result Compared FileRefusal) → answer_of r ≡ listed_as (emit_outcome n ws (length out)) → SaysCompared r buffer (list_as (formula_of n (gates_of ws)))
gates_say n ws m out buffer long is r e =
    let c = m.cascade in
    let o = emit_cascade n ws m.count c (length out) in
    let w = list_within n (gates_of ws) c.lines_high (omega (arith, gates_length ws, c.size, c.few)) c.gates in
    listed_says (formula_of n (gates_of ws)) (list_short n (gates_of ws)) w out long buffer (λ t s. is ∙ emit_laws.emit_leaves n ws out t (o ∙ s)) r (e ∙ ap listed_as o)

-- of two cascades
pub pair_says : (h k : Header) (a b : List ℕ) (i j : ℕ) → Headed h a max_gates i → Headed k b max_gates j → h ≡ k → (out buffer : List ℤ) → max_list ≤ length out
    → buffer ≡ pair_emit_buffer h a k b out → (r : Result Compared FileRefusal) → answer_of r ≡ listed_as (pair_emit_outcome h a k b (length out))
    → SaysCompared r buffer (list_as (pair_formula h (gates_of a) (gates_of b)))
pair_says h k a b i j ga gb same out buffer long is r e =
    let o = pair_emit_good h a k b (record { first = i; second = j }) (record { first_good = ga; second_good = gb; header = same }) (length out) in
    let l = words_listable h a k b (record { count = i; cascade = ga }) (record { count = j; cascade = gb }) same in
    listed_says (pair_formula h (gates_of a) (gates_of b)) (pair_short h (gates_of a) (gates_of b)) (list_below h (gates_of a) (gates_of b) l) out long buffer
    (λ t s. is ∙ pair_emit_leaves h a k b out t (o ∙ s)) r (e ∙ ap listed_as o)

-- the same comparison, said in another way
pub says_as : (r : Result Compared FileRefusal) (clauses : List ℤ) (x y : FileOutcome Comparison) → x ≡ y → SaysCompared r clauses y → SaysCompared r clauses x
says_as r clauses x y e s = subst (SaysCompared r clauses) (sym e) s

-- Demand 3: the calls keep what stands, and the emitted clauses tell on which states the two cascades differ. Assumes nothing.
use Rattle.std.proofs.Common.{◌≡◌, ℕ, ◌+◌, ◌*◌, ◌≤◌, true, ◌↔◌, List, [], ◌∷◌, length, take, ℤ, sym, refl, ap, ◌∙◌, subst, arith, le-leb}
use Rattle.circuit.specs.declared.gate.Gate.{Gate}
use Rattle.circuit.specs.Gate.{max_lines, max_miter_gates}
use Rattle.circuit.specs.Outcome.{Outcome, served, refused, written}
use Rattle.circuit.specs.Words.{gates_of, all_valid, check_outcome, Cascade}
use Rattle.circuit.specs.Run.{run}
use Rattle.circuit.proofs.Promises.{demand_met, then_served, then_refused, check_served, served_check, valid_all_more, run_none, gates_length}
use Rattle.checking.specs.declared.clauses.Totals.{Totals}
use Rattle.checking.specs.Miter.{miter_gates, miter_outcome, miter_buffer}
use Rattle.checking.specs.Step.{Step, found, none, step_gates, with_count, step_outcome, step_buffer}
use Rattle.checking.specs.StepLaws.{Steps, Keeps, Stands}
use Rattle.checking.specs.Reduce.{Reduced, reduce_gates, reduce_outcome, reduce_buffer}
use Rattle.checking.specs.ReduceLaws.{Reduces}
use Rattle.checking.specs.Clauses.{Clause, clauses_of, variables_of}
use Rattle.checking.specs.Stored.{stored}
use Rattle.checking.specs.Sizes.{totals, sizes_of, sizes_outcome}
use Rattle.checking.specs.Emit.{emit_outcome, emit_buffer}
use Rattle.checking.specs.Equality.{step_leaves, reduce_leaves, after, after_all, miter_leaves, left_after, Emitted, EqualityOf, Equality}
use Rattle.checking.specs.declared.check.Call.TheVariants.{ReduceOn}
use Rattle.checking.specs.declared.check.Call.TheVariants.{StepOn}
use Rattle.checking.specs.declared.check.Call.{Call}
use Rattle.checking.proofs.lemmas.miter.Laws.{miter_laws}
use Rattle.checking.proofs.lemmas.step.Laws.{none_kept, step_laws}
use Rattle.checking.proofs.lemmas.reduce.Relation.{reduce_laws}
use Rattle.checking.proofs.lemmas.clauses.Meaning.{tells_same}
use Rattle.checking.proofs.lemmas.clauses.Laws.{clause_laws}
use Rattle.checking.proofs.lemmas.Listed.{Listed, are_read}

-- ---- what stands

-- words of a cascade on n lines that does on every state what the gates `start` do, and has no more gates
pub record Standing (n : ℕ) (start : List Gate) (ws : List ℕ) : Type 0 where
  pub count : ℕ
  pub cascade : Cascade n ws max_miter_gates count
  pub fewer : count ≤ length start
  pub same : (s : ℕ) → run (gates_of ws) s ≡ run start s

module _ (n : ℕ) (start : List Gate) (ws : List ℕ) (g : Standing n start ws) where
  all_lines : all_valid max_lines (gates_of ws) ≡ true
  all_lines = valid_all_more n max_lines (gates_of ws) g.cascade.lines_high g.cascade.gates

  -- gates hs that stand in a buffer and do what the gates before did, and are no more
  kept : (last : List ℕ) (hs : List Gate) → Stands n ws last hs → Keeps n (gates_of ws) hs → length hs ≤ length (gates_of ws) → Standing n start (take (3 * length hs) last)
  kept last hs s k l =
      record {
        count = length hs;
        cascade = s.cascade;
        fewer = omega (arith, g.fewer, g.cascade.size, gates_length ws);
        same = λ x. ap (λ (l : List Gate). run l x) s.gates ∙ k.same x ∙ g.same x;
      }

  module _ (m : ℕ) where
    step_found : (k : ℕ) → Cascade m ws max_miter_gates k → (t : Step (List Gate)) → step_gates (gates_of ws) ≡ t → Standing n start (step_leaves (served (with_count t)) (step_buffer m ws))
    step_found k c (found i j kind hs) e =
        let s : Stands n ws (step_buffer n ws) hs = step_laws.call_stands n ws g.count g.cascade i j kind hs e in
        let steps : Steps (gates_of ws) (found i j kind hs) = (step_laws.step_steps (gates_of ws) all_lines _).0 e in
        let keeps : Keeps n (gates_of ws) hs = step_laws.step_keeps n (gates_of ws) g.cascade.lines_high g.cascade.gates i j kind hs steps in
        let b : step_buffer n ws ≡ step_buffer m ws = (step_laws.call_lines n m ws g.count k g.cascade c).1 in
        subst (λ (l : List ℕ). Standing n start (take (3 * length hs) l)) b (kept (step_buffer n ws) hs s keeps (omega (arith, step_laws.step_count (gates_of ws) i j kind hs steps)))
    step_found k c none e = subst (Standing n start) (sym (none_kept m ws e)) g

    after_step : (o : Outcome ℕ) → check_outcome m ws max_miter_gates ≡ o → Standing n start (after (StepOn m) ws)
    unfolding after step_outcome
    after_step (served k) e =
        let c : Cascade m ws max_miter_gates k = check_served m ws max_miter_gates k e in
        subst (λ (o : Outcome (Step ℕ)). Standing n start (step_leaves o (step_buffer m ws))) (sym (step_laws.call_served m ws k c)) (step_found k c (step_gates (gates_of ws)) refl)
    after_step (refused number place) e =
        let o : step_outcome m ws ≡ refused number place = then_refused _ _ number place e in
        subst (λ (o : Outcome (Step ℕ)). Standing n start (step_leaves o (step_buffer m ws))) (sym o)
        (subst (Standing n start) (sym (step_laws.call_untouched m ws number place o)) g)

    after_reduce : (o : Outcome ℕ) → check_outcome m ws max_miter_gates ≡ o → Standing n start (after (ReduceOn m) ws)
    unfolding after reduce_outcome
    after_reduce (served k) e =
        let c : Cascade m ws max_miter_gates k = check_served m ws max_miter_gates k e in
        let r : Reduced (List Gate) = reduce_gates (gates_of ws) in
        let s : Stands n ws (reduce_buffer n ws) r.left = reduce_laws.call_stands n ws g.count g.cascade in
        let reduces : Reduces (gates_of ws) r.left r.pairs r.merges = (reduce_laws.reduce_reduces (gates_of ws) all_lines r).0 refl in
        let keeps : Keeps n (gates_of ws) r.left = reduce_laws.reduce_keeps n (gates_of ws) r.left r.pairs r.merges g.cascade.lines_high g.cascade.gates reduces in
        let b : reduce_buffer n ws ≡ reduce_buffer m ws = (reduce_laws.call_lines n m ws g.count k g.cascade c).1 in
        subst (λ (o : Outcome (Reduced ℕ)). Standing n start (reduce_leaves o (reduce_buffer m ws))) (sym (reduce_laws.call_served m ws k c))
        (subst (λ (l : List ℕ). Standing n start (take (3 * length r.left) l)) b (kept (reduce_buffer n ws) r.left s keeps (omega (arith, reduce_laws.reduce_count (gates_of ws) r.left r.pairs r.merges reduces))))
    after_reduce (refused number place) e =
        let o : reduce_outcome m ws ≡ refused number place = then_refused _ _ number place e in
        subst (λ (o : Outcome (Reduced ℕ)). Standing n start (reduce_leaves o (reduce_buffer m ws))) (sym o)
        (subst (Standing n start) (sym (reduce_laws.call_untouched m ws number place o)) g)

after_call : (n : ℕ) (start : List Gate) (ws : List ℕ) → Standing n start ws → (c : Call) → Standing n start (after c ws)
after_call n start ws g (StepOn m) = after_step n start ws g m (check_outcome m ws max_miter_gates) refl
after_call n start ws g (ReduceOn m) = after_reduce n start ws g m (check_outcome m ws max_miter_gates) refl

pub after_calls : (n : ℕ) (start : List Gate) (calls : List Call) (ws : List ℕ) → Standing n start ws → Standing n start (after_all calls ws)
unfolding after_all
after_calls n start [] ws g = g
after_calls n start (c ∷ calls) ws g = after_calls n start calls (after c ws) (after_call n start ws g c)

-- ---- the emission

-- of words of a cascade, and a buffer that is long enough
abbrev pub ListedBy : (ℕ → List ℕ → ℕ → Outcome Totals) → (ℕ → List ℕ → List ℤ → List ℤ) → Type 0
ListedBy emits leaves =
    (n : ℕ) (ws : List ℕ) (k : ℕ) (out : List ℤ) → Cascade n ws max_miter_gates k → length (stored (clauses_of n (gates_of ws))) ≤ length out
    → Listed (variables_of n (gates_of ws)) (clauses_of n (gates_of ws)) out (emits n ws (length out)) (leaves n ws out)

listed : ListedBy emit_outcome emit_buffer
unfolding emit_outcome emit_buffer sizes_outcome
listed n ws k out c room =
    let gs = gates_of ws in
    let sums = clause_laws.sizes_list n gs c.lines_high c.gates in
    let w : (sizes_of n gs).words ≡ length (stored (clauses_of n gs)) = ap (λ (t : Totals). t.words) sums in
    let e : emit_outcome n ws (length out) ≡ served (sizes_of n gs) =
    then_served _ _ (sizes_of n gs) (then_served _ _ k (served_check n ws max_miter_gates k c)) ∙ demand_met _ _ _ _ (le-leb (sizes_of n gs).words (length out) (omega arith)) in
    record {
      counts = e ∙ ap served sums;
      words = ap (λ (o : Outcome Totals). written o (stored (clauses_of n gs)) out) e;
    }

module _ (n : ℕ) (a b ws : List ℕ) (out : List ℤ) (g : Standing n (miter_gates (gates_of a) (gates_of b)) ws) where
  abbrev gs : List Gate
  gs = gates_of ws

  abbrev cs : List Clause
  cs = clauses_of n gs

  same_states : (x : ℕ) → (run gs x ≡ run [] x) ↔ (run (gates_of a) x ≡ run (gates_of b) x)
  same_states x =
      let m = miter_laws.identity (gates_of a) (gates_of b) x in
      ((λ e. m.0 (sym (g.same x) ∙ e ∙ run_none x)), (λ e. g.same x ∙ m.1 e ∙ sym (run_none x)))

  emitted : (answer : Outcome Totals) (buffer : List ℤ) → Listed (variables_of n gs) cs out answer buffer → Emitted n a b answer buffer
  emitted answer buffer l =
      record {
        totals = totals (variables_of n gs) (length cs) (length (stored cs));
        is_served = l.counts;
        told =
            record {
              clauses = cs;
              are_read = are_read (variables_of n gs) cs out answer buffer l;
              counted = refl;
              tells =
                  tells_same n (variables_of n gs) cs gs [] (gates_of a) (gates_of b) same_states
                  (clause_laws.list_tells n gs g.cascade.lines_high g.cascade.gates);
            };
      }

-- ---- the whole claim

pub claimed : (emits : ℕ → List ℕ → ℕ → Outcome Totals) (leaves : ℕ → List ℕ → List ℤ → List ℤ) → ListedBy emits leaves → EqualityOf emits leaves
claimed emits leaves by n a b i j c d room fits calls out =
    let k : ℕ = i + j in
    let s : miter_outcome n a n b (length room) ≡ served k =
    (miter_laws.miter_served n a n b (length room) k).1 (record { first = i; second = j; first_good = c; second_good = d; lines = refl; fits = fits; count = refl }) in
    let m = miter_laws.miter_stands n a n b room k s in
    let first : Standing n (miter_gates (gates_of a) (gates_of b)) (take (3 * k) (miter_buffer n a n b room)) =
    record {
      count = k;
      cascade = m.cascade;
      fewer = omega (arith, ap length m.gates, gates_length (take (3 * k) (miter_buffer n a n b room)), m.cascade.size);
      same = λ x. ap (λ (l : List Gate). run l x) m.gates;
    } in
    let start : take (3 * k) (miter_buffer n a n b room) ≡ miter_leaves (miter_outcome n a n b (length room)) (miter_buffer n a n b room) =
    sym (ap (λ (o : Outcome ℕ). miter_leaves o (miter_buffer n a n b room)) s) in
    let ws : List ℕ = left_after n a b room calls in
    let last : Standing n (miter_gates (gates_of a) (gates_of b)) ws =
    after_calls n (miter_gates (gates_of a) (gates_of b)) calls _ (subst (Standing n (miter_gates (gates_of a) (gates_of b))) start first) in
    record {
      gates = k;
      miter_served = s;
      emission = λ h. emitted n a b ws out last (emits n ws (length out)) (leaves n ws out) (by n ws last.count out last.cascade h);
    }

pub equality : Equality
equality = claimed emit_outcome emit_buffer listed

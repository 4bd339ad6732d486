-- The clause list of two cascades with the same header tells on which permitted states a line that counts comes out differently. Assumes nothing.
use Rattle.std.proofs.Common.{◌≡◌, ℕ, ◌+◌, ◌≤◌, Bool, true, ◌&&◌, List, [], ◌++◌, length, sym, ap, ◌∙◌, subst, subst₂, arith, length-append}
use mathlib.Core.Bool.{xor}
use lib.ListN.{length-map}
use Rattle.bits.specs.Digits.{bit}
use Rattle.bits.proofs.Bools.{and_parts, both, either, or_none, cond-true, cond-false}
use Rattle.circuit.specs.declared.gate.Gate.{Gate}
use Rattle.circuit.specs.declared.header.Header.{Header}
use Rattle.circuit.specs.Gate.{max_lines}
use Rattle.circuit.specs.Header.{unmarked, marks_good, marked, LineCounts}
use Rattle.circuit.specs.Words.{all_valid}
use Rattle.circuit.specs.Run.{run, DiffersFor}
use Rattle.circuit.proofs.Promises.{valid_append, inverse_valid, run_none, equal_differs_for, unmarked_header, unmarked_equal, unmarked_differs}
use Rattle.checking.specs.Miter.{miter_gates}
use Rattle.checking.specs.Clauses.{Clause, input_of, used_after, current_after, clauses_of, variables_of}
use Rattle.checking.specs.Satisfaction.{satisfies, spelled, Tells}
use Rattle.checking.specs.Forced.{gates_values, differences}
use Rattle.checking.specs.Pair.{constant_clauses, counted_lines, either_targets, used_after_both, side_by_side, pair_clauses, pair_variables}
use Rattle.checking.specs.PairTold.{TellsFor}
use Rattle.checking.proofs.lemmas.miter.Laws.{agree_identity, identity_agree}
use Rattle.checking.proofs.lemmas.clauses.Tests.{satisfies_append}
use Rattle.checking.proofs.lemmas.clauses.Gates.{agree, after_reads, untouched}
use Rattle.checking.proofs.lemmas.clauses.Forced.{reads_inputs, lines_law, gates_then, some_of, some_line, none_lines, length_gates, Forces}
use Rattle.checking.proofs.lemmas.clauses.Meaning.{only_one, no_other, unsatisfied, list_tells, tells_same}
use Rattle.checking.proofs.lemmas.pair.Lines.{all_counted, counted_all, permitted_law}
use Rattle.checking.proofs.lemmas.pair_emission.Fits.{side_within, counted_below}

-- ---- side by side

module _ (h : Header) (a b : List Gate) (good : marks_good h ≡ true) (few : h.lines ≤ max_lines) (va : all_valid h.lines a ≡ true) (vb : all_valid h.lines b ≡ true) where
  -- the current variables of A, and of B
  abbrev left : ℕ → ℕ
  left = current_after h.lines input_of a

  abbrev right : ℕ → ℕ
  right = current_after (used_after h.lines a) input_of b

  abbrev changes : ℕ → List Bool
  changes x = differences (run a x) (run b x) (counted_lines h)

  abbrev values : ℕ → List Bool
  values x = gates_values x a ++ (gates_values x b ++ changes x)

  abbrev total : ℕ
  total = used_after_both h a b + length (counted_lines h)

  side_law : (σ : List Bool)
      → satisfies σ (side_by_side h a b)
      ≡ (satisfies σ (constant_clauses h) && (agree σ h.lines (values (spelled h.lines σ)) && some_of (changes (spelled h.lines σ))))
  unfolding side_by_side
  side_law σ =
      let n = h.lines in
      let x = spelled n σ in
      let inputs = reads_inputs n σ in
      satisfies_append σ (constant_clauses h) _
      ∙ ap (λ (t : Bool). satisfies σ (constant_clauses h) && t)
      (gates_then n σ n input_of x a _ (gates_values x b ++ changes x) (some_of (changes x)) few va inputs
      (λ p.
      gates_then n σ (used_after n a) input_of x b _ (changes x) (some_of (changes x)) few vb inputs
      (λ q.
      lines_law n σ (either_targets a b) left right (run a x) (run b x) (after_reads n σ n input_of x a few va inputs p) (after_reads n σ (used_after n a) input_of x b few vb inputs q)
      (λ k l e. let (s, t) = or_none _ _ e in untouched n b x k few vb t ∙ sym (untouched n a x k few va s))
      (used_after_both h a b) (counted_lines h) (counted_below h))))

  side_forces : Forces h.lines total (side_by_side h a b) values (DiffersFor h a b)
  side_forces =
      record {
        count = λ x.
            omega (
              arith,
              length-append (gates_values x a) (gates_values x b ++ changes x),
              length-append (gates_values x b) (changes x),
              length_gates h.lines x a,
              length_gates (used_after h.lines a) x b,
              length-map (counted_lines h) (λ (line : ℕ). xor (bit (run a x) line) (bit (run b x) line)),
            );
        law = λ σ.
            let x = spelled h.lines σ in
            let permitted = permitted_law h σ good in (
              (λ e.
                  let (c, f) = and_parts (satisfies σ (constant_clauses h)) _ (sym (side_law σ) ∙ e) in
                  let (p, q) = and_parts (agree σ h.lines (values x)) (some_of (changes x)) f in
                  let (k, counts, differ) = some_line (LineCounts h) (run a x) (run b x) (counted_lines h) (all_counted (LineCounts h) h (λ k c. c)) q in
                  (p, record { permitted = permitted.0 c; line = k; counts = counts; outputs = differ })),
              (λ (p, d).
                  side_law σ ∙ both (permitted.1 d.permitted) (both p
                  (either (some_of (changes x)) (λ t. t)
                  (λ t.
                  absurd (d.outputs (counted_all (λ (k : ℕ). bit (run a x) k ≡ bit (run b x) k) h (none_lines (run a x) (run b x) (counted_lines h) t) d.line d.counts)))))),
            );
      }

  pub side_tells : TellsFor h total (side_by_side h a b) a b
  side_tells =
      let u = unsatisfied h.lines _ _ _ (DiffersFor h a b) side_forces in
      let e = equal_differs_for h a b in
      record {
        equal = ((λ same. u.0 (λ x l d. e.0 same x d)), (λ unsat. e.1 (λ x d. u.1 unsat x d.permitted.state d)));
        differing = λ x d. only_one h.lines _ _ _ (DiffersFor h a b) side_forces x d.permitted.state d;
        no_other = no_other h.lines _ _ _ (DiffersFor h a b) side_forces;
        within = side_within h a b few va vb;
      }

-- ---- without marks

-- clauses tell of two cascades with a header without marks what they tell by document 01
module _ (n variables : ℕ) (cs : List Clause) (a b : List Gate) (va : all_valid n a ≡ true) (vb : all_valid n b ≡ true) where
  pub tells_unmarked : Tells n variables cs a b → TellsFor (unmarked n) variables cs a b
  tells_unmarked t =
      let e = unmarked_equal n a b va vb in
      record {
        equal = ((λ same. t.equal.0 (e.0 same)), (λ unsat. e.1 (t.equal.1 unsat)));
        differing = λ x d. t.differing x ((unmarked_differs n a b va vb x).0 d);
        no_other = λ σ sat. (unmarked_differs n a b va vb (spelled n σ)).1 (t.no_other σ sat);
        within = t.within;
      }

  pub unmarked_tells : TellsFor (unmarked n) variables cs a b → Tells n variables cs a b
  unmarked_tells t =
      let e = unmarked_equal n a b va vb in
      record {
        equal = ((λ same. t.equal.0 (e.1 same)), (λ unsat. e.0 (t.equal.1 unsat)));
        differing = λ x d. t.differing x ((unmarked_differs n a b va vb x).1 d);
        no_other = λ σ sat. (unmarked_differs n a b va vb (spelled n σ)).0 (t.no_other σ sat);
        within = t.within;
      }

-- the list of the miter tells on which states the two differ
pub miter_tells : (n : ℕ) (a b : List Gate) → n ≤ max_lines → all_valid n a ≡ true → all_valid n b ≡ true
    → Tells n (variables_of n (miter_gates a b)) (clauses_of n (miter_gates a b)) a b
miter_tells n a b few va vb =
    tells_same n _ _ (miter_gates a b) [] a b
    (λ x. ((λ e. identity_agree a b x (e ∙ run_none x)), (λ e. agree_identity a b x e ∙ sym (run_none x))))
    (list_tells n (miter_gates a b) few (valid_append n a _ va (inverse_valid n b vb)))

-- ---- any pair

pub pair_tells : (h : Header) (a b : List Gate) → marks_good h ≡ true → h.lines ≤ max_lines → all_valid h.lines a ≡ true → all_valid h.lines b ≡ true
    → TellsFor h (pair_variables h a b) (pair_clauses h a b) a b
unfolding pair_variables pair_clauses
pair_tells h a b good few va vb =
    either (marked h)
    (λ t.
    subst₂ (λ (v : ℕ) (cs : List Clause). TellsFor h v cs a b) (sym (cond-true (marked h) _ _ t)) (sym (cond-true (marked h) _ _ t))
    (side_tells h a b good few va vb))
    (λ t.
    subst₂ (λ (v : ℕ) (cs : List Clause). TellsFor h v cs a b) (sym (cond-false (marked h) _ _ t)) (sym (cond-false (marked h) _ _ t))
    (subst (λ (k : Header). TellsFor k (variables_of h.lines (miter_gates a b)) (clauses_of h.lines (miter_gates a b)) a b) (sym (unmarked_header h good t))
    (tells_unmarked h.lines _ _ a b va vb (miter_tells h.lines a b few va vb))))

-- Demand 3 of an emitter of any clause list; so the stand-ins have it not. Assumes nothing.
use Rattle.std.proofs.Common.{◌≡◌, ℕ, ◌+◌, ◌-◌, ◌<◌, ◌≤◌, Bool, true, false, List, [], ◌∷◌, ◌++◌, length, replicate, ℤ, pos, sym, refl, ap, ◌∙◌, subst, subst₂, arith, length-append}
use mathlib.Core.Bool.{false≢true}
use lib.ListN.{length-replicate}
use Rattle.circuit.specs.declared.gate.Gate.{Gate}
use Rattle.circuit.specs.Gate.{max_lines, max_gates, max_miter_gates, valid, apply}
use Rattle.circuit.specs.Outcome.{Outcome}
use Rattle.circuit.specs.Words.{gates_of, words_of, all_valid, Cascade}
use Rattle.circuit.proofs.Promises.{gates_words, words_cascade, valid_none, valid_both, run_none}
use Rattle.checking.specs.Clauses.{Clause, clauses_of, variables_of}
use Rattle.checking.specs.Stored.{stored}
use Rattle.checking.specs.Satisfaction.{satisfies, Tells}
use Rattle.checking.specs.Miter.{miter_gates, miter_buffer}
use Rattle.checking.specs.Equality.{after_all, miter_leaves, left_after}
use Rattle.checking.specs.EqualityLaws.{list_outcome, list_buffer, EqualityOfList, without_later, of_first, of_first_variables, EqualityLaws}
use Rattle.checking.proofs.lemmas.miter.Laws.{miter_laws}
use Rattle.checking.proofs.lemmas.clauses.Laws.{clause_laws}
use Rattle.checking.proofs.lemmas.clauses.Meaning.{told_alike}
use Rattle.checking.proofs.lemmas.clauses.StandIns.{free, controlled, free_one, free_two, controlled_two, free_differs, controlled_keeps, nots_valid, half, first, second, start, miter_split, start_length, start_taken, start_valid, last_runs, unlike, variables_same, without_same}
use Rattle.checking.proofs.lemmas.Listed.{only_read, list_listed}
use Rattle.checking.proofs.lemmas.Equality.{equality, claimed}

our_list : EqualityOfList variables_of clauses_of
our_list =
    claimed (list_outcome variables_of clauses_of) (list_buffer variables_of clauses_of)
    (λ n ws k out c room. list_listed (variables_of n (gates_of ws)) (clauses_of n (gates_of ws)) out room)

-- what demand 3 says of the list of a miter
module _ (variables : ℕ → List Gate → ℕ) (clauses : ℕ → List Gate → List Clause) (holds : EqualityOfList variables clauses) where
  module _ (n : ℕ) (a b : List ℕ) (i j : ℕ) (c : Cascade n a max_gates i) (d : Cascade n b max_gates j) where
    abbrev gs : List Gate
    gs = miter_gates (gates_of a) (gates_of b)

    abbrev cs : List Clause
    cs = clauses n gs

    abbrev out : List ℤ
    out = replicate (length (stored (clauses_of n gs)) + length (stored cs)) (pos 0)

    list_told : Tells n (variables n gs) cs (gates_of a) (gates_of b)
    unfolding after_all
    list_told =
        let claim = holds n a b i j c d (a ++ b) (omega (arith, length-append a b)) [] out in
        let ws : List ℕ = left_after n a b (a ++ b) [] in
        let same : gates_of ws ≡ gs =
        ap (λ (o : Outcome ℕ). gates_of (miter_leaves o (miter_buffer n a n b (a ++ b)))) claim.miter_served
        ∙ (miter_laws.miter_stands n a n b (a ++ b) claim.gates claim.miter_served).gates in
        let long : length out ≡ length (stored (clauses_of n gs)) + length (stored cs) = length-replicate _ _ in
        let e = claim.emission (omega (arith, ap (λ (l : List Gate). length (stored (clauses_of n l))) same)) in
        let room : length (stored (clauses n (gates_of ws))) ≤ length out = omega (arith, ap (λ (l : List Gate). length (stored (clauses n l))) same) in
        let (v, l) =
        only_read (variables n (gates_of ws)) (clauses n (gates_of ws)) out _ _ (list_listed (variables n (gates_of ws)) (clauses n (gates_of ws)) out room)
        e.totals e.told.clauses e.is_served e.told.are_read in
        subst₂ (λ (m : ℕ) (l : List Clause). Tells n m l (gates_of a) (gates_of b)) (v ∙ ap (variables n) same) (l ∙ ap (clauses n) same) e.told.tells

  -- the same by gates
  gates_told : (n : ℕ) (a b : List Gate) → 1 ≤ n → n ≤ max_lines → length a ≤ max_gates → length b ≤ max_gates → all_valid n a ≡ true → all_valid n b ≡ true
      → Tells n (variables n (miter_gates a b)) (clauses n (miter_gates a b)) a b
  gates_told n a b low high k l v w =
      subst₂ (λ (x y : List Gate). Tells n (variables n (miter_gates x y)) (clauses n (miter_gates x y)) x y) (gates_words a) (gates_words b)
      (list_told n (words_of a) (words_of b) (length a) (length b) (words_cascade n a max_gates low high k v) (words_cascade n b max_gates low high l w))

-- ---- the stand-ins

-- NOT against nothing
contradiction_refuted : (variables : ℕ → List Gate → ℕ) (cs : List Clause) → ((σ : List Bool) → satisfies σ cs ≡ false) → EqualityOfList variables (λ n gs. cs) → ⊥
contradiction_refuted variables cs never h =
    let one : all_valid 1 (free ∷ []) ≡ true = valid_both 1 free [] free_one (valid_none 1) in
    let t = gates_told variables (λ n gs. cs) h 1 (free ∷ []) [] (omega arith) (omega arith) (omega arith) (omega arith) one (valid_none 1) in
    free_differs (t.equal.1 (λ σ sat. false≢true (sym (never σ) ∙ sat.satisfied)) 0 (omega arith))

-- on n lines, a miter that starts with m NOTs
module _ (variables : ℕ → List Gate → ℕ) (clauses : ℕ → List Gate → List Clause) (holds : EqualityOfList variables clauses)
    (m n : ℕ) (few : m < max_miter_gates) (low : 1 ≤ n) (high : n ≤ max_lines) (v : valid n free ≡ true) where
  nots_told : (g : Gate) → valid n g ≡ true → Tells n (variables n (miter_gates (first m) (second m g))) (clauses n (miter_gates (first m) (second m g))) (first m) (second m g)
  nots_told g w =
      gates_told variables clauses holds n (first m) (second m g) low high
      (omega (arith, length-replicate (half m) free)) (omega (arith, length-replicate (m - half m) free))
      (nots_valid n v (half m)) (valid_both n g _ w (nots_valid n v (m - half m)))

-- NOT is the last gate, or a controlled one: the list is the same
without_later_refuted : (m : ℕ) → m < max_miter_gates → EqualityOfList variables_of (without_later m) → ⊥
without_later_refuted m few h =
    let a : List Gate = first m in
    let b : List Gate = second m free in
    let d : List Gate = second m controlled in
    let t = nots_told variables_of (without_later m) h m 2 few (omega arith) (omega arith) free_two free free_two in
    let u = nots_told variables_of (without_later m) h m 2 few (omega arith) (omega arith) free_two controlled controlled_two in
    let s : Tells 2 (variables_of 2 (miter_gates a b)) (without_later m 2 (miter_gates a b)) a d =
    subst₂ (λ (k : ℕ) (cs : List Clause). Tells 2 k cs a d)
    (sym (ap (variables_of 2) (miter_split m free) ∙ variables_same 2 (start m) ∙ sym (ap (variables_of 2) (miter_split m controlled))))
    (sym (ap (without_later m 2) (miter_split m free) ∙ without_same m 2 (start m) (start_length m) ∙ sym (ap (without_later m 2) (miter_split m controlled)))) u in
    unlike m (apply controlled) controlled_keeps.0 controlled_keeps.1 (
      (λ e. sym (last_runs m controlled) ∙ (miter_laws.identity a d 0).1 (told_alike 2 _ _ a b a d t s 0 (omega arith) ((miter_laws.identity a b 0).0 (last_runs m free ∙ e)))),
      (λ e. sym (last_runs m free) ∙ (miter_laws.identity a b 0).1 (told_alike 2 _ _ a d a b s t 0 (omega arith) ((miter_laws.identity a d 0).0 (last_runs m controlled ∙ e)))),
    )

-- the list of the m NOTs tells of these
of_first_refuted : (m : ℕ) → m < max_miter_gates → EqualityOfList (of_first_variables m) (of_first m) → ⊥
unfolding of_first of_first_variables
of_first_refuted m few h =
    let a : List Gate = first m in
    let b : List Gate = second m free in
    let t : Tells 1 (variables_of 1 (start m)) (clauses_of 1 (start m)) a b =
    subst (λ (l : List Gate). Tells 1 (variables_of 1 l) (clauses_of 1 l) a b) (start_taken m free)
    (nots_told (of_first_variables m) (of_first m) h m 1 few (omega arith) (omega arith) free_one free free_one) in
    let s : Tells 1 (variables_of 1 (start m)) (clauses_of 1 (start m)) (start m) [] = clause_laws.list_tells 1 (start m) (omega arith) (start_valid m) in
    unlike m (λ x. x) refl refl (
      (λ e. told_alike 1 _ _ a b (start m) [] t s 0 (omega arith) ((miter_laws.identity a b 0).0 (last_runs m free ∙ e)) ∙ run_none 0),
      (λ e. sym (last_runs m free) ∙ (miter_laws.identity a b 0).1 (told_alike 1 _ _ (start m) [] a b s t 0 (omega arith) (e ∙ sym (run_none 0)))),
    )

pub equality_laws : EqualityLaws
equality_laws =
    record {
      ours = equality;
      our_list = our_list;
      list_told = list_told;
      contradiction_refuted = contradiction_refuted;
      without_later_refuted = without_later_refuted;
      of_first_refuted = of_first_refuted;
    }

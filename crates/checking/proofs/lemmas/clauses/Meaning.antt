-- The clause list of a cascade tells on which states its run is not the identity. Assumes nothing.
use Rattle.std.proofs.Common.{◌≡◌, ℕ, ◌^◌, ◌<◌, ◌≤◌, Bool, true, eqb, ◌↔◌, List, [], sym, ap, ◌∙◌, subst, eqb-true}
use borrow.Author.Tests.{eqb-false}
use Rattle.bits.proofs.Bools.{either}
use Rattle.circuit.specs.declared.gate.Gate.{Gate}
use Rattle.circuit.specs.Gate.{max_lines}
use Rattle.circuit.specs.Words.{all_valid}
use Rattle.circuit.specs.Run.{run}
use Rattle.circuit.proofs.Promises.{run_none}
use Rattle.checking.specs.Clauses.{Clause, clauses_of, variables_of}
use Rattle.checking.specs.Satisfaction.{Satisfying, spelled, Tells}
use Rattle.checking.proofs.lemmas.clauses.Forced.{spelled_below, spelled_digits, assigned, Forces, assigned_length, is_assigned, list_forces}
use Rattle.checking.proofs.lemmas.clauses.Within.{clauses_within}

-- a list that forces its assignment
module _ (n variables : ℕ) (cs : List Clause) (values : ℕ → List Bool) (D : ℕ → Type 0) (forces : Forces n variables cs values D) where
  abbrev of : ℕ → List Bool
  of x = assigned n x (values x)

  satisfying : (x : ℕ) → x < 2 ^ n → D x → Satisfying variables cs (of x)
  satisfying x h d =
      let e : x ≡ spelled n (of x) = sym (spelled_digits n x (values x) h) in
      record {
        whole = assigned_length n variables cs values D forces x;
        satisfied = (is_assigned n variables cs values D forces (of x) (assigned_length n variables cs values D forces x)).1 (ap of e, subst D e d);
      }

  module _ (σ : List Bool) (sat : Satisfying variables cs σ) where
    is_of : (σ ≡ of (spelled n σ)) × D (spelled n σ)
    is_of = (is_assigned n variables cs values D forces σ sat.whole).0 sat.satisfied

    pub no_other : D (spelled n σ)
    no_other = is_of.1

  -- exactly one satisfying assignment spells a state of D
  pub only_one : (x : ℕ) → x < 2 ^ n → D x
      → (σ : List Bool) × Satisfying variables cs σ × (spelled n σ ≡ x) × ((τ : List Bool) → Satisfying variables cs τ → spelled n τ ≡ x → τ ≡ σ)
  only_one x h d = (of x, satisfying x h d, spelled_digits n x (values x) h, (λ τ sat e. (is_of τ sat).0 ∙ ap of e))

  -- none satisfies the clauses exactly when D holds of no state
  pub unsatisfied : ((x : ℕ) → x < 2 ^ n → D x → ⊥) ↔ ((σ : List Bool) → Satisfying variables cs σ → ⊥)
  unsatisfied = (
    (λ none σ sat. none (spelled n σ) (spelled_below n σ) (no_other σ sat)),
    (λ unsat x h d. unsat (of x) (satisfying x h d)),
  )

module _ (n : ℕ) (gs : List Gate) (few : n ≤ max_lines) (v : all_valid n gs ≡ true) where
  abbrev D : ℕ → Type 0
  D x = run gs x ≡ x → ⊥

  pub list_tells : Tells n (variables_of n gs) (clauses_of n gs) gs []
  list_tells =
      let f = list_forces n gs few v in
      let u = unsatisfied n _ _ _ D f in
      record {
        equal = (
          (λ same. u.0 (λ x h d. d (same x h ∙ run_none x))),
          (λ unsat x h. either (eqb (run gs x) x) (λ t. eqb-true _ _ t ∙ sym (run_none x)) (λ t. absurd (u.1 unsat x h (eqb-false _ _ t)))),
        );
        differing = λ x d. only_one n _ _ _ D f x d.state (λ e. d.outputs (e ∙ sym (run_none x)));
        no_other = λ σ sat. record { state = spelled_below n σ; outputs = λ e. no_other n _ _ _ D f σ sat (e ∙ run_none (spelled n σ)) };
        within = clauses_within n gs few v;
      }

-- clauses that tell where a and b differ tell where c and d do, if these agree on the same states
pub tells_same : (n variables : ℕ) (cs : List Clause) (a b c d : List Gate) → ((x : ℕ) → (run a x ≡ run b x) ↔ (run c x ≡ run d x))
    → Tells n variables cs a b → Tells n variables cs c d
tells_same n variables cs a b c d agree t =
    record {
      equal = ((λ same. t.equal.0 (λ x h. (agree x).1 (same x h))), (λ unsat x h. (agree x).0 (t.equal.1 unsat x h)));
      differing = λ x e. t.differing x (record { state = e.state; outputs = λ q. e.outputs ((agree x).0 q) });
      no_other = λ σ sat. let e = t.no_other σ sat in record { state = e.state; outputs = λ q. e.outputs ((agree (spelled n σ)).1 q) };
      within = t.within;
    }

-- two pairs of cascades that one list tells agree on the same states
pub told_alike : (n variables : ℕ) (cs : List Clause) (a b c d : List Gate) → Tells n variables cs a b → Tells n variables cs c d
    → (x : ℕ) → x < 2 ^ n → run a x ≡ run b x → run c x ≡ run d x
told_alike n variables cs a b c d s t x h e =
    either (eqb (run c x) (run d x)) (λ q. eqb-true _ _ q)
    (λ q.
    let (σ, sat, spells, only) = t.differing x (record { state = h; outputs = eqb-false _ _ q }) in
    absurd ((s.no_other σ sat).outputs (ap (run a) spells ∙ e ∙ sym (ap (run b) spells))))

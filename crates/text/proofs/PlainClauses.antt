-- The plain clauses of a list are satisfied exactly when the list is. Assumes nothing.
use mathlib.Core.Path.{◌≡◌, refl, sym, ap, ap₂, ◌∙◌}
use mathlib.Core.Logic.{◌↔◌}
use mathlib.Core.Bool.{Bool, true, false, not, ◌&&◌, ◌||◌, xor, and-true, or-true, or-and_distrib_left}
use mathlib.Core.List.{List, [], ◌∷◌, ◌++◌, map, map-append}
use Prim.Native.Nat.{ℕ}
use lib.IntN.{ℤ, neg_ℤ}
use Rattle.bits.specs.Lists.{All}
use Rattle.bits.proofs.Bools.{none_xor, table₃}
use Rattle.bits.proofs.Lists.{all_append, all_map}
use Rattle.circuit.specs.declared.gate.Gate.{Gate}
use Rattle.circuit.specs.declared.header.Header.{Header}
use Rattle.checking.specs.Clauses.{Clause, OR, XOR}
use Rattle.checking.specs.Satisfaction.{value, holds, satisfies, LiteralsWithin, clause_literals, ClausesWithin, Satisfying}
use Rattle.checking.specs.PairTold.{TellsFor}
use Rattle.checking.proofs.Promises.{odd_true, holds_or, holds_xor, value_neg, satisfies_append, neg_within, satisfies_none, satisfies_next}
use Rattle.text.specs.Plain.{negations, plain_clause, plain_clauses, IsOr, AllOr}

-- ---- satisfaction

-- each of the OR clauses of these literals holds
abbrev all_hold : List Bool → List (List ℤ) → Bool
all_hold σ kss = satisfies σ (map OR kss)

-- a literal put before each of them
joined : (σ : List Bool) (l : ℤ) (kss : List (List ℤ)) → all_hold σ (map (λ (k : List ℤ). l ∷ k) kss) ≡ (value σ l || all_hold σ kss)
joined σ l [] = satisfies_none σ ∙ sym (or-true (value σ l)) ∙ ap (λ (b : Bool). value σ l || b) (sym (satisfies_none σ))
joined σ l (k ∷ kss) =
    satisfies_next σ (OR (l ∷ k)) (map OR (map (λ (k : List ℤ). l ∷ k) kss))
    ∙ ap₂ ◌&&◌ (holds_or σ (l ∷ k) ∙ ap (λ (b : Bool). value σ l || b) (sym (holds_or σ k))) (joined σ l kss)
    ∙ sym (or-and_distrib_left (value σ l) (holds σ (OR k)) (all_hold σ kss))
    ∙ ap (λ (b : Bool). value σ l || b) (sym (satisfies_next σ (OR k) (map OR kss)))

-- by the value of the first literal and by what holds of the others
step : (v t odd : Bool) → ((v || xor odd t) && (not v || xor (not odd) t)) ≡ xor odd (xor v t)
unfolding xor
step = table₃ _ _ refl

negated_hold : (σ : List Bool) (m : ℕ) (odd : Bool) (ls : List ℤ) → LiteralsWithin m ls → all_hold σ (negations odd ls) ≡ xor odd (odd_true σ ls)
unfolding negations xor
negated_hold σ m true [] w = satisfies_none σ
negated_hold σ m false [] w = satisfies_next σ (OR []) [] ∙ ap (λ (b : Bool). b && satisfies σ []) (holds_or σ [])
negated_hold σ m odd (l ∷ ls) w =
    let p : List (List ℤ) = negations odd ls in
    let q : List (List ℤ) = negations (not odd) ls in
    ap (satisfies σ) (map-append OR (map (λ (k : List ℤ). l ∷ k) p) (map (λ (k : List ℤ). neg_ℤ l ∷ k) q))
    ∙ satisfies_append σ (map OR (map (λ (k : List ℤ). l ∷ k) p)) (map OR (map (λ (k : List ℤ). neg_ℤ l ∷ k) q))
    ∙ ap₂ ◌&&◌
    (joined σ l p ∙ ap (λ (b : Bool). value σ l || b) (negated_hold σ m odd ls w.1))
    (joined σ (neg_ℤ l) q ∙ ap₂ ◌||◌ (value_neg σ l w.0.0) (negated_hold σ m (not odd) ls w.1))
    ∙ step (value σ l) (odd_true σ ls) odd

clause_plain : (σ : List Bool) (m : ℕ) (c : Clause) → LiteralsWithin m (clause_literals c) → satisfies σ (plain_clause c) ≡ holds σ c
clause_plain σ m (OR ls) w = satisfies_next σ (OR ls) [] ∙ ap (λ (b : Bool). holds σ (OR ls) && b) (satisfies_none σ) ∙ and-true (holds σ (OR ls))
clause_plain σ m (XOR ls) w = negated_hold σ m false ls w ∙ none_xor (odd_true σ ls) ∙ sym (holds_xor σ ls)

-- an assignment satisfies the plain clauses exactly when it satisfies the list
pub plain_satisfied : (σ : List Bool) (m : ℕ) (cs : List Clause) → ClausesWithin m cs → satisfies σ (plain_clauses cs) ≡ satisfies σ cs
unfolding plain_clauses
plain_satisfied σ m [] w = refl
plain_satisfied σ m (c ∷ cs) w =
    satisfies_append σ (plain_clause c) (plain_clauses cs)
    ∙ ap₂ ◌&&◌ (clause_plain σ m c w.0) (plain_satisfied σ m cs w.1)
    ∙ sym (satisfies_next σ c cs)

-- ---- the literals are those of the list

negated_within : (m : ℕ) (odd : Bool) (ls : List ℤ) → LiteralsWithin m ls → All (LiteralsWithin m) (negations odd ls)
unfolding negations
negated_within m true [] w = tt
negated_within m false [] w = (tt, tt)
negated_within m odd (l ∷ ls) w =
    all_append (LiteralsWithin m) (map (λ (k : List ℤ). l ∷ k) (negations odd ls)) (map (λ (k : List ℤ). neg_ℤ l ∷ k) (negations (not odd) ls))
    (all_map (LiteralsWithin m) (LiteralsWithin m) (λ (k : List ℤ). l ∷ k) (λ k v. (w.0, v)) (negations odd ls) (negated_within m odd ls w.1))
    (all_map (LiteralsWithin m) (LiteralsWithin m) (λ (k : List ℤ). neg_ℤ l ∷ k) (λ k v. (neg_within m l w.0, v)) (negations (not odd) ls) (negated_within m (not odd) ls w.1))

clause_within : (m : ℕ) (c : Clause) → LiteralsWithin m (clause_literals c) → ClausesWithin m (plain_clause c)
clause_within m (OR ls) w = (w, tt)
clause_within m (XOR ls) w = all_map (LiteralsWithin m) _ OR (λ k v. v) (negations false ls) (negated_within m false ls w)

pub plain_within : (m : ℕ) (cs : List Clause) → ClausesWithin m cs → ClausesWithin m (plain_clauses cs)
unfolding plain_clauses
plain_within m [] w = tt
plain_within m (c ∷ cs) w = all_append _ (plain_clause c) (plain_clauses cs) (clause_within m c w.0) (plain_within m cs w.1)

-- ---- every clause is an OR

or_map : (kss : List (List ℤ)) → AllOr (map OR kss)
or_map [] = tt
or_map (k ∷ kss) = (tt, or_map kss)

clause_or : (c : Clause) → AllOr (plain_clause c)
clause_or (OR ls) = (tt, tt)
clause_or (XOR ls) = or_map (negations false ls)

pub plain_or : (cs : List Clause) → AllOr (plain_clauses cs)
unfolding plain_clauses
plain_or [] = tt
plain_or (c ∷ cs) = all_append IsOr (plain_clause c) (plain_clauses cs) (clause_or c) (plain_or cs)

-- ---- so they tell the same

module _ (h : Header) (variables : ℕ) (cs : List Clause) (a b : List Gate) (t : TellsFor h variables cs a b) where
  satisfying : (σ : List Bool) → Satisfying variables (plain_clauses cs) σ ↔ Satisfying variables cs σ
  satisfying σ =
      let e = plain_satisfied σ variables cs t.within in
      ((λ s. record { whole = s.whole; satisfied = sym e ∙ s.satisfied }), (λ s. record { whole = s.whole; satisfied = e ∙ s.satisfied }))

  pub plain_tells : TellsFor h variables (plain_clauses cs) a b
  plain_tells =
      record {
        equal = ((λ same σ s. t.equal.0 same σ ((satisfying σ).0 s)), (λ unsat. t.equal.1 (λ σ s. unsat σ ((satisfying σ).1 s))));
        differing = λ x d.
            let (σ, s, e, only) = t.differing x d in
            (σ, (satisfying σ).1 s, e, (λ τ p q. only τ ((satisfying τ).0 p) q));
        no_other = λ σ s. t.no_other σ ((satisfying σ).0 s);
        within = plain_within variables cs t.within;
      }

-- ---- each clause in its place

pub plain_each : (c : Clause) (cs : List Clause) → plain_clauses (c ∷ cs) ≡ plain_clause c ++ plain_clauses cs
unfolding plain_clauses
plain_each c cs = refl

pub plain_same : (ls : List ℤ) → plain_clause (OR ls) ≡ OR ls ∷ []
plain_same ls = refl

-- The shapes of clauses by truth tables, and the two kinds of clauses as folds over their literals. Assumes nothing.
use Rattle.std.proofs.Common.{◌≡◌, ℕ, zero, suc, ◌+◌, ◌%◌, ◌<◌, ◌≤◌, Bool, true, false, cond, not, ◌&&◌, ◌||◌, eqb, leb, List, [], ◌∷◌, ◌++◌, ℤ, pos, negsuc, neg_ℤ, sym, refl, ap, ◌∙◌, arith, le-leb}
use mathlib.Core.Bool.{xor, and_assoc, beq, not-not}
use Rattle.bits.proofs.Bools.{none_xor, table₂, table₃, table₄}
use Rattle.checking.specs.Clauses.{Clause, OR, XOR}
use Rattle.checking.specs.Satisfaction.{variable, value, true_count, holds, satisfies, variable_of}

-- ---- the shapes of a gate's clauses, and of a line's

pub shape_0 : (w v : Bool) → (xor w (xor v false) && true) ≡ (beq w (xor v true) && true)
unfolding xor
shape_0 = table₂ _ _ refl

pub shape_1 : (w v f : Bool) → (xor (not w) (xor v (xor f false)) && true) ≡ (beq w (xor v f) && true)
unfolding xor
shape_1 = table₃ _ _ refl

pub shape_2 : (p w v f : Bool) → ((p || not f) && ((not p || f) && (xor (not w) (xor v (xor p false)) && true))) ≡ (beq p f && (beq w (xor v f) && true))
unfolding xor
shape_2 = table₄ _ _ refl

pub shape_d : (d a b : Bool) → xor (not d) (xor a (xor b false)) ≡ beq d (xor a b)
unfolding xor
shape_d = table₃ _ _ refl

-- ---- an OR is the or of its literals, an XOR their xor

abbrev pub some_true : List Bool → List ℤ → Bool
some_true σ [] = false
some_true σ (l ∷ ls) = value σ l || some_true σ ls

abbrev pub odd_true : List Bool → List ℤ → Bool
odd_true σ [] = false
odd_true σ (l ∷ ls) = xor (value σ l) (odd_true σ ls)

some_step : (v : Bool) (c : ℕ) → leb 1 (cond v 1 0 + c) ≡ (v || leb 1 c)
some_step true c = le-leb 1 (1 + c) (omega arith)
some_step false c = let e : 0 + c ≡ c = omega arith in ap (leb 1) e

odd_step : (v : Bool) (c : ℕ) → eqb ((cond v 1 0 + c) % 2) 1 ≡ xor v (eqb (c % 2) 1)
unfolding xor
odd_step true c = let e : (1 + c) % 2 ≡ (1 + c % 2) % 2 = omega arith in ap (λ (r : ℕ). eqb r 1) e ∙ flip (c % 2) (omega arith)
  where
    flip : (r : ℕ) → r < 2 → eqb ((1 + r) % 2) 1 ≡ xor true (eqb r 1)
    flip zero h = refl
    flip (suc zero) h = refl
    flip (suc (suc r)) h = absurd (omega arith)
odd_step false c = let e : 0 + c ≡ c = omega arith in ap (λ (k : ℕ). eqb (k % 2) 1) e ∙ sym (none_xor (eqb (c % 2) 1))

pub holds_or : (σ : List Bool) (ls : List ℤ) → holds σ (OR ls) ≡ some_true σ ls
unfolding holds
holds_or σ [] = refl
holds_or σ (l ∷ ls) = some_step (value σ l) (true_count σ ls) ∙ ap (λ (b : Bool). value σ l || b) (holds_or σ ls)

pub holds_xor : (σ : List Bool) (ls : List ℤ) → holds σ (XOR ls) ≡ odd_true σ ls
unfolding holds
holds_xor σ [] = refl
holds_xor σ (l ∷ ls) = odd_step (value σ l) (true_count σ ls) ∙ ap (xor (value σ l)) (holds_xor σ ls)

-- a literal of a variable has the opposite value of its negation
pub value_neg : (σ : List Bool) (l : ℤ) → 1 ≤ variable_of l → value σ (neg_ℤ l) ≡ not (value σ l)
value_neg σ (pos zero) h = absurd (omega arith)
value_neg σ (pos (suc i)) h = refl
value_neg σ (negsuc i) h = sym (not-not (variable σ (suc i)))

pub satisfies_none : (σ : List Bool) → satisfies σ [] ≡ true
unfolding satisfies
satisfies_none σ = refl

pub satisfies_next : (σ : List Bool) (c : Clause) (cs : List Clause) → satisfies σ (c ∷ cs) ≡ (holds σ c && satisfies σ cs)
unfolding satisfies
satisfies_next σ c cs = refl

pub satisfies_append : (σ : List Bool) (xs ys : List Clause) → satisfies σ (xs ++ ys) ≡ (satisfies σ xs && satisfies σ ys)
unfolding satisfies
satisfies_append σ [] ys = refl
satisfies_append σ (x ∷ xs) ys =
    ap (λ (b : Bool). holds σ x && b) (satisfies_append σ xs ys) ∙ sym (and_assoc (holds σ x) (satisfies σ xs) (satisfies σ ys))

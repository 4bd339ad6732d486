-- Assignments, what satisfies clauses, the input that an assignment spells, and what clauses tell of two cascades.
use Rattle.std.specs.Prelude.{◌≡◌, ℕ, zero, suc, ◌+◌, ◌%◌, ◌^◌, ◌≤◌, Bool, true, false, cond, not, ◌&&◌, ◌↔◌, List, [], ◌∷◌, length, ℤ, pos, negsuc, ◌==◌, nat_le, slice_index_or}
use Rattle.bits.specs.Lists.{All}
use Rattle.circuit.specs.declared.gate.Gate.{Gate}
use Rattle.circuit.specs.Run.{Equal, Differs}
use Rattle.checking.specs.Clauses.{Clause, OR, XOR}

-- an assignment is the list of the values of variables 1, 2, ..; what is no variable of it counts as false
abbrev pub variable : List Bool → ℕ → Bool
variable σ zero = false
variable σ (suc i) = slice_index_or σ i false

-- a negative literal is true when its variable is false
abbrev pub value : List Bool → ℤ → Bool
value σ (pos v) = variable σ v
value σ (negsuc i) = not (variable σ (suc i))

abbrev pub true_count : List Bool → List ℤ → ℕ
true_count σ [] = 0
true_count σ (l ∷ ls) = cond (value σ l) 1 0 + true_count σ ls

-- an OR needs a true literal, an XOR an odd number of them
unfoldable pub holds : List Bool → Clause → Bool
holds σ (OR ls) = nat_le 1 (true_count σ ls)
holds σ (XOR ls) = true_count σ ls % 2 == 1

unfoldable pub satisfies : List Bool → List Clause → Bool
satisfies σ [] = true
satisfies σ (c ∷ cs) = holds σ c && satisfies σ cs

-- σ gives each of V variables a value, and each clause has what it needs
pub record Satisfying (variables : ℕ) (cs : List Clause) (σ : List Bool) : Type 0 where
  pub whole : length σ ≡ variables
  pub satisfied : satisfies σ cs ≡ true

-- the input that the first n variables spell: bit k is 1 exactly when variable k + 1 is true
unfoldable pub spelled : ℕ → List Bool → ℕ
spelled zero σ = 0
spelled (suc n) σ = spelled n σ + cond (variable σ (suc n)) (2 ^ n) 0

-- the variable of a literal
abbrev pub variable_of : ℤ → ℕ
variable_of (pos v) = v
variable_of (negsuc i) = suc i

-- every literal is one of a variable from 1 to V
abbrev pub LiteralWithin : ℕ → ℤ → Type 0
LiteralWithin v l = (1 ≤ variable_of l) × (variable_of l ≤ v)

abbrev pub LiteralsWithin : ℕ → List ℤ → Type 0
LiteralsWithin v ls = All (LiteralWithin v) ls

abbrev pub clause_literals : Clause → List ℤ
clause_literals (OR ls) = ls
clause_literals (XOR ls) = ls

abbrev pub ClausesWithin : ℕ → List Clause → Type 0
ClausesWithin v cs = All (λ (c : Clause). LiteralsWithin v (clause_literals c)) cs

-- the clauses cs over V variables tell on which states of n lines two cascades differ
pub record Tells (n variables : ℕ) (cs : List Clause) (a b : List Gate) : Type 0 where
  -- they are equal exactly when no assignment satisfies the clauses
  pub equal : Equal n a b ↔ ((σ : List Bool) → Satisfying variables cs σ → ⊥)
  -- each state on which they differ is spelled by exactly one satisfying assignment
  pub differing : (x : ℕ) → Differs n a b x
      → (σ : List Bool) × Satisfying variables cs σ × (spelled n σ ≡ x) × ((τ : List Bool) → Satisfying variables cs τ → spelled n τ ≡ x → τ ≡ σ)
  -- no other state is spelled by any
  pub no_other : (σ : List Bool) → Satisfying variables cs σ → Differs n a b (spelled n σ)
  -- no literal is 0 or beyond V
  pub within : ClausesWithin variables cs

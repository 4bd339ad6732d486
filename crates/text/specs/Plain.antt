-- A clause list as OR clauses alone, with no variable added.
use Rattle.std.specs.Prelude.{Bool, true, false, not, List, [], ◌∷◌, ◌++◌, map, ℤ, neg_ℤ}
use Rattle.bits.specs.Lists.{All}
use Rattle.checking.specs.Clauses.{Clause, OR, XOR}

-- the literals with an odd number of them negated, or an even one, in every way; the first one as it is comes before the first one negated
unfoldable pub negations : Bool → List ℤ → List (List ℤ)
negations true [] = []
negations false [] = [] ∷ []
negations odd (l ∷ ls) = map (λ (k : List ℤ). l ∷ k) (negations odd ls) ++ map (λ (k : List ℤ). neg_ℤ l ∷ k) (negations (not odd) ls)

-- an XOR is every clause over its variables that shuts out one assignment with an even number of true literals: these are negated in the clause
abbrev pub plain_clause : Clause → List Clause
plain_clause (OR ls) = OR ls ∷ []
plain_clause (XOR ls) = map OR (negations false ls)

-- each in its place in the list
unfoldable pub plain_clauses : List Clause → List Clause
plain_clauses [] = []
plain_clauses (c ∷ cs) = plain_clause c ++ plain_clauses cs

-- every clause is an OR
abbrev pub IsOr : Clause → Type 0
IsOr (OR ls) = Unit {0}
IsOr (XOR ls) = ⊥

abbrev pub AllOr : List Clause → Type 0
AllOr cs = All IsOr cs

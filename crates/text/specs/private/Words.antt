-- For the contracts of the functions that write the clauses of stored words.
use Rattle.std.specs.Prelude.{◌≡◌, List, [], ◌∷◌, ◌++◌, ℕ, zero, suc, ◌≤◌, ℤ, pos, negsuc, length}
use Rattle.bits.specs.Lists.{All}
use Rattle.checking.specs.Clauses.{Clause, OR, XOR, max_variables}
use Rattle.checking.specs.Stored.{stored, ReadBack, clauses_read, bad_record, clauses_in}
use Rattle.checking.specs.Satisfaction.{LiteralsWithin, ClausesWithin}
use Rattle.text.specs.declared.plain.PlainSizes.{PlainSizes}
use Rattle.text.specs.Dimacs.{xor_sign, body_text, closing, clauses_text}
use Rattle.text.specs.Plain.{plain_clause, plain_clauses}
use Rattle.text.specs.Compare.{max_list}

-- the `x` of a kind word: 1 for XOR
abbrev pub kind_text : ℤ → List ℕ
kind_text (pos zero) = []
kind_text (pos (suc zero)) = xor_sign ∷ []
kind_text (pos (suc (suc k))) = []
kind_text (negsuc i) = []

-- a clause by its kind word and its literals
abbrev pub record_text : ℤ → List ℤ → List ℕ
record_text kind ls = kind_text kind ++ (body_text ls ++ closing)

-- the clauses that words store, in a list
abbrev pub read_clauses : ReadBack → List Clause
read_clauses (clauses_read cs) = cs
read_clauses (bad_record i) = []

unfoldable pub stored_in : List ℤ → List Clause
stored_in ws = read_clauses (clauses_in ws)

-- the clause of a kind word, 1 for XOR, and literals
abbrev pub clause_of : ℤ → List ℤ → Clause
clause_of (pos zero) ls = OR ls
clause_of (pos (suc zero)) ls = XOR ls
clause_of (pos (suc (suc k))) ls = OR ls
clause_of (negsuc i) ls = OR ls

-- ---- the same clauses as OR clauses alone

-- the plain clauses of a kind word and literals
abbrev pub plain_record : ℤ → List ℤ → List Clause
plain_record (pos zero) ls = plain_clause (OR ls)
plain_record (pos (suc zero)) ls = plain_clause (XOR ls)
plain_record (pos (suc (suc k))) ls = plain_clause (OR ls)
plain_record (negsuc i) ls = plain_clause (OR ls)

-- two or three literals
abbrev pub TwoOrThree : List ℤ → Type 0
TwoOrThree [] = ⊥
TwoOrThree (a ∷ []) = ⊥
TwoOrThree (a ∷ b ∷ []) = Unit {0}
TwoOrThree (a ∷ b ∷ c ∷ []) = Unit {0}
TwoOrThree (a ∷ b ∷ c ∷ d ∷ ls) = ⊥

-- an XOR has two or three literals
abbrev pub ShortRecord : ℤ → List ℤ → Type 0
ShortRecord (pos zero) ls = Unit {0}
ShortRecord (pos (suc zero)) ls = TwoOrThree ls
ShortRecord (pos (suc (suc k))) ls = Unit {0}
ShortRecord (negsuc i) ls = Unit {0}

abbrev pub ShortClause : Clause → Type 0
ShortClause (OR ls) = Unit {0}
ShortClause (XOR ls) = TwoOrThree ls

abbrev pub AllShort : List Clause → Type 0
AllShort cs = All ShortClause cs

-- a record whose plain clauses can be written
pub record Plainable (kind : ℤ) (ls : List ℤ) : Type 0 where
  pub short : ShortRecord kind ls
  pub few : length ls ≤ max_list
  pub within : LiteralsWithin max_variables ls

-- ---- either

-- the words store clauses that can be written in either form, and are no more than a list may have
pub record StoresList (ws : List ℤ) : Type 0 where
  pub clauses : List Clause
  pub words : ws ≡ stored clauses
  pub short : AllShort clauses
  pub within : ClausesWithin max_variables clauses
  pub few : length ws ≤ max_list

-- the bytes and the clauses of the plain one
abbrev pub plain_sizes : List ℤ → PlainSizes
plain_sizes ws = record { bytes = length (clauses_text (plain_clauses (stored_in ws))); clauses = length (plain_clauses (stored_in ws)) }

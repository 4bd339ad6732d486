-- Clauses in words, and words read back.
use Rattle.std.specs.Prelude.{◌≡◌, ℕ, zero, suc, ◌^◌, ◌<◌, cond, List, [], ◌∷◌, ◌++◌, length, take, drop, ℤ, pos, negsuc, ◌≢◌, nat_le}
use Rattle.std.proofs.Math.Option.{Option, none, some}
use Rattle.std.specs.Int.{Width, w32}
use mir.Val.{hbits}
use Rattle.bits.specs.Lists.{All}
use Rattle.checking.specs.Clauses.{Clause, OR, XOR}

-- 0 for OR or 1 for XOR, the literal count, the literals
abbrev pub stored_clause : Clause → List ℤ
stored_clause (OR ls) = pos 0 ∷ pos (length ls) ∷ ls
stored_clause (XOR ls) = pos 1 ∷ pos (length ls) ∷ ls

unfoldable pub stored : List Clause → List ℤ
stored [] = []
stored (c ∷ cs) = stored_clause c ++ stored cs

-- the clauses that words store, or the index of the first record that is no whole clause
pub data ReadBack : Type 0 where
  clauses_read : List Clause → ReadBack
  bad_record : ℕ → ReadBack

-- the clause of a kind word and literals, and the count of a count word, where they are such
abbrev pub clause_of : ℤ → List ℤ → Option Clause
clause_of (pos zero) ls = some (OR ls)
clause_of (pos (suc zero)) ls = some (XOR ls)
clause_of (pos (suc (suc k))) ls = none
clause_of (negsuc k) ls = none

abbrev pub count_of : ℤ → Option ℕ
count_of (pos k) = some k
count_of (negsuc k) = none

-- a record and what is read after it; i is the record's index
abbrev pub joined : ℕ → Option Clause → ReadBack → ReadBack
joined i none later = bad_record i
joined i (some c) (clauses_read cs) = clauses_read (c ∷ cs)
joined i (some c) (bad_record j) = bad_record j

-- one record: a kind, a count that fits, and as many literals; `later` reads the words after it
abbrev pub read_record : ℕ → ℤ → Option ℕ → List ℤ → (List ℤ → ReadBack) → ReadBack
read_record i kind none ws later = bad_record i
read_record i kind (some k) ws later = cond (nat_le k (length ws)) (joined i (clause_of kind (take k ws)) (later (drop k ws))) (bad_record i)

-- the records from index i on, at most `most` of them
unfoldable pub read_from : ℕ → ℕ → List ℤ → ReadBack
read_from i zero [] = clauses_read []
read_from i zero (kind ∷ ws) = bad_record i
read_from i (suc most) [] = clauses_read []
read_from i (suc most) (kind ∷ []) = bad_record i
read_from i (suc most) (kind ∷ count ∷ ws) = read_record i kind (count_of count) ws (λ (rest : List ℤ). read_from (suc i) most rest)

-- a record has two words at least, so there are no more records than words
unfoldable pub clauses_in : List ℤ → ReadBack
clauses_in ws = read_from 0 (length ws) ws

-- i whole clauses stand at the start of the words, and what is left starts with none
pub record BadAt (ws : List ℤ) (i : ℕ) : Type 0 where
  pub whole : List Clause
  pub left : List ℤ
  pub words : ws ≡ stored whole ++ left
  pub count : length whole ≡ i
  pub some_left : left ≡ [] → ⊥
  pub no_clause : (c : Clause) (more : List ℤ) → left ≢ stored_clause c ++ more

-- the width of a clause word, `ClauseWord` in the code; a signed one holds the numbers from −word_limit to word_limit − 1
abbrev pub word_width : Width
word_width = w32

abbrev pub word_limit : ℕ
word_limit = 2 ^ hbits word_width

-- −limit to limit − 1
abbrev pub FitsIn : ℕ → ℤ → Type 0
FitsIn limit (pos v) = v < limit
FitsIn limit (negsuc i) = i < limit

abbrev pub FitsWord : ℤ → Type 0
FitsWord w = FitsIn word_limit w

abbrev pub AllFit : List ℤ → Type 0
AllFit ws = All FitsWord ws

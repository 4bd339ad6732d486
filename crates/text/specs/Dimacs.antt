-- The text of a clause list that the program writes, by document 01, and how such a text is read back.
use Rattle.std.specs.Prelude.{Bool, true, false, cond, List, [], ◌∷◌, ◌++◌, ℕ, zero, suc, ◌+◌, ◌*◌, ◌-◌, ◌/◌, ◌%◌, ◌==◌, nat_lt, ℤ, pos, negsuc, length}
use Rattle.std.proofs.Math.Option.{Option, none, some}
use Rattle.circuit.specs.Text.{line_feed, minus_sign, digit}
use Rattle.circuit.specs.File.{parted_by, same, is_digit}
use Rattle.checking.specs.Clauses.{Clause, OR, XOR}

-- ---- the text

abbrev pub blank : ℕ
blank = 32

-- `x`, which is joined to the first literal of an XOR
abbrev pub xor_sign : ℕ
xor_sign = 120

-- `p` and `cnf`
abbrev pub problem_word : List ℕ
problem_word = 112 ∷ []

abbrev pub cnf_word : List ℕ
cnf_word = 99 ∷ 110 ∷ 102 ∷ []

-- a number in decimal, no leading zero: the digits of the tens, and the last one; k has no more than `most` + 1 digits
unfoldable pub decimal_within : ℕ → ℕ → List ℕ
decimal_within zero k = digit k ∷ []
decimal_within (suc most) k = cond (nat_lt k 10) (digit k ∷ []) (decimal_within most (k / 10) ++ (digit (k % 10) ∷ []))

unfoldable pub decimal : ℕ → List ℕ
decimal k = decimal_within k k

-- a literal: `-` for a negative one, and its variable
abbrev pub literal_text : ℤ → List ℕ
literal_text (pos v) = decimal v
literal_text (negsuc i) = minus_sign ∷ decimal (suc i)

-- literals, each followed by a blank
unfoldable pub literals_text : List ℤ → List ℕ
literals_text [] = []
literals_text (l ∷ ls) = (literal_text l ++ (blank ∷ [])) ++ literals_text ls

-- a clause's literals, each followed by a blank; the blank alone where there are none, since ` 0` closes a clause
abbrev pub body_text : List ℤ → List ℕ
body_text [] = blank ∷ []
body_text (l ∷ ls) = literals_text (l ∷ ls)

-- `0` and the LF, which end a clause
abbrev pub closing : List ℕ
closing = 48 ∷ line_feed ∷ []

-- a clause a line
abbrev pub clause_text : Clause → List ℕ
clause_text (OR ls) = body_text ls ++ closing
clause_text (XOR ls) = xor_sign ∷ (body_text ls ++ closing)

unfoldable pub clauses_text : List Clause → List ℕ
clauses_text [] = []
clauses_text (c ∷ cs) = clause_text c ++ clauses_text cs

-- `p cnf`, variables, clauses, parted by blanks
unfoldable pub header_text : ℕ → ℕ → List ℕ
header_text variables clauses =
    (problem_word ++ (blank ∷ cnf_word)) ++ (blank ∷ (decimal variables ++ (blank ∷ (decimal clauses ++ (line_feed ∷ [])))))

-- the text of clauses over so many variables
unfoldable pub dimacs_of : ℕ → List Clause → List ℕ
dimacs_of variables cs = header_text variables (length cs) ++ clauses_text cs

-- ---- reading it back, by lines and fields

-- two things that were read, put together
abbrev pub both_read : {A B C : Type 0} → (A → B → C) → Option A → Option B → Option C
both_read f (some a) (some b) = some (f a b)
both_read f (some a) none = none
both_read f none (some b) = none
both_read f none none = none

abbrev pub then_read : {A B : Type 0} → (A → B) → Option A → Option B
then_read f (some a) = some (f a)
then_read f none = none

-- the number of digits that follow the digits of k
unfoldable pub digits_read : ℕ → List ℕ → Option ℕ
digits_read k [] = some k
digits_read k (b ∷ bs) = cond (is_digit b) (digits_read (10 * k + (b - 48)) bs) none

-- a number: digits, one at least, no leading zero
unfoldable pub number_read : List ℕ → Option ℕ
number_read [] = none
number_read (b ∷ []) = digits_read 0 (b ∷ [])
number_read (b ∷ c ∷ bs) = cond (b == 48) none (digits_read 0 (b ∷ c ∷ bs))

-- a literal of a variable from 1 on
abbrev pub signed_read : Bool → Option ℕ → Option ℤ
signed_read negative none = none
signed_read negative (some zero) = none
signed_read true (some (suc i)) = some (negsuc i)
signed_read false (some (suc i)) = some (pos (suc i))

unfoldable pub literal_read : List ℕ → Option ℤ
literal_read [] = none
literal_read (b ∷ bs) = cond (b == minus_sign) (signed_read true (number_read bs)) (signed_read false (number_read (b ∷ bs)))

-- fields: literals, and `0` as the last
unfoldable pub literals_read : List (List ℕ) → Option (List ℤ)
literals_read [] = none
literals_read (f ∷ []) = cond (same f (48 ∷ [])) (some []) none
literals_read (f ∷ g ∷ fs) = both_read ◌∷◌ (literal_read f) (literals_read (g ∷ fs))

-- a clause's fields: literals, one at least, and `0`; or an empty one and `0`
unfoldable pub body_read : List (List ℕ) → Option (List ℤ)
body_read [] = none
body_read (f ∷ []) = none
body_read (f ∷ g ∷ []) = cond (same f []) (literals_read (g ∷ [])) (literals_read (f ∷ g ∷ []))
body_read (f ∷ g ∷ h ∷ fs) = literals_read (f ∷ g ∷ h ∷ fs)

-- a line's clause: an XOR after `x`, else an OR
unfoldable pub clause_read : List ℕ → Option Clause
clause_read [] = none
clause_read (b ∷ bs) =
    cond (b == xor_sign) (then_read XOR (body_read (parted_by blank bs))) (then_read OR (body_read (parted_by blank (b ∷ bs))))

-- the clauses of lines that an LF ends; what follows the last LF is empty
unfoldable pub lines_read : List (List ℕ) → Option (List Clause)
lines_read [] = none
lines_read (l ∷ []) = cond (same l []) (some []) none
lines_read (l ∷ k ∷ ls) = both_read ◌∷◌ (clause_read l) (lines_read (k ∷ ls))

-- what a text says: the variables and the number of clauses in its header, and its clauses
pub record Dimacs : Type 0 where
  pub variables : ℕ
  pub count : ℕ
  pub clauses : List Clause

-- the header's counts, by its fields
pub record Problem : Type 0 where
  pub variables : ℕ
  pub count : ℕ

abbrev pub problem : ℕ → ℕ → Problem
problem variables count = record { variables = variables; count = count }

unfoldable pub header_read : List (List ℕ) → Option Problem
header_read [] = none
header_read (p ∷ []) = none
header_read (p ∷ c ∷ []) = none
header_read (p ∷ c ∷ v ∷ []) = none
header_read (p ∷ c ∷ v ∷ m ∷ []) = cond (same p problem_word) (cond (same c cnf_word) (both_read problem (number_read v) (number_read m)) none) none
header_read (p ∷ c ∷ v ∷ m ∷ f ∷ fs) = none

abbrev pub over_problem : Problem → List Clause → Dimacs
over_problem p cs = record { variables = p.variables; count = p.count; clauses = cs }

-- a header and clauses
unfoldable pub read_lines : List (List ℕ) → Option Dimacs
read_lines [] = none
read_lines (l ∷ ls) = both_read over_problem (header_read (parted_by blank l)) (lines_read ls)

unfoldable pub dimacs_read : List ℕ → Option Dimacs
dimacs_read text = read_lines (parted_by line_feed text)

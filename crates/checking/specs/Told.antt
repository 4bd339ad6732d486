-- What the clauses in a buffer say of two cascades. No definition of the miter, the steps, the reduction or the clause list stands below it.
use Rattle.std.specs.Prelude.{◌≡◌, ℕ, List, length, take, ℤ}
use Rattle.circuit.specs.Gate.{max_gates}
use Rattle.circuit.specs.Outcome.{Outcome, served}
use Rattle.circuit.specs.Words.{gates_of, Cascade}
use Rattle.checking.specs.declared.clauses.Totals.{Totals}
use Rattle.checking.specs.Clauses.{Clause}
use Rattle.checking.specs.Stored.{clauses_in, clauses_read}
use Rattle.checking.specs.Satisfaction.{Tells}

-- the words that an answer counts, from the buffer's start, are those of clauses, and these tell on which states of n lines the cascades with the words a and b differ
pub record Told (n : ℕ) (a b : List ℕ) (totals : Totals) (buffer : List ℤ) : Type 0 where
  pub clauses : List Clause
  pub are_read : clauses_in (take totals.words buffer) ≡ clauses_read clauses
  pub counted : length clauses ≡ totals.clauses
  pub tells : Tells n totals.variables clauses (gates_of a) (gates_of b)

-- the same of words that were judged: they are those of cascades on as many lines, of no more gates each than a cascade may have
pub record ToldOf (na : ℕ) (a : List ℕ) (nb : ℕ) (b : List ℕ) (totals : Totals) (buffer : List ℤ) : Type 0 where
  pub first : ℕ
  pub first_good : Cascade na a max_gates first
  pub second : ℕ
  pub second_good : Cascade nb b max_gates second
  pub lines : na ≡ nb
  pub told : Told na a b totals buffer

-- where a call is served, the clauses read back from its buffer tell on which states the two cascades differ
abbrev pub ServedTells : ℕ → List ℕ → ℕ → List ℕ → Outcome Totals → List ℤ → Type 0
ServedTells na a nb b answer buffer = (totals : Totals) → answer ≡ served totals → ToldOf na a nb b totals buffer

-- For the contracts of the functions that fill the clause buffer.
use Rattle.std.specs.Prelude.{◌≡◌, List, ℕ, ◌≤◌, ℤ, length, take, Result, Ok, Err}
use Rattle.circuit.specs.Gate.{max_gates}
use Rattle.circuit.specs.declared.header.Header.{Header}
use Rattle.circuit.specs.Words.{Headed}
use Rattle.checking.specs.declared.clauses.Totals.{Totals}
use Rattle.checking.specs.Clauses.{max_variables}
use Rattle.checking.specs.Satisfaction.{ClausesWithin}
use Rattle.checking.specs.Stored.{stored}
use Rattle.circuit.specs.Refusal.{refusal_number, refusal_place}
use Rattle.text.specs.declared.refused.FileRefusal.{FileRefusal}
use Rattle.text.specs.Formula.{Formula}
use Rattle.text.specs.FileOutcome.{FileOutcome, answered, refused_at, file_number}
use Rattle.text.specs.private.Words.{AllShort}

-- the words of a cascade with the header h that a file can hold
pub record FileWords (h : Header) (ws : List ℕ) : Type 0 where
  pub count : ℕ
  pub cascade : Headed h ws max_gates count

-- the totals are those of a formula, whose clauses are stored at the start of the buffer and can be written as OR clauses alone
pub record ListStands (t : Totals) (buffer : List ℤ) (f : Formula) : Type 0 where
  pub variables_are : t.variables ≡ f.variables
  pub count : t.clauses ≡ length f.clauses
  pub inside : t.words ≤ length buffer
  pub words : take t.words buffer ≡ stored f.clauses
  pub short : AllShort f.clauses
  pub within : ClausesWithin max_variables f.clauses

-- an answer and the clause buffer say a verdict
abbrev pub Delivers : Result Totals FileRefusal → List ℤ → FileOutcome Formula → Type 0
Delivers (Ok t) buffer (answered f) = ListStands t buffer f
Delivers (Ok t) buffer (refused_at number file place) = ⊥
Delivers (Err r) buffer (answered f) = ⊥
Delivers (Err r) buffer (refused_at number file place) = (refusal_number r.why ≡ number) × (file_number r.file ≡ file) × (refusal_place r.why ≡ place)

-- For the contracts of the functions that compare two files: what their answers and the lent rooms say.
use Rattle.std.specs.Prelude.{◌≡◌, List, ℕ, ◌*◌, ◌≤◌, ℤ, length, take, nat_le, Result, Ok, Err}
use Rattle.circuit.specs.declared.gate.Gate.{Gate}
use Rattle.circuit.specs.Gate.{max_miter_gates}
use Rattle.circuit.specs.Outcome.{Outcome}
use Rattle.circuit.specs.Refusal.{no_room}
use Rattle.circuit.specs.Words.{gates_of, Cascade}
use Rattle.checking.specs.declared.clauses.Totals.{Totals}
use Rattle.text.specs.declared.comparison.Compared.{Compared}
use Rattle.text.specs.declared.comparison.Compared.TheVariants.{Reduction, Sweep, Differ, Clauses}
use Rattle.text.specs.declared.refused.FileRefusal.{FileRefusal}
use Rattle.text.specs.private.Words.{stored_in, StoresList}
use Rattle.text.specs.FileOutcome.{FileOutcome, answered, of_both, of_file, answer_of, map_answer}
use Rattle.text.specs.Compare.{max_list, Comparison, reduced, swept, differ_on, unsolved}

-- ---- the comparison

-- so many gates that a reduction and an emission take stand at the start of the room
pub record MiterWords (n gates : ℕ) (room : List ℕ) : Type 0 where
  pub inside : 3 * gates ≤ length room
  pub cascade : Cascade n (take (3 * gates) room) max_miter_gates gates

-- the words of such gates
pub record MiterCascade (n : ℕ) (ws : List ℕ) : Type 0 where
  pub count : ℕ
  pub cascade : Cascade n ws max_miter_gates count

-- the gates that are left stand at the start of the room
pub record LeftIn (n k : ℕ) (room : List ℕ) (gs : List Gate) : Type 0 where
  pub words : MiterWords n k room
  pub gates_are : gates_of (take (3 * k) room) ≡ gs

-- what is answered to an emission: 10 for more words than a clause list may have
abbrev pub listed_as : Outcome Totals → FileOutcome Compared
listed_as o = of_file 0 o (λ t. of_both (nat_le t.words max_list) no_room (answered (Clauses t)))

abbrev pub compared_as : Compared → List ℤ → Comparison
compared_as Reduction clauses = reduced
compared_as Sweep clauses = swept
compared_as (Differ state first second) clauses = differ_on state first second
compared_as (Clauses t) clauses = unsolved (record { variables = t.variables; clauses = stored_in (take t.words clauses) })

abbrev pub of_compared : Result Compared FileRefusal → List ℤ → FileOutcome Comparison
of_compared r clauses = map_answer (λ c. compared_as c clauses) (answer_of r)

-- the words of clauses stand at the start of the room
pub record InClauses (words : ℕ) (clauses : List ℤ) : Type 0 where
  pub inside : words ≤ length clauses
  pub stores : StoresList (take words clauses)

abbrev pub ClausesReady : Compared → List ℤ → Type 0
ClausesReady Reduction clauses = Unit {0}
ClausesReady Sweep clauses = Unit {0}
ClausesReady (Differ state first second) clauses = Unit {0}
ClausesReady (Clauses t) clauses = InClauses t.words clauses

abbrev pub ComparedReady : Result Compared FileRefusal → List ℤ → Type 0
ComparedReady (Ok c) clauses = ClausesReady c clauses
ComparedReady (Err r) clauses = Unit {0}

pub record SaysCompared (r : Result Compared FileRefusal) (clauses : List ℤ) (c : FileOutcome Comparison) : Type 0 where
  pub is : of_compared r clauses ≡ c
  pub ready : ComparedReady r clauses

-- an answer that needs no clauses
pub record SaysAny (r : Compared) (c : Comparison) : Type 0 where
  pub says : (clauses : List ℤ) → SaysCompared (Ok r) clauses (answered c)

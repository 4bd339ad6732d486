-- What the bytes that a call of `tomiter` leaves say of the two cascades of its input. No definition of a clause list stands below it.
use Rattle.std.specs.Prelude.{◌≡◌, List, ◌∷◌, ◌++◌, ℕ, length, take}
use Rattle.std.proofs.Math.Option.{some}
use Rattle.circuit.specs.declared.gate.Gate.{Gate}
use Rattle.circuit.specs.declared.header.Header.{Header}
use Rattle.circuit.specs.Outcome.{Outcome, served}
use Rattle.circuit.specs.Text.{text_of}
use Rattle.checking.specs.PairTold.{TellsFor}
use Rattle.text.specs.Dimacs.{blank, problem_word, cnf_word, Dimacs, dimacs_read}
use Rattle.text.specs.WholeFile.{FileWithin}

-- each file of an input has 1,024 gates at most
abbrev pub max_input_gates : ℕ
max_input_gates = 1024

-- the text starts `p cnf`, so that it is no refusal
abbrev pub StartsProblem : List ℕ → Type 0
StartsProblem text = take 5 text ≡ problem_word ++ (blank ∷ cnf_word)

-- what is read from the text tells on which states two cascades with the header h differ
pub record TextTells (text : List ℕ) (h : Header) (a b : List Gate) : Type 0 where
  pub read : Dimacs
  pub is_read : dimacs_read text ≡ some read
  -- the header has the number of the clauses
  pub counted : read.count ≡ length read.clauses
  -- the cascades are equal exactly when no assignment satisfies the clauses; each state on which they differ is spelled by exactly one, and no other by any
  pub tells : TellsFor h read.variables read.clauses a b

-- the input is the files of two cascades with the same header, and the text tells on which states they differ
pub record FilesTold (input text : List ℕ) : Type 0 where
  pub header : Header
  pub first : List Gate
  pub second : List Gate
  pub first_good : FileWithin max_input_gates header first
  pub second_good : FileWithin max_input_gates header second
  pub files : input ≡ text_of header first ++ text_of header second
  pub told : TextTells text header first second

-- where a call is served with k bytes, and the first k bytes of its buffer start `p cnf`, they tell on which states the cascades of its input differ
abbrev pub BytesTell : List ℕ → Outcome ℕ → List ℕ → Type 0
BytesTell input answer buffer = (k : ℕ) → answer ≡ served k → StartsProblem (take k buffer) → FilesTold input (take k buffer)

-- What a program answers to two files: a value, or a refusal that says of which file it is; and the text of a refusal.
use Rattle.std.specs.Prelude.{Bool, cond, List, [], ◌∷◌, ◌++◌, ℕ, Result, Ok, Err}
use Rattle.circuit.specs.Outcome.{Outcome, served, refused}
use Rattle.circuit.specs.Text.{tab, line_feed}
use Rattle.circuit.specs.Refusal.{refusal_number, refusal_place}
use Rattle.text.specs.declared.refused.File.{File}
use Rattle.text.specs.declared.refused.File.TheVariants.{Both, First, Second}
use Rattle.text.specs.declared.refused.FileRefusal.{FileRefusal}
use Rattle.text.specs.Dimacs.{decimal}

-- a value; or a refusal's number, file (1, 2, or 0 for both) and place
pub data FileOutcome (A : Type 0) : Type 0 where
  answered : A → FileOutcome A
  refused_at : ℕ → ℕ → ℕ → FileOutcome A

-- the number of a file
abbrev pub file_number : File → ℕ
file_number Both = 0
file_number First = 1
file_number Second = 2

-- a result in these numbers
abbrev pub answer_of : {A : Type 0} → Result A FileRefusal → FileOutcome A
answer_of (Ok a) = answered a
answer_of (Err r) = refused_at (refusal_number r.why) (file_number r.file) (refusal_place r.why)

-- the same with the value as f gives it
abbrev pub map_answer : {A B : Type 0} → (A → B) → FileOutcome A → FileOutcome B
map_answer f (answered a) = answered (f a)
map_answer f (refused_at number file place) = refused_at number file place

-- goes on where the test holds, and is else refused, with this file and place 0
abbrev pub of_that : {A : Type 0} → ℕ → Bool → ℕ → FileOutcome A → FileOutcome A
of_that file test number more = cond test more (refused_at number file 0)

-- the same, said of both files
abbrev pub of_both : {A : Type 0} → Bool → ℕ → FileOutcome A → FileOutcome A
of_both test number more = of_that 0 test number more

-- goes on with what is read from a file; what is wrong with it is said of that file
abbrev pub of_file : {A B : Type 0} → ℕ → Outcome A → (A → FileOutcome B) → FileOutcome B
of_file file (served a) more = more a
of_file file (refused number place) more = refused_at number file place

-- goes on with what was answered; a refusal stands
abbrev pub further : {A B : Type 0} → FileOutcome A → (A → FileOutcome B) → FileOutcome B
further (answered a) more = more a
further (refused_at number file place) more = refused_at number file place

-- `refused`
abbrev pub refused_word : List ℕ
refused_word = 114 ∷ 101 ∷ 102 ∷ 117 ∷ 115 ∷ 101 ∷ 100 ∷ []

-- three numbers, tab-parted, and an LF
abbrev pub numbers_text : ℕ → ℕ → ℕ → List ℕ
numbers_text a b c = decimal a ++ (tab ∷ (decimal b ++ (tab ∷ (decimal c ++ (line_feed ∷ [])))))

-- `refused`, number, file, place, tab-parted, and an LF
unfoldable pub refusal_text : ℕ → ℕ → ℕ → List ℕ
refusal_text number file place = refused_word ++ (tab ∷ numbers_text number file place)

-- the text of what is answered, or of the refusal
abbrev pub answer_text : {A : Type 0} → (A → List ℕ) → FileOutcome A → List ℕ
answer_text text (answered a) = text a
answer_text text (refused_at number file place) = refusal_text number file place

-- the text of a refusal that was answered
abbrev pub refused_text : FileRefusal → List ℕ
refused_text r = refusal_text (refusal_number r.why) (file_number r.file) (refusal_place r.why)

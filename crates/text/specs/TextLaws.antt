-- What is proved of the text that the program writes.
use Rattle.std.specs.Prelude.{◌≡◌, ◌↔◌, List, [], ◌∷◌, ◌++◌, ℕ, ◌≤◌, ◌<◌, length, drop}
use Rattle.std.proofs.Math.Option.{some}
use Rattle.circuit.specs.declared.gate.Gate.{Gate}
use Rattle.circuit.specs.declared.header.Header.{Header}
use Rattle.circuit.specs.Outcome.{served}
use Rattle.circuit.specs.Refusal.{line_counts_differ, marks_differ, no_room}
use Rattle.circuit.specs.Text.{line_feed, text_of}
use Rattle.circuit.specs.File.{fields_of}
use Rattle.circuit.specs.FileLaws.{FileCascade}
use Rattle.circuit.specs.Header.{unmarked}
use Rattle.checking.specs.Miter.{miter_gates}
use Rattle.checking.specs.Clauses.{Clause, OR, clauses_of, variables_of}
use Rattle.checking.specs.Pair.{pair_clauses, pair_variables}
use Rattle.checking.specs.FaultLaws.{without_constants, all_counted}
use Rattle.checking.specs.Stored.{stored}
use Rattle.checking.specs.Satisfaction.{ClausesWithin}
use Rattle.text.specs.Dimacs.{decimal, clauses_text, header_text, Dimacs, dimacs_of, number_read, dimacs_read}
use Rattle.text.specs.BytesTell.{max_input_gates, StartsProblem, TextTells}
use Rattle.text.specs.Answers.{WritesWhere}
use Rattle.text.specs.WholeFile.{FileWithin, WithinRefused, WholeRefused}
use Rattle.text.specs.Rows.{RowsHold, text_rows}
use Rattle.text.specs.FileOutcome.{refused_word, refusal_text, answer_text}
use Rattle.text.specs.Tomiter.{max_input, max_words, max_text, verdict, tomiter_text, tomiter_outcome, tomiter_buffer}

-- the input is the files of two cascades with the header h, and nothing is too long
pub record Fitting (input : List ℕ) (h : Header) (a b : List Gate) : Type 0 where
  pub first : FileWithin max_input_gates h a
  pub second : FileWithin max_input_gates h b
  pub files : input ≡ text_of h a ++ text_of h b
  pub bytes : length input ≤ max_input
  pub words : length (stored (pair_clauses h a b)) ≤ max_words

-- what is wrong with an input, by number, file and place, where nothing of an earlier kind is
pub data ProgramRefused (input : List ℕ) : ℕ → ℕ → ℕ → Type 0 where
  -- more than 65,536 bytes
  too_long : max_input < length input → ProgramRefused input no_room 0 0
  -- the first file; the second one, to its last byte, after a first that is good
  first_file : (number place : ℕ) → length input ≤ max_input → WithinRefused max_input_gates input number place → ProgramRefused input number 1 place
  in_second_file : (h : Header) (a : List Gate) (rest : List ℕ) (number place : ℕ) → length input ≤ max_input → FileWithin max_input_gates h a → input ≡ text_of h a ++ rest
      → WholeRefused max_input_gates rest number place → ProgramRefused input number 2 place
  -- line counts that differ, and then marks
  lines_differ : (ha : Header) (a : List Gate) (hb : Header) (b : List Gate) → length input ≤ max_input → FileWithin max_input_gates ha a → FileWithin max_input_gates hb b
      → input ≡ text_of ha a ++ text_of hb b → (ha.lines ≡ hb.lines → ⊥) → ProgramRefused input line_counts_differ 0 0
  other_marks : (ha : Header) (a : List Gate) (hb : Header) (b : List Gate) → length input ≤ max_input → FileWithin max_input_gates ha a → FileWithin max_input_gates hb b
      → input ≡ text_of ha a ++ text_of hb b → ha.lines ≡ hb.lines → (ha ≡ hb → ⊥) → ProgramRefused input marks_differ 0 0
  -- a clause list of more than 16,384 words
  list_long : (h : Header) (a b : List Gate) → length input ≤ max_input → FileWithin max_input_gates h a → FileWithin max_input_gates h b
      → input ≡ text_of h a ++ text_of h b → max_words < length (stored (pair_clauses h a b)) → ProgramRefused input no_room 0 0

-- what a text is to an input: clauses that tell on which states the cascades of its two files differ, or the refusal of what is wrong with it
pub data RightText (input text : List ℕ) : Type 0 where
  clauses : (h : Header) (a b : List Gate) → Fitting input h a b → StartsProblem text → TextTells text h a b → RightText input text
  refusal : (number file place : ℕ) → ProgramRefused input number file place → text ≡ refusal_text number file place → RightText input text

-- of a program, by what it writes for an input
pub record ProgramLaws (program : List ℕ → List ℕ) : Type 0 where
  -- clauses or a refusal, and nothing else
  pub writes : (input : List ℕ) → RightText input (program input)
  -- its text starts `p cnf` exactly for the files of two cascades of that size, and then tells on which states they differ
  pub problem : (input : List ℕ) (h : Header) (a b : List Gate) → Fitting input h a b → StartsProblem (program input)
  pub fitting : (input : List ℕ) → StartsProblem (program input) → (h : Header) × (a : List Gate) × (b : List Gate) × Fitting input h a b
  pub told : (input : List ℕ) (h : Header) (a b : List Gate) → Fitting input h a b → TextTells (program input) h a b
  -- it is the text of a refusal exactly for what is wrong first
  pub refused : (input : List ℕ) (number file place : ℕ) → (program input ≡ refusal_text number file place) ↔ ProgramRefused input number file place

-- of a program whose clauses are those of the pair as they are emitted
abbrev pub AsBuilt : (List ℕ → List ℕ) → Type 0
AsBuilt program =
    (input : List ℕ) (h : Header) (a b : List Gate) → Fitting input h a b → program input ≡ dimacs_of (pair_variables h a b) (pair_clauses h a b)

-- stand-ins, as programs: one fixed contradiction in place of every clause list, and the first clause left out
unfoldable pub contradiction : List ℕ → List ℕ
contradiction input = answer_text (λ f. dimacs_of f.variables (OR [] ∷ [])) (verdict input)

unfoldable pub without_first : List ℕ → List ℕ
without_first input = answer_text (λ f. dimacs_of f.variables (drop 1 f.clauses)) (verdict input)

pub record TextLaws : Type 0 where
  -- the text of clauses is read back: the header's counts, and the clauses
  pub read_back : (variables : ℕ) (cs : List Clause) → ClausesWithin variables cs
      → dimacs_read (dimacs_of variables cs) ≡ some (record { variables = variables; count = length cs; clauses = cs })
  -- and only such a text is read
  pub read_text : (text : List ℕ) (d : Dimacs) → dimacs_read text ≡ some d → text ≡ header_text d.variables d.count ++ clauses_text d.clauses
  -- the text of an OR without literals: `p cnf 1 1` and the line ` 0`
  pub empty_or : dimacs_of 1 (OR [] ∷ []) ≡ 112 ∷ 32 ∷ 99 ∷ 110 ∷ 102 ∷ 32 ∷ 49 ∷ 32 ∷ 49 ∷ 10 ∷ 32 ∷ 48 ∷ 10 ∷ []
  -- a number is read back
  pub number_back : (k : ℕ) → number_read (decimal k) ≡ some k
  -- the fields of a refusal's text; so it tells its number, its file and its place
  pub refusal_fields : (number file place : ℕ) → fields_of (refusal_text number file place) ≡ refused_word ∷ decimal number ∷ decimal file ∷ (decimal place ++ (line_feed ∷ [])) ∷ []
  pub refusal_apart : (number file place number' file' place' : ℕ) → refusal_text number file place ≡ refusal_text number' file' place'
      → (number ≡ number') × (file ≡ file') × (place ≡ place')
  -- such a program refuses a file of more than 1,024 gates with 10 and the file's number, whatever stands after its `end`
  pub first_large : (program : List ℕ → List ℕ) → ProgramLaws program → (h : Header) (a : List Gate) (rest : List ℕ) → FileCascade h a → max_input_gates < length a
      → length (text_of h a ++ rest) ≤ max_input → program (text_of h a ++ rest) ≡ refusal_text no_room 1 0
  pub second_large : (program : List ℕ → List ℕ) → ProgramLaws program → (h k : Header) (a b : List Gate) (rest : List ℕ) → FileWithin max_input_gates h a → FileCascade k b → max_input_gates < length b
      → length (text_of h a ++ (text_of k b ++ rest)) ≤ max_input → program (text_of h a ++ (text_of k b ++ rest)) ≡ refusal_text no_room 2 0
  -- and refuses nothing of a first file of at most 1,024 gates
  pub first_held : (program : List ℕ → List ℕ) → ProgramLaws program → (h : Header) (a : List Gate) (rest : List ℕ) (number place : ℕ) → FileCascade h a → length a ≤ max_input_gates
      → program (text_of h a ++ rest) ≡ refusal_text number 1 place → ⊥
  -- our text is that of such a program, by the pair's clauses, and every such program writes it
  pub program : ProgramLaws tomiter_text
  pub as_built : AsBuilt tomiter_text
  -- without marks it is that of the miter as it is built, as before
  pub unmarked_text : (input : List ℕ) (n : ℕ) (a b : List Gate) → Fitting input (unmarked n) a b
      → tomiter_text input ≡ dimacs_of (variables_of n (miter_gates a b)) (clauses_of n (miter_gates a b))
  pub program_only : (program : List ℕ → List ℕ) → ProgramLaws program → AsBuilt program → (input : List ℕ) → program input ≡ tomiter_text input
  -- the stand-ins do not have these laws, and neither has a program that refuses all
  pub contradiction_fails : ProgramLaws contradiction → ⊥
  pub without_first_fails : ProgramLaws without_first → ⊥
  pub refuses_all : (program : List ℕ → List ℕ) → ((input : List ℕ) → (number : ℕ) × (file : ℕ) × (place : ℕ) × (program input ≡ refusal_text number file place)) → ProgramLaws program → ⊥
  -- nor has one that takes no notice of the junk lines, or of the constants
  pub junk_counted : (program : List ℕ → List ℕ) → ((h : Header) (a b : List Gate) → program (text_of h a ++ text_of h b) ≡ program (text_of (all_counted h) a ++ text_of (all_counted h) b)) → ProgramLaws program → ⊥
  pub constants_ignored : (program : List ℕ → List ℕ)
      → ((h : Header) (a b : List Gate) → program (text_of h a ++ text_of h b) ≡ program (text_of (without_constants h) a ++ text_of (without_constants h) b)) → ProgramLaws program → ⊥
  -- the call writes the text exactly where the buffer is long enough
  pub call : (input out : List ℕ) → WritesWhere (length (tomiter_text input) ≤ length out) (tomiter_outcome input (length out)) (tomiter_text input) out (tomiter_buffer input out)
  -- every text fits a buffer of 98,321 bytes
  pub text_fits : (input : List ℕ) → length (tomiter_text input) ≤ max_text
  pub room_enough : (input : List ℕ) (room : ℕ) → max_text ≤ room → tomiter_outcome input room ≡ served (length (tomiter_text input))
  pub rows : RowsHold text_rows

-- The program's whole job, by documents 01 and 02: from the bytes of two cascade files to the bytes that it writes.
use Rattle.std.specs.Prelude.{◌≡◌, List, ℕ, ◌==◌, nat_le, length, drop}
use Rattle.circuit.specs.declared.gate.Gate.{Gate}
use Rattle.circuit.specs.declared.header.Header.{Header}
use Rattle.circuit.specs.Header.{same_marks}
use Rattle.circuit.specs.Outcome.{Outcome}
use Rattle.circuit.specs.Refusal.{line_counts_differ, marks_differ, no_room}
use Rattle.checking.specs.Pair.{pair_clauses}
use Rattle.checking.specs.Stored.{stored}
use Rattle.text.specs.Answers.{fit_outcome, fit_buffer}
use Rattle.text.specs.Dimacs.{dimacs_of}
use Rattle.text.specs.Formula.{Formula, pair_formula}
use Rattle.text.specs.FileOutcome.{FileOutcome, answered, of_both, of_file, answer_text}
use Rattle.text.specs.BytesTell.{max_input_gates, BytesTell}
use Rattle.text.specs.WholeFile.{file_within, whole_file}

-- the input has 65,536 bytes at most, and the clause buffer 16,384 words
abbrev pub max_input : ℕ
max_input = 65536

abbrev pub max_words : ℕ
max_words = 16384

-- no text has more bytes: six for each word of the clause buffer, and seventeen for the header
abbrev pub max_text : ℕ
max_text = 98321

-- the clause list of two cascades: 10
unfoldable pub list_verdict : Header → List Gate → List Gate → FileOutcome Formula
list_verdict h a b = of_both (nat_le (length (stored (pair_clauses h a b))) max_words) no_room (answered (pair_formula h a b))

-- two cascades: 8, 15
unfoldable pub pair_verdict : Header → List Gate → Header → List Gate → FileOutcome Formula
pair_verdict ha a hb b = of_both (ha.lines == hb.lines) line_counts_differ (of_both (same_marks ha hb) marks_differ (list_verdict ha a b))

-- the second file, to its last byte; 10 for more than 1,024 gates comes before what is after its `end`
unfoldable pub second_verdict : Header → List Gate → List ℕ → FileOutcome Formula
second_verdict h gs text = of_file 2 (whole_file max_input_gates text) (λ c. pair_verdict h gs c.header c.gates)

-- more than 65,536 bytes: 10; the first file, 10 for more than 1,024 gates; the second one, from where the first one's reading stops
unfoldable pub verdict : List ℕ → FileOutcome Formula
verdict input =
    of_both (nat_le (length input) max_input) no_room
    (of_file 1 (file_within max_input_gates input) (λ c. second_verdict c.header c.gates (drop c.taken input)))

abbrev pub verdict_text : FileOutcome Formula → List ℕ
verdict_text v = answer_text (λ f. dimacs_of f.variables f.clauses) v

-- what the program writes
unfoldable pub tomiter_text : List ℕ → List ℕ
tomiter_text input = verdict_text (verdict input)

-- the call on slices: 10 where the buffer is shorter than the text
abbrev pub tomiter_outcome : List ℕ → ℕ → Outcome ℕ
tomiter_outcome input room = fit_outcome (tomiter_text input) room

abbrev pub tomiter_buffer : List ℕ → List ℕ → List ℕ
tomiter_buffer input out = fit_buffer (tomiter_text input) out

-- what the call owes: its answer, the buffer's last contents, and that the bytes there tell on which states the cascades of its input differ
pub record WritesText (input out : List ℕ) (told : Outcome ℕ) (last : List ℕ) : Type 0 where
  pub answer : told ≡ tomiter_outcome input (length out)
  pub buffer : last ≡ tomiter_buffer input out
  pub tells : BytesTell input told last

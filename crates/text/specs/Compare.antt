-- Two cascade files compared: from their bytes to the bytes that are written.
use Rattle.std.specs.Prelude.{cond, List, [], ◌∷◌, ◌++◌, ℕ, ◌+◌, ◌*◌, ◌^◌, ◌≤◌, ◌==◌, nat_le, length}
use Rattle.circuit.specs.declared.gate.Gate.{Gate}
use Rattle.circuit.specs.declared.header.Header.{Header}
use Rattle.circuit.specs.Gate.{max_lines}
use Rattle.circuit.specs.Header.{marked, same_marks}
use Rattle.circuit.specs.Outcome.{Outcome, demand, written}
use Rattle.circuit.specs.Refusal.{line_counts_differ, marks_differ, no_room}
use Rattle.circuit.specs.Run.{run}
use Rattle.circuit.specs.Text.{tab, line_feed}
use Rattle.checking.specs.Miter.{miter_gates}
use Rattle.checking.specs.Reduce.{reduce_gates}
use Rattle.checking.specs.Compare.{max_sweep_lines, Difference, none, lowest, lowest_from}
use Rattle.checking.specs.Stored.{stored}
use Rattle.text.specs.Answers.{fit_outcome}
use Rattle.text.specs.Dimacs.{dimacs_of}
use Rattle.text.specs.Formula.{Formula, formula_of, pair_formula}
use Rattle.text.specs.FileOutcome.{FileOutcome, answered, of_both, of_that, of_file, further, numbers_text, answer_text}
use Rattle.text.specs.Plain.{plain_clauses}
use Rattle.text.specs.WholeFile.{whole_file}

-- a file has 524,288 bytes at most and its cascade 8,192 gates, and a clause list 300,000 words
abbrev pub max_file : ℕ
max_file = 524288

abbrev pub max_file_gates : ℕ
max_file_gates = 8192

abbrev pub max_list : ℕ
max_list = 300000

-- the words that a file's cascade and a miter have at most
abbrev pub file_words : ℕ
file_words = 3 * max_file_gates

abbrev pub miter_words : ℕ
miter_words = 2 * file_words

-- no text has more bytes: seven for each word of the clause list, fifty-one for each gate and each line, whose XOR stands in it as ORs, and nineteen for the header
abbrev pub max_compared : ℕ
max_compared = 7 * max_list + 51 * (2 * max_file_gates + max_lines) + 19

-- ---- the files

-- two cascades with the same header
pub record CascadePair : Type 0 where
  pub header : Header
  pub first : List Gate
  pub second : List Gate

abbrev pub cascades : Header → List Gate → List Gate → CascadePair
cascades h a b = record { header = h; first = a; second = b }

-- the second file beside the first one's cascade: its own refusal, then 8, 15
unfoldable pub second_file : Header → List Gate → List ℕ → FileOutcome CascadePair
second_file h gs second =
    of_file 2 (whole_file max_file_gates second) (λ d.
    of_both (h.lines == d.header.lines) line_counts_differ (of_both (same_marks h d.header) marks_differ (answered (cascades h gs d.gates))))

-- more than 524,288 bytes: 10, with the file's number; the first file, 10 for more than 8,192 gates; the second one
unfoldable pub files_of : List ℕ → List ℕ → FileOutcome CascadePair
files_of first second =
    of_that 1 (nat_le (length first) max_file) no_room
    (of_that 2 (nat_le (length second) max_file) no_room
    (of_file 1 (whole_file max_file_gates first) (λ c. second_file c.header c.gates second)))

-- ---- the comparison

-- equal, by the reduction or by the sweep; a state on which two cascades differ, and their outputs; or clauses that are left to a solver
pub data Comparison : Type 0 where
  reduced swept : Comparison
  differ_on : ℕ → ℕ → ℕ → Comparison
  unsolved : Formula → Comparison

-- the gates that the full reduction of the miter leaves
abbrev pub gates_left : List Gate → List Gate → List Gate
gates_left a b = (reduce_gates (miter_gates a b)).left

-- by the lowest state on which two cascades differ, or none
abbrev pub swept_as : List Gate → List Gate → Difference → Comparison
swept_as a b none = swept
swept_as a b (lowest x) = differ_on x (run a x) (run b x)

-- the gates that the full reduction of one cascade leaves
abbrev pub alone : List Gate → List Gate
alone gs = (reduce_gates gs).left

-- the clauses for a solver: where there are marks, of both cascades, each reduced alone; else of the gates that the reduction of the miter leaves
unfoldable pub left_formula : Header → List Gate → List Gate → Formula
left_formula h a b = cond (marked h) (pair_formula h (alone a) (alone b)) (formula_of h.lines (gates_left a b))

-- a clause list of more than 300,000 words: 10
unfoldable pub list_as : Formula → FileOutcome Comparison
list_as f = of_both (nat_le (length (stored f.clauses)) max_list) no_room (answered (unsolved f))

-- the reduction decides where it leaves no gate of the miter; else the sweep, up to 16 lines; else the clauses are for a solver
unfoldable pub compared : Header → List Gate → List Gate → FileOutcome Comparison
compared h a b =
    cond (length (gates_left a b) == 0) (answered reduced)
    (cond (nat_le h.lines max_sweep_lines) (answered (swept_as a b (lowest_from h a b 0 (2 ^ h.lines)))) (list_as (left_formula h a b)))

abbrev pub compared_files : FileOutcome CascadePair → FileOutcome Comparison
compared_files files = further files (λ p. compared p.header p.first p.second)

unfoldable pub comparison : List ℕ → List ℕ → FileOutcome Comparison
comparison first second = compared_files (files_of first second)

-- ---- the text

-- `equal`, `reduction`, `sweep` and `differ`
abbrev pub equal_word : List ℕ
equal_word = 101 ∷ 113 ∷ 117 ∷ 97 ∷ 108 ∷ []

abbrev pub reduction_word : List ℕ
reduction_word = 114 ∷ 101 ∷ 100 ∷ 117 ∷ 99 ∷ 116 ∷ 105 ∷ 111 ∷ 110 ∷ []

abbrev pub sweep_word : List ℕ
sweep_word = 115 ∷ 119 ∷ 101 ∷ 101 ∷ 112 ∷ []

abbrev pub differ_word : List ℕ
differ_word = 100 ∷ 105 ∷ 102 ∷ 102 ∷ 101 ∷ 114 ∷ []

-- `equal`, and what it rests on, tab-parted, and an LF
abbrev pub equal_text : List ℕ → List ℕ
equal_text word = equal_word ++ (tab ∷ (word ++ (line_feed ∷ [])))

-- `differ`, the state, the output of the first and of the second, tab-parted, and an LF
unfoldable pub differ_text : ℕ → ℕ → ℕ → List ℕ
differ_text state first second = differ_word ++ (tab ∷ numbers_text state first second)

abbrev pub comparison_text : Comparison → List ℕ
comparison_text reduced = equal_text reduction_word
comparison_text swept = equal_text sweep_word
comparison_text (differ_on state first second) = differ_text state first second
comparison_text (unsolved f) = dimacs_of f.variables (plain_clauses f.clauses)

abbrev pub compared_text : FileOutcome Comparison → List ℕ
compared_text c = answer_text comparison_text c

-- what is written
unfoldable pub compare_text : List ℕ → List ℕ → List ℕ
compare_text first second = compared_text (comparison first second)

-- ---- the call on slices

-- the rooms that the caller lends: for the words of the first cascade, of the second, of the miter, and of the clauses
pub record Rooms : Type 0 where
  pub first : ℕ
  pub second : ℕ
  pub miter : ℕ
  pub clauses : ℕ

abbrev pub rooms : ℕ → ℕ → ℕ → ℕ → Rooms
rooms first second miter clauses = record { first = first; second = second; miter = miter; clauses = clauses }

-- each room has at least as many words as a cascade, a miter or a clause list may have
abbrev pub RoomsFit : Rooms → Type 0
RoomsFit lent = (file_words ≤ lent.first) × (file_words ≤ lent.second) × (miter_words ≤ lent.miter) × (max_list ≤ lent.clauses)

-- a room is too short
abbrev pub RoomShort : Rooms → Type 0
RoomShort lent = RoomsFit lent → ⊥

-- 10 where a room is too short, or the buffer is shorter than the text
unfoldable pub compare_outcome : List ℕ → List ℕ → Rooms → ℕ → Outcome ℕ
compare_outcome first second lent room =
    demand (nat_le file_words lent.first) no_room 0
    (demand (nat_le file_words lent.second) no_room 0
    (demand (nat_le miter_words lent.miter) no_room 0
    (demand (nat_le max_list lent.clauses) no_room 0
    (fit_outcome (compare_text first second) room))))

unfoldable pub compare_buffer : List ℕ → List ℕ → Rooms → List ℕ → List ℕ
compare_buffer first second lent out = written (compare_outcome first second lent (length out)) (compare_text first second) out

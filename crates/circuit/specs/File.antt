-- Reading a cascade file by lines and fields, and what the two calls on files answer and leave, by documents 01 and 02.
use Rattle.std.specs.Prelude.{ℕ, ◌+◌, ◌-◌, ◌*◌, ◌^◌, Bool, true, false, cond, not, ◌&&◌, ◌||◌, List, [], ◌∷◌, ◌++◌, length, ◌==◌, bit_or, count_ones, nat_le, nat_lt}
use Rattle.std.specs.Bool.{beq}
use Rattle.circuit.specs.declared.gate.Gate.{Gate}
use Rattle.circuit.specs.declared.header.Header.{Header}
use Rattle.circuit.specs.declared.file.ReadCounts.{ReadCounts}
use Rattle.circuit.specs.Gate.{max_gates, Control}
use Rattle.circuit.specs.Outcome.{Outcome, served, refused, demand, and_then, written}
use Rattle.circuit.specs.Refusal.{wrong_form, bad_line_count, line_outside, target_controlled, not_rising, too_many_gates, no_room, bad_mark}
use Rattle.circuit.specs.Words.{gates_of, words_of, line_count_good, headed_outcome}
use Rattle.circuit.specs.Text.{tab, line_feed, plus_sign, minus_sign, digit, lines_word, const_word, junk_word, gate_word, end_word, text_of}

-- ---- lines and fields

-- a line: its bytes, and whether an LF ends it
pub record Line : Type 0 where
  pub bytes : List ℕ
  pub ended : Bool

-- a line that is not there
abbrev pub no_line : Line
no_line = record { bytes = []; ended = false }

abbrev pub first_line : List Line → Line
first_line [] = no_line
first_line (l ∷ ls) = l

abbrev pub later_lines : List Line → List Line
later_lines [] = []
later_lines (l ∷ ls) = ls

-- the lines of a text: each but the last ends in LF, and the last one may
unfoldable pub lines_of : List ℕ → List Line
lines_of [] = []
lines_of (b ∷ bs) =
    cond (b == line_feed) (record { bytes = []; ended = true } ∷ lines_of bs)
    (record { bytes = b ∷ (first_line (lines_of bs)).bytes; ended = (first_line (lines_of bs)).ended } ∷ later_lines (lines_of bs))

-- a line's bytes with its LF
abbrev pub line_size : Line → ℕ
line_size l = length l.bytes + 1

-- one byte more at the start of the first part
abbrev pub longer : ℕ → List (List ℕ) → List (List ℕ)
longer b [] = (b ∷ []) ∷ []
longer b (f ∷ fs) = (b ∷ f) ∷ fs

-- the parts of a text, parted by the byte s: one more than the text has of it
unfoldable pub parted_by : ℕ → List ℕ → List (List ℕ)
parted_by s [] = [] ∷ []
parted_by s (b ∷ bs) = cond (b == s) ([] ∷ parted_by s bs) (longer b (parted_by s bs))

-- the fields of a line
abbrev pub fields_of : List ℕ → List (List ℕ)
fields_of bs = parted_by tab bs

-- whether two lists of numbers are the same
unfoldable pub same : List ℕ → List ℕ → Bool
same [] [] = true
same [] (b ∷ bs) = false
same (a ∷ f) [] = false
same (a ∷ f) (b ∷ bs) = a == b && same f bs

-- ---- a field of line i

abbrev pub is_digit : ℕ → Bool
is_digit b = nat_le 48 b && nat_le b 57

-- a number: decimal, one or two digits, no leading zero
unfoldable pub number_of : ℕ → List ℕ → Outcome ℕ
number_of i [] = refused wrong_form i
number_of i (a ∷ []) = demand (is_digit a) wrong_form i (served (a - 48))
number_of i (a ∷ b ∷ []) = demand (is_digit a && (is_digit b && not (a == 48))) wrong_form i (served (10 * (a - 48) + (b - 48)))
number_of i (a ∷ b ∷ d ∷ f) = refused wrong_form i

-- a line of the cascade: 1, 3
unfoldable pub line_of : ℕ → ℕ → List ℕ → Outcome ℕ
line_of n i f = and_then (number_of i f) (λ k. demand (nat_lt k n) line_outside i (served k))

-- a control, `+` or `-` and its line: 1, 3
unfoldable pub control_of : ℕ → ℕ → List ℕ → Outcome Control
control_of n i [] = refused wrong_form i
control_of n i (s ∷ f) =
    demand (s == plus_sign || s == minus_sign) wrong_form i
    (and_then (line_of n i f) (λ k. served (record { line = k; positive = (s == plus_sign) })))

-- the controls cs, and those of the fields after them: 1, 3 by field
unfoldable pub controls_from : ℕ → ℕ → List Control → List (List ℕ) → Outcome (List Control)
controls_from n i cs [] = served cs
controls_from n i cs (f ∷ fs) = and_then (control_of n i f) (λ c. controls_from n i (cs ++ (c ∷ [])) fs)

-- ---- the gate of line i

-- whether line t is among the controls
unfoldable pub among : ℕ → List Control → Bool
among t [] = false
among t (c ∷ cs) = c.line == t || among t cs

-- whether the controls' lines rise, from `low` on
unfoldable pub rising_from : ℕ → List Control → Bool
rising_from low [] = true
rising_from low (c ∷ cs) = nat_le low c.line && rising_from (c.line + 1) cs

-- the mask of the positive controls, or of the negative ones
unfoldable pub mask_of : Bool → List Control → ℕ
mask_of sign [] = 0
mask_of sign (c ∷ cs) = bit_or (cond (beq c.positive sign) (2 ^ c.line) 0) (mask_of sign cs)

abbrev pub gate_of : ℕ → List Control → Gate
gate_of t cs = record { positive = mask_of true cs; negative = mask_of false cs; target = t }

-- after all fields: 1 for a missing LF, 4, 5
unfoldable pub closed_gate : ℕ → Bool → ℕ → List Control → Outcome Gate
closed_gate i ended t cs =
    demand ended wrong_form i
    (demand (not (among t cs)) target_controlled i
    (demand (rising_from 0 cs) not_rising i (served (gate_of t cs))))

-- by its fields, after so many gate lines: 6 for a line that starts `g` tab after the most gates that a cascade may have, then 1, 3 by field, 4, 5
unfoldable pub gate_fields : ℕ → ℕ → ℕ → Bool → List (List ℕ) → Outcome Gate
gate_fields n i count ended [] = refused wrong_form i
gate_fields n i count ended (f ∷ []) = refused wrong_form i
gate_fields n i count ended (f ∷ t ∷ fs) =
    demand (same f gate_word) wrong_form i
    (demand (nat_lt count max_gates) too_many_gates i
    (and_then (line_of n i t) (λ k. and_then (controls_from n i [] fs) (closed_gate i ended k))))

abbrev pub gate_on : ℕ → ℕ → ℕ → Line → Outcome Gate
gate_on n i count l = gate_fields n i count l.ended (fields_of l.bytes)

-- ---- a mark line: a constant's, or else a junk line's

-- the word that starts it
abbrev pub mark_word : Bool → List ℕ
mark_word constant = cond constant const_word junk_word

-- whether the word is the first field, and another field follows
unfoldable pub starts_fields : List ℕ → List (List ℕ) → Bool
starts_fields word [] = false
starts_fields word (f ∷ []) = false
starts_fields word (f ∷ k ∷ fs) = same f word

abbrev pub starts_mark : Bool → Line → Bool
starts_mark constant l = starts_fields (mark_word constant) (fields_of l.bytes)

-- the marks of a group: the mask of their lines, and that of those with value 1
pub record Marks : Type 0 where
  pub mask : ℕ
  pub values : ℕ

abbrev pub no_marks : Marks
no_marks = record { mask = 0; values = 0 }

-- one mark more, on line k
abbrev pub with_mark : Marks → ℕ → Bool → Marks
with_mark m k value = record { mask = bit_or m.mask (2 ^ k); values = bit_or m.values (cond value (2 ^ k) 0) }

-- the mark's line, after those of a mask: 1, then 14 where it is n or more, or not above them
unfoldable pub mark_number : ℕ → ℕ → ℕ → List ℕ → Outcome ℕ
mark_number n i mask f = and_then (number_of i f) (λ k. demand (nat_lt k n && nat_lt mask (2 ^ k)) bad_mark i (served k))

-- what follows it: a constant's value, `0` or `1`, and nothing for a junk line: 1
unfoldable pub mark_value : Bool → ℕ → List (List ℕ) → Outcome Bool
mark_value constant i [] = demand (not constant) wrong_form i (served false)
mark_value constant i (f ∷ []) =
    demand (constant && (same f (digit 0 ∷ []) || same f (digit 1 ∷ []))) wrong_form i (served (same f (digit 1 ∷ [])))
mark_value constant i (f ∷ x ∷ fs) = refused wrong_form i

-- the marks m and that of line i, by its fields; last 1 for a missing LF
unfoldable pub mark_fields : Bool → ℕ → ℕ → Marks → Bool → List (List ℕ) → Outcome Marks
mark_fields constant n i m ended [] = refused wrong_form i
mark_fields constant n i m ended (f ∷ []) = refused wrong_form i
mark_fields constant n i m ended (f ∷ t ∷ fs) =
    and_then (mark_number n i m.mask t) (λ k.
    and_then (mark_value constant i fs) (λ value. demand ended wrong_form i (served (with_mark m k value))))

abbrev pub mark_on : Bool → ℕ → ℕ → Marks → Line → Outcome Marks
mark_on constant n i m l = mark_fields constant n i m l.ended (fields_of l.bytes)

-- ---- the whole text

-- the line count, by the fields of line 0: 1, 2, then 1 for a further field or a missing LF
unfoldable pub count_fields : Bool → List (List ℕ) → Outcome ℕ
count_fields ended [] = refused wrong_form 0
count_fields ended (f ∷ []) = refused wrong_form 0
count_fields ended (f ∷ k ∷ []) =
    demand (same f lines_word) wrong_form 0
    (and_then (number_of 0 k) (λ n. demand (line_count_good n) bad_line_count 0 (demand ended wrong_form 0 (served n))))
count_fields ended (f ∷ k ∷ x ∷ fs) =
    demand (same f lines_word) wrong_form 0
    (and_then (number_of 0 k) (λ n. demand (line_count_good n) bad_line_count 0 (refused wrong_form 0)))

abbrev pub count_on : Line → Outcome ℕ
count_on l = count_fields l.ended (fields_of l.bytes)

-- `end` and its LF
abbrev pub is_end : Line → Bool
is_end l = l.ended && same l.bytes end_word

-- a group of mark lines that was read: its marks, and the lines that are left, the first of which is line `line` and has `at` bytes before it
pub record Group : Type 0 where
  pub marks : Marks
  pub line : ℕ
  pub at : ℕ
  pub left : List Line

-- the marks m and those of the lines that start with the group's word, from line i on, after `at` bytes
unfoldable pub group_from : Bool → ℕ → ℕ → ℕ → Marks → List Line → Outcome Group
group_from constant n i at m [] = served (record { marks = m; line = i; at = at; left = [] })
group_from constant n i at m (l ∷ ls) =
    cond (starts_mark constant l)
    (and_then (mark_on constant n i m l) (λ more. group_from constant n (i + 1) (at + line_size l) more ls))
    (served (record { marks = m; line = i; at = at; left = l ∷ ls }))

-- the header of n lines with these constants and junk lines
abbrev pub header_of : ℕ → Marks → Marks → Header
header_of n constants junk = record { lines = n; constants = constants.mask; values = constants.values; junk = junk.mask }

-- what was read: the header, the gates, and how many bytes they took
pub record Reading : Type 0 where
  pub header : Header
  pub gates : List Gate
  pub taken : ℕ

-- from line `length gs + first` on, after the header h, the gates gs, whose lines start at line `first`, and `at` bytes
unfoldable pub read_from : Header → ℕ → List Gate → ℕ → List Line → Outcome Reading
read_from h first gs at [] = refused wrong_form (length gs + first)
read_from h first gs at (l ∷ ls) =
    cond (is_end l) (served (record { header = h; gates = gs; taken = at + line_size l }))
    (and_then (gate_on h.lines (length gs + first) (length gs) l) (λ g. read_from h first (gs ++ (g ∷ [])) (at + line_size l) ls))

-- lines from the top: the line count, constants, junk lines, gates and `end`
unfoldable pub reading : List ℕ → Outcome Reading
reading text =
    and_then (count_on (first_line (lines_of text))) (λ n.
    and_then (group_from true n 1 (line_size (first_line (lines_of text))) no_marks (later_lines (lines_of text))) (λ c.
    and_then (group_from false n c.line c.at no_marks c.left) (λ j.
    read_from (header_of n c.marks j.marks) j.line [] j.at j.left)))

-- the number of mark lines of a header
abbrev pub mark_lines : Header → ℕ
mark_lines h = count_ones h.constants + count_ones h.junk

-- the line index after its `end`, by what was read: the header line, its mark lines, its gates and `end` stand before
abbrev pub line_after_end : Reading → ℕ
line_after_end c = mark_lines c.header + length c.gates + 2

-- ---- the two calls

-- what a served reading tells: the header, the number of gates, the bytes taken
abbrev pub counts_of : Reading → ReadCounts
counts_of c = record { header = c.header; gates = length c.gates; taken = c.taken }

abbrev pub gates_read : Outcome Reading → List Gate
gates_read (served c) = c.gates
gates_read (refused number place) = []

-- 1 to 6 and 14 by line, then 10: the buffer has room for three words a gate
unfoldable pub read_outcome : List ℕ → ℕ → Outcome ReadCounts
read_outcome text room =
    and_then (reading text) (λ c.
    demand (nat_le (3 * length c.gates) room) no_room 0 (served (counts_of c)))

-- the gates' words at the buffer's start
unfoldable pub read_buffer : List ℕ → List ℕ → List ℕ
read_buffer text out = written (read_outcome text (length out)) (words_of (gates_read (reading text))) out

-- 2, 14, 11, 6, 7, 10: the buffer has room for the text
unfoldable pub write_outcome : Header → List ℕ → ℕ → Outcome ℕ
write_outcome h ws room =
    and_then (headed_outcome h ws max_gates) (λ k.
    demand (nat_le (length (text_of h (gates_of ws))) room) no_room 0 (served (length (text_of h (gates_of ws)))))

-- the cascade's text at the buffer's start
unfoldable pub write_buffer : Header → List ℕ → List ℕ → List ℕ
write_buffer h ws out = written (write_outcome h ws (length out)) (text_of h (gates_of ws)) out

-- What this crate proves of cascade files: the round trip both ways, and what each refusal says of its line.
use Rattle.std.specs.Prelude.{◌≡◌, ℕ, ◌+◌, ◌*◌, ◌/◌, ◌<◌, ◌≤◌, Bool, cond, true, false, ◌↔◌, List, [], ◌∷◌, ◌++◌, map, length, take, ◌≢◌, nat_le}
use Rattle.bits.specs.Digits.{bit}
use Rattle.bits.specs.Lists.{over}
use Rattle.circuit.specs.declared.gate.Gate.{Gate}
use Rattle.circuit.specs.declared.header.Header.{Header}
use Rattle.circuit.specs.Gate.{max_lines, max_gates, Control, Inside}
use Rattle.circuit.specs.Header.{unmarked, marks_good}
use Rattle.circuit.specs.Outcome.{Outcome, served, refused, demand, and_then, written, Wrong, Fails, Untouched, Yields}
use Rattle.circuit.specs.Refusal.{wrong_form, bad_line_count, line_outside, target_controlled, not_rising, too_many_gates, no_room, bad_mark}
use Rattle.circuit.specs.Words.{gates_of, words_of, all_valid, check_outcome, Headed, HeadedRefused}
use Rattle.circuit.specs.Text.{digit, lines_word, gate_word, end_word, number_text, control_text, count_line, header_lines, gate_lines, end_line, text_of}
use Rattle.circuit.specs.File.{Line, first_line, later_lines, lines_of, line_size, fields_of, count_on, mark_word, starts_mark, Reading, read_from, mark_lines, counts_of, gates_read, reading, read_outcome, read_buffer, write_outcome, write_buffer}
use Rattle.circuit.specs.declared.file.ReadCounts.{ReadCounts}

-- a cascade that a file can hold
pub record FileCascade (h : Header) (gs : List Gate) : Type 0 where
  pub lines_low : 1 ≤ h.lines
  pub lines_high : h.lines ≤ max_lines
  pub marks : marks_good h ≡ true
  pub few : length gs ≤ max_gates
  pub gates : all_valid h.lines gs ≡ true

-- ---- what is wrong with one line

-- a field is a number of one or two digits, no leading zero
pub record NumberField (f : List ℕ) (k : ℕ) : Type 0 where
  pub small : k < 100
  pub text : f ≡ number_text k

-- a field is a control: `+` or `-`, and such a number
pub record ControlField (f : List ℕ) (c : Control) : Type 0 where
  pub small : c.line < 100
  pub text : f ≡ control_text c

-- line 0
pub data CountOffence (l : Line) : ℕ → Type 0 where
  -- it does not start `lines` tab
  no_lines : ((k : List ℕ) (fs : List (List ℕ)) → fields_of l.bytes ≢ lines_word ∷ k ∷ fs) → CountOffence l wrong_form
  -- no number follows
  no_number : (k : List ℕ) (fs : List (List ℕ)) → fields_of l.bytes ≡ lines_word ∷ k ∷ fs → ((n : ℕ) → NumberField k n → ⊥) → CountOffence l wrong_form
  -- n is outside 1 to 64
  outside : (k : List ℕ) (fs : List (List ℕ)) → fields_of l.bytes ≡ lines_word ∷ k ∷ fs → (n : ℕ) → NumberField k n → (1 ≤ n → n ≤ max_lines → ⊥) → CountOffence l bad_line_count
  -- n is good, and a further field stands there or the LF is missing
  no_end : (k : List ℕ) (fs : List (List ℕ)) → fields_of l.bytes ≡ lines_word ∷ k ∷ fs → (n : ℕ) → NumberField k n → 1 ≤ n → n ≤ max_lines
      → (fs ≡ [] → l.ended ≢ true) → CountOffence l wrong_form

-- what may follow the line of a mark: a constant's value, and nothing for a junk line
abbrev pub value_fields : Bool → Bool → List (List ℕ)
value_fields constant value = cond constant ((digit (cond value 1 0) ∷ []) ∷ []) []

-- a mark line, of a constant or else a junk line, after those of its group, whose lines are in the mask
pub data MarkOffence (constant : Bool) (n mask : ℕ) (l : Line) : ℕ → Type 0 where
  -- no number follows the word
  no_mark_line : (f : List ℕ) (fs : List (List ℕ)) → fields_of l.bytes ≡ mark_word constant ∷ f ∷ fs → ((k : ℕ) → NumberField f k → ⊥) → MarkOffence constant n mask l wrong_form
  -- the mark's line is n or more, or not above one before it
  beyond : (f : List ℕ) (fs : List (List ℕ)) → fields_of l.bytes ≡ mark_word constant ∷ f ∷ fs → (k : ℕ) → NumberField f k → n ≤ k → MarkOffence constant n mask l bad_mark
  mark_not_rising : (f : List ℕ) (fs : List (List ℕ)) → fields_of l.bytes ≡ mark_word constant ∷ f ∷ fs → (k : ℕ) → NumberField f k → k < n
      → (j : ℕ) → bit mask j ≡ true → k ≤ j → MarkOffence constant n mask l bad_mark
  -- it is good, and a constant's value is missing or neither `0` nor `1`, or a further field stands there, or the LF is missing
  mark_no_end : (f : List ℕ) (fs : List (List ℕ)) → fields_of l.bytes ≡ mark_word constant ∷ f ∷ fs → (k : ℕ) → NumberField f k → k < n
      → ((j : ℕ) → bit mask j ≡ true → j < k) → ((value : Bool) → fs ≡ value_fields constant value → l.ended ≢ true) → MarkOffence constant n mask l wrong_form

-- the first control field that is wrong, by its form or its value
pub data ControlsOffence (n : ℕ) : List (List ℕ) → ℕ → Type 0 where
  form : (f : List ℕ) (fs : List (List ℕ)) → ((c : Control) → ControlField f c → ⊥) → ControlsOffence n (f ∷ fs) wrong_form
  value : (f : List ℕ) (fs : List (List ℕ)) (c : Control) → ControlField f c → n ≤ c.line → ControlsOffence n (f ∷ fs) line_outside
  later : (f : List ℕ) (fs : List (List ℕ)) (c : Control) → ControlField f c → c.line < n → (number : ℕ) → ControlsOffence n fs number → ControlsOffence n (f ∷ fs) number

-- line t is one of the controls'
pub data Among (t : ℕ) : List Control → Type 0 where
  here : (c : Control) (cs : List Control) → c.line ≡ t → Among t (c ∷ cs)
  there : (c : Control) (cs : List Control) → Among t cs → Among t (c ∷ cs)

-- a control's line is not above that of the one before
pub data NotRising : List Control → Type 0 where
  here : (c d : Control) (cs : List Control) → d.line ≤ c.line → NotRising (c ∷ d ∷ cs)
  there : (c : Control) (cs : List Control) → NotRising cs → NotRising (c ∷ cs)

-- the fields of a gate line are all good: target k and the controls cs
pub record GoodFields (n : ℕ) (l : Line) (k : ℕ) (cs : List Control) : Type 0 where
  pub fields : fields_of l.bytes ≡ gate_word ∷ number_text k ∷ map control_text cs
  pub target : k < n
  pub controls : Inside n cs

-- line i, after the header and so many gate lines
pub data LineOffence (n i count : ℕ) (l : Line) : ℕ → Type 0 where
  -- it does not start `g` tab, and is not `end` with its LF
  no_gate_line : ((t : List ℕ) (fs : List (List ℕ)) → fields_of l.bytes ≢ gate_word ∷ t ∷ fs) → (l.bytes ≡ end_word → l.ended ≢ true) → LineOffence n i count l wrong_form
  -- it starts `g` tab, and as many gate lines stand before it as a cascade may have
  many : (t : List ℕ) (fs : List (List ℕ)) → fields_of l.bytes ≡ gate_word ∷ t ∷ fs → max_gates ≤ count → LineOffence n i count l too_many_gates
  -- the target's form, its value, then the controls
  target_form : (t : List ℕ) (fs : List (List ℕ)) → fields_of l.bytes ≡ gate_word ∷ t ∷ fs → count < max_gates → ((k : ℕ) → NumberField t k → ⊥) → LineOffence n i count l wrong_form
  target_value : (t : List ℕ) (fs : List (List ℕ)) → fields_of l.bytes ≡ gate_word ∷ t ∷ fs → count < max_gates → (k : ℕ) → NumberField t k → n ≤ k → LineOffence n i count l line_outside
  controls : (t : List ℕ) (fs : List (List ℕ)) → fields_of l.bytes ≡ gate_word ∷ t ∷ fs → count < max_gates → (k : ℕ) → NumberField t k → k < n
      → (number : ℕ) → ControlsOffence n fs number → LineOffence n i count l number
  -- all fields are good: a missing LF, the target among its controls, controls that do not rise
  no_end : (k : ℕ) (cs : List Control) → GoodFields n l k cs → count < max_gates → l.ended ≡ false → LineOffence n i count l wrong_form
  controlled : (k : ℕ) (cs : List Control) → GoodFields n l k cs → count < max_gates → l.ended ≡ true → Among k cs → LineOffence n i count l target_controlled
  controls_not_rising : (k : ℕ) (cs : List Control) → GoodFields n l k cs → count < max_gates → l.ended ≡ true → (Among k cs → ⊥) → NotRising cs → LineOffence n i count l not_rising

-- after a header's lines and gate lines, a constant's line may stand where no junk line and no gate line does, and a junk line where no gate line does
pub record GroupOpen (constant : Bool) (h : Header) (gs : List Gate) : Type 0 where
  pub no_junk : constant ≡ true → h.junk ≡ 0
  pub no_gates : gs ≡ []

abbrev pub group_mask : Bool → Header → ℕ
group_mask constant h = cond constant h.constants h.junk

-- the lines before are good, and the line or the missing line after them is not
pub data FileRefused (text : List ℕ) : ℕ → ℕ → Type 0 where
  on_count_line : (number : ℕ) → CountOffence (first_line (lines_of text)) number → FileRefused text number 0
  -- a line that starts a mark of a group that is open
  on_mark_line : (h : Header) (rest : List ℕ) → FileCascade h [] → text ≡ header_lines h ++ rest → (constant : Bool) → GroupOpen constant h []
      → (number : ℕ) → MarkOffence constant h.lines (group_mask constant h) (first_line (lines_of rest)) number → FileRefused text number (mark_lines h + 1)
  -- any other line after the header line
  later_line : (h : Header) (gs : List Gate) (rest : List ℕ) → FileCascade h gs → text ≡ header_lines h ++ (gate_lines gs ++ rest)
      → ((constant : Bool) → GroupOpen constant h gs → starts_mark constant (first_line (lines_of rest)) ≡ false)
      → (number : ℕ) → LineOffence h.lines (mark_lines h + length gs + 1) (length gs) (first_line (lines_of rest)) number → FileRefused text number (mark_lines h + length gs + 1)

-- ---- the laws, of any reader

pub record ReaderLaws (read : List ℕ → Outcome Reading) : Type 0 where
  -- the text of a cascade, followed by anything, is read as that cascade and takes the length of its text
  pub text_read : (h : Header) (gs : List Gate) (rest : List ℕ) → FileCascade h gs
      → read (text_of h gs ++ rest) ≡ served (record { header = h; gates = gs; taken = length (text_of h gs) })
  -- a text that is read as a cascade, with t bytes taken, has the cascade's text as its first t bytes
  pub read_text : (text : List ℕ) (c : Reading) → read text ≡ served c → (FileCascade c.header c.gates) × (take c.taken text ≡ text_of c.header c.gates)
  -- refused with a number at a place exactly for what is wrong there first
  pub read_refused : (text : List ℕ) (number place : ℕ) → (read text ≡ refused number place) ↔ FileRefused text number place

-- a text that starts with the text of a cascade, and a buffer that has room for its words
pub record Readable (text : List ℕ) (room : ℕ) (c : ReadCounts) : Type 0 where
  pub cascade : List Gate
  pub rest : List ℕ
  pub good : FileCascade c.header cascade
  pub starts : text ≡ text_of c.header cascade ++ rest
  pub gates : c.gates ≡ length cascade
  pub taken : c.taken ≡ length (text_of c.header cascade)
  pub fits : 3 * length cascade ≤ room

-- a text that starts with the text of what is read
pub record ReadAs (text : List ℕ) (c : Reading) : Type 0 where
  pub good : FileCascade c.header c.gates
  pub rest : List ℕ
  pub starts : text ≡ text_of c.header c.gates ++ rest
  pub bytes : c.taken ≡ length (text_of c.header c.gates)

-- what is wrong with the text; or 10 for the text of a cascade and a buffer with room for fewer words than it has
abbrev pub ReadRefused : List ℕ → ℕ → ℕ → ℕ → Type 0
ReadRefused text room = Wrong (FileRefused text) (ReadAs text) (λ c. Fails (room < 3 * length c.gates) no_room 0)

-- the words of a cascade, and a buffer that has room for its text of k bytes
pub record Writable (h : Header) (ws : List ℕ) (room k : ℕ) : Type 0 where
  pub gates : ℕ
  pub good : Headed h ws max_gates gates
  pub bytes : k ≡ length (text_of h (gates_of ws))
  pub fits : k ≤ room

-- what is wrong with a writing: with the header or the words, or 10 for a cascade and a buffer shorter than its text
abbrev pub WriteRefused : Header → List ℕ → ℕ → ℕ → ℕ → Type 0
WriteRefused h ws room = Wrong (HeadedRefused h ws max_gates) (Headed h ws max_gates) (λ k. Fails (room < length (text_of h (gates_of ws))) no_room 0)

-- of two calls on files, by their outcomes and what they leave in their buffers
pub record RoundTrip (read : List ℕ → ℕ → Outcome ReadCounts) (read_into : List ℕ → List ℕ → List ℕ)
    (write : Header → List ℕ → ℕ → Outcome ℕ) (write_into : Header → List ℕ → List ℕ → List ℕ) : Type 0 where
  -- each puts what it is asked for at the buffer's start and leaves the rest; a refused one leaves all of it
  pub read_leaves : (h : Header) (gs : List Gate) (rest out : List ℕ) → FileCascade h gs → 3 * length gs ≤ length out
      → read_into (text_of h gs ++ rest) out ≡ over (words_of gs) out
  pub read_untouched : (text out : List ℕ) → Untouched (read text (length out)) out (read_into text out)
  pub write_leaves : (h : Header) (ws out : List ℕ) (k : ℕ) → write h ws (length out) ≡ served k → write_into h ws out ≡ over (text_of h (gates_of ws)) out
  pub write_untouched : (h : Header) (ws out : List ℕ) → Untouched (write h ws (length out)) out (write_into h ws out)
  -- where writing is served with k bytes, reading the first k of its buffer is served with the header, the gates and k, and leaves the words at the buffer's start
  pub write_read : (h : Header) (ws out : List ℕ) (k : ℕ) → write h ws (length out) ≡ served k → (into : List ℕ) → length ws ≤ length into
      → Yields (read (take k (write_into h ws out)) (length into)) (read_into (take k (write_into h ws out)) into)
      (served (record { header = h; gates = length ws / 3; taken = k })) (over ws into)
  -- where reading is served, writing the words of its buffer is served with the bytes taken, and leaves these bytes at the buffer's start
  pub read_write : (text out : List ℕ) (c : ReadCounts) → read text (length out) ≡ served c → (into : List ℕ) → c.taken ≤ length into
      → Yields (write c.header (take (3 * c.gates) (read_into text out)) (length into)) (write_into c.header (take (3 * c.gates) (read_into text out)) into)
      (served c.taken) (over (take c.taken text) into)

-- a file without marks, by document 01: its text and its reading
abbrev pub unmarked_text : ℕ → List Gate → List ℕ
unmarked_text n gs = count_line n ++ (gate_lines gs ++ end_line)

unfoldable pub unmarked_reading : List ℕ → Outcome Reading
unmarked_reading text =
    and_then (count_on (first_line (lines_of text))) (λ n.
    read_from (unmarked n) 1 [] (line_size (first_line (lines_of text))) (later_lines (lines_of text)))

-- its two calls, and what they leave
unfoldable pub unmarked_read_outcome : List ℕ → ℕ → Outcome ReadCounts
unmarked_read_outcome text room =
    and_then (unmarked_reading text) (λ c. demand (nat_le (3 * length c.gates) room) no_room 0 (served (counts_of c)))

unfoldable pub unmarked_read_buffer : List ℕ → List ℕ → List ℕ
unmarked_read_buffer text out = written (unmarked_read_outcome text (length out)) (words_of (gates_read (unmarked_reading text))) out

unfoldable pub unmarked_write_outcome : ℕ → List ℕ → ℕ → Outcome ℕ
unmarked_write_outcome n ws room =
    and_then (check_outcome n ws max_gates) (λ k.
    demand (nat_le (length (unmarked_text n (gates_of ws))) room) no_room 0 (served (length (unmarked_text n (gates_of ws)))))

unfoldable pub unmarked_write_buffer : ℕ → List ℕ → List ℕ → List ℕ
unmarked_write_buffer n ws out = written (unmarked_write_outcome n ws (length out)) (unmarked_text n (gates_of ws)) out

-- line 1 of a text
abbrev pub line_1 : List ℕ → Line
line_1 text = first_line (later_lines (lines_of text))

-- line 1 is no mark line: it starts neither `const` tab nor `junk` tab
abbrev pub NoMarkLine : List ℕ → Type 0
NoMarkLine text = (constant : Bool) → starts_mark constant (line_1 text) ≡ false

-- files without marks are what they were
pub record UnmarkedFiles : Type 0 where
  -- the same bytes
  pub text : (n : ℕ) (gs : List Gate) → text_of (unmarked n) gs ≡ unmarked_text n gs
  -- the same answer for every text whose line 1 is no mark line
  pub answer : (text : List ℕ) → NoMarkLine text → reading text ≡ unmarked_reading text
  -- every text that was served is such a text, and gave a header without marks; and a text that now gives such a header was served
  pub served_before : (text : List ℕ) (c : Reading) → unmarked_reading text ≡ served c → NoMarkLine text × (c.header ≡ unmarked c.header.lines)
  pub served_now : (text : List ℕ) (c : Reading) → reading text ≡ served c → c.header ≡ unmarked c.header.lines → unmarked_reading text ≡ served c
  -- the calls answer and leave the same
  pub read_call : (text out : List ℕ) → NoMarkLine text
      → Yields (read_outcome text (length out)) (read_buffer text out) (unmarked_read_outcome text (length out)) (unmarked_read_buffer text out)
  pub write_call : (n : ℕ) (ws out : List ℕ)
      → Yields (write_outcome (unmarked n) ws (length out)) (write_buffer (unmarked n) ws out) (unmarked_write_outcome n ws (length out)) (unmarked_write_buffer n ws out)

-- a row, byte by byte: two lines, line 0 the constant 1, line 1 junk, no gates
abbrev pub marked_row : List ℕ
marked_row =
    108 ∷ 105 ∷ 110 ∷ 101 ∷ 115 ∷ 9 ∷ 50 ∷ 10
    ∷ 99 ∷ 111 ∷ 110 ∷ 115 ∷ 116 ∷ 9 ∷ 48 ∷ 9 ∷ 49 ∷ 10
    ∷ 106 ∷ 117 ∷ 110 ∷ 107 ∷ 9 ∷ 49 ∷ 10
    ∷ 101 ∷ 110 ∷ 100 ∷ 10 ∷ []

abbrev pub marked_header : Header
marked_header = record { lines = 2; constants = 1; values = 1; junk = 2 }

pub record FileLaws : Type 0 where
  -- the row is the text of its header without gates, and is read as that
  pub row_text : text_of marked_header [] ≡ marked_row
  pub row_read : reading marked_row ≡ served (record { header = marked_header; gates = []; taken = 29 })
  pub reader : ReaderLaws reading
  pub unmarked_files : UnmarkedFiles
  -- the calls themselves: reading a written cascade gives that cascade, writing a read one the same bytes
  pub round_trip : RoundTrip read_outcome read_buffer write_outcome write_buffer
  -- a reading, or a writing, that leaves its buffer as it was has not these laws
  pub idle_reading : (read : List ℕ → ℕ → Outcome ReadCounts) (write : Header → List ℕ → ℕ → Outcome ℕ) (write_into : Header → List ℕ → List ℕ → List ℕ)
      → RoundTrip read (λ text out. out) write write_into → ⊥
  pub idle_writing : (read : List ℕ → ℕ → Outcome ReadCounts) (read_into : List ℕ → List ℕ → List ℕ) → RoundTrip read read_into write_outcome (λ h ws out. out) → ⊥
  -- a text is served exactly when it starts with the text of a cascade and the buffer is long enough, and refused exactly by what is wrong
  pub read_served : (text : List ℕ) (room : ℕ) (c : ReadCounts) → (read_outcome text room ≡ served c) ↔ Readable text room c
  pub read_refused : (text : List ℕ) (room number place : ℕ) → (read_outcome text room ≡ refused number place) ↔ ReadRefused text room number place
  -- words are written exactly where they are a cascade's and the buffer has room for its text, and refused exactly by what is wrong
  pub write_served : (h : Header) (ws : List ℕ) (room k : ℕ) → (write_outcome h ws room ≡ served k) ↔ Writable h ws room k
  pub write_refused : (h : Header) (ws : List ℕ) (room number place : ℕ) → (write_outcome h ws room ≡ refused number place) ↔ WriteRefused h ws room number place
  -- a reader that refuses all does not have the laws, and neither has the reading without marks
  pub refuses_all : (read : List ℕ → Outcome Reading) → ((text : List ℕ) → (number : ℕ) × (place : ℕ) × (read text ≡ refused number place)) → ReaderLaws read → ⊥
  pub marks_unread : ReaderLaws unmarked_reading → ⊥

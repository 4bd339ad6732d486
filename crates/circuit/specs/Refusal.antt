-- The refusals of documents 01 and 02 by number.
use Rattle.std.specs.Prelude.{ℕ}
use Rattle.circuit.specs.declared.refusal.Refusal.{Refusal}
use Rattle.circuit.specs.declared.refusal.Refusal.TheVariants.{WrongForm, BadLineCount, LineOutside, TargetControlled, NotRising, TooManyGates, NoGate, LineCountsDiffer, BadState, NoRoom, BadWordCount, AgreeingState, TooWide, BadMark, MarksDiffer, WordTooWide}

-- a line of the wrong form, a missing `end` or LF
abbrev pub wrong_form : ℕ
wrong_form = 1

-- a line count outside 1 to 64
abbrev pub bad_line_count : ℕ
bad_line_count = 2

-- a target or a control of n or more
abbrev pub line_outside : ℕ
line_outside = 3

-- a target among its controls
abbrev pub target_controlled : ℕ
target_controlled = 4

-- controls that do not rise
abbrev pub not_rising : ℕ
not_rising = 5

-- more gates than the limit
abbrev pub too_many_gates : ℕ
too_many_gates = 6

-- words that form no gate on n lines
abbrev pub no_gate : ℕ
no_gate = 7

-- two line counts that differ
abbrev pub line_counts_differ : ℕ
line_counts_differ = 8

-- a state of 2 ^ n or more, or that breaks a constant
abbrev pub bad_state : ℕ
bad_state = 9

-- a buffer shorter than the answer
abbrev pub no_room : ℕ
no_room = 10

-- a word count that is no multiple of three
abbrev pub bad_word_count : ℕ
bad_word_count = 11

-- a fault list state on which the two cascades agree
abbrev pub agreeing_state : ℕ
agreeing_state = 12

-- a sweep with n over 16
abbrev pub too_wide : ℕ
too_wide = 13

-- a mark on no line of the cascade, marks of a file that do not rise, or value 1 on a line that is no constant
abbrev pub bad_mark : ℕ
bad_mark = 14

-- two cascades with different marks
abbrev pub marks_differ : ℕ
marks_differ = 15

-- a word of a clause list outside −32,768 to 32,767
abbrev pub word_too_wide : ℕ
word_too_wide = 16

-- a refusal's number
abbrev pub refusal_number : Refusal → ℕ
refusal_number (WrongForm place) = wrong_form
refusal_number BadLineCount = bad_line_count
refusal_number (LineOutside place) = line_outside
refusal_number (TargetControlled place) = target_controlled
refusal_number (NotRising place) = not_rising
refusal_number (TooManyGates place) = too_many_gates
refusal_number (NoGate place) = no_gate
refusal_number LineCountsDiffer = line_counts_differ
refusal_number (BadState place) = bad_state
refusal_number NoRoom = no_room
refusal_number BadWordCount = bad_word_count
refusal_number (AgreeingState place) = agreeing_state
refusal_number TooWide = too_wide
refusal_number (BadMark place) = bad_mark
refusal_number MarksDiffer = marks_differ
refusal_number (WordTooWide place) = word_too_wide

-- its place: the line of a file, the gate, the word or the list index; else 0
abbrev pub refusal_place : Refusal → ℕ
refusal_place (WrongForm place) = place
refusal_place BadLineCount = 0
refusal_place (LineOutside place) = place
refusal_place (TargetControlled place) = place
refusal_place (NotRising place) = place
refusal_place (TooManyGates place) = place
refusal_place (NoGate place) = place
refusal_place LineCountsDiffer = 0
refusal_place (BadState place) = place
refusal_place NoRoom = 0
refusal_place BadWordCount = 0
refusal_place (AgreeingState place) = place
refusal_place TooWide = 0
refusal_place (BadMark place) = place
refusal_place MarksDiffer = 0
refusal_place (WordTooWide place) = place

-- One input given to the cascades of two files: from the bytes to the bytes that are written.
use Rattle.std.specs.Prelude.{cond, ◌&&◌, List, [], ◌∷◌, ◌++◌, ℕ, zero, suc, ◌+◌, ◌*◌, ◌-◌, ◌/◌, ◌%◌, ◌≤◌, nat_le, length}
use Rattle.std.proofs.Math.Option.{Option, none, some}
use Rattle.circuit.specs.declared.gate.Gate.{Gate}
use Rattle.circuit.specs.declared.header.Header.{Header}
use Rattle.circuit.specs.Header.{permits, alike}
use Rattle.circuit.specs.Outcome.{Outcome, demand, written}
use Rattle.circuit.specs.Refusal.{bad_state, no_room}
use Rattle.circuit.specs.Run.{run}
use Rattle.circuit.specs.Text.{tab, line_feed, digit}
use Rattle.text.specs.declared.input.Outputs.{Outputs}
use Rattle.text.specs.Dimacs.{then_read}
use Rattle.text.specs.FileOutcome.{FileOutcome, answered, refused_at, of_both, further, answer_text}
use Rattle.text.specs.Compare.{file_words, CascadePair, files_of, differ_word}
use Rattle.text.specs.Answers.{fit_outcome}

-- no text has more bytes: `differ`, two states of 64 lines after a tab each, and an LF
abbrev pub max_checked : ℕ
max_checked = 137

-- a state of n lines: a character 0 or 1 for each line, line 0 first
unfoldable pub state_text : ℕ → ℕ → List ℕ
state_text zero x = []
state_text (suc n) x = digit (x % 2) ∷ state_text n (x / 2)

-- the state that n such characters spell; nothing else is a state
unfoldable pub state_read : ℕ → List ℕ → Option ℕ
state_read zero [] = some 0
state_read zero (b ∷ bs) = none
state_read (suc n) [] = none
state_read (suc n) (b ∷ bs) = cond (nat_le 48 b && nat_le b 49) (then_read (λ (x : ℕ). (b - 48) + 2 * x) (state_read n bs)) none

-- the outputs of both cascades, whose header is h
abbrev pub outputs : Header → ℕ → ℕ → Outputs
outputs h first second = record { header = h; first = first; second = second }

-- a text that spells no state, or a state that breaks a constant: 9
abbrev pub checked_on : Header → List Gate → List Gate → Option ℕ → FileOutcome Outputs
checked_on h a b (some x) = of_both (permits h x) bad_state (answered (outputs h (run a x) (run b x)))
checked_on h a b none = refused_at bad_state 0 0

-- what is wrong with the files comes first
abbrev pub checked_files : FileOutcome CascadePair → List ℕ → FileOutcome Outputs
checked_files files state = further files (λ p. checked_on p.header p.first p.second (state_read p.header.lines state))

unfoldable pub checked : List ℕ → List ℕ → List ℕ → FileOutcome Outputs
checked first second state = checked_files (files_of first second) state

-- `agree`
abbrev pub agree_word : List ℕ
agree_word = 97 ∷ 103 ∷ 114 ∷ 101 ∷ 101 ∷ []

-- `differ` or `agree`, the output of the first and of the second, tab-parted, and an LF
unfoldable pub outputs_text : Header → ℕ → ℕ → List ℕ
outputs_text h first second =
    cond (alike h first second) agree_word differ_word ++ ((tab ∷ state_text h.lines first) ++ ((tab ∷ state_text h.lines second) ++ (line_feed ∷ [])))

abbrev pub checked_text : FileOutcome Outputs → List ℕ
checked_text c = answer_text (λ o. outputs_text o.header o.first o.second) c

-- what is written
unfoldable pub check_text : List ℕ → List ℕ → List ℕ → List ℕ
check_text first second state = checked_text (checked first second state)

-- each room has at least as many words as a cascade may have
abbrev pub InputRoomsFit : ℕ → ℕ → Type 0
InputRoomsFit room_a room_b = (file_words ≤ room_a) × (file_words ≤ room_b)

-- a room is too short
abbrev pub InputRoomShort : ℕ → ℕ → Type 0
InputRoomShort room_a room_b = InputRoomsFit room_a room_b → ⊥

-- the call on slices: 10 where a room is too short, or the buffer is shorter than the text
unfoldable pub input_outcome : List ℕ → List ℕ → List ℕ → ℕ → ℕ → ℕ → Outcome ℕ
input_outcome first second state room_a room_b room =
    demand (nat_le file_words room_a) no_room 0
    (demand (nat_le file_words room_b) no_room 0
    (fit_outcome (check_text first second state) room))

unfoldable pub input_buffer : List ℕ → List ℕ → List ℕ → ℕ → ℕ → List ℕ → List ℕ
input_buffer first second state room_a room_b out = written (input_outcome first second state room_a room_b (length out)) (check_text first second state) out

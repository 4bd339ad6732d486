-- What is proved of the text that is written for one input.
use Rattle.std.specs.Prelude.{◌≡◌, cond, List, [], ◌∷◌, ◌++◌, ℕ, ◌^◌, ◌<◌, ◌≤◌, length, slice_index}
use Rattle.std.proofs.Math.Option.{some}
use Rattle.bits.specs.Digits.{bit}
use Rattle.circuit.specs.declared.gate.Gate.{Gate}
use Rattle.circuit.specs.declared.header.Header.{Header}
use Rattle.circuit.specs.Header.{Permitted}
use Rattle.circuit.specs.Outcome.{served}
use Rattle.circuit.specs.Refusal.{bad_state}
use Rattle.circuit.specs.Run.{run, DiffersFor}
use Rattle.circuit.specs.Text.{tab, line_feed, digit}
use Rattle.text.specs.FileOutcome.{refusal_text}
use Rattle.text.specs.Answers.{WritesWhere}
use Rattle.text.specs.Compare.{differ_word}
use Rattle.text.specs.Rows.{InputsHold, input_rows}
use Rattle.text.specs.TwoFiles.{TwoFiles, FilesRefused}
use Rattle.text.specs.CheckInput.{max_checked, state_text, state_read, agree_word, check_text, InputRoomsFit, input_outcome, input_buffer}

-- a word and the outputs of two cascades on x
abbrev pub said_of : List ℕ → ℕ → List Gate → List Gate → ℕ → List ℕ
said_of word n a b x = word ++ ((tab ∷ state_text n (run a x)) ++ ((tab ∷ state_text n (run b x)) ++ (line_feed ∷ [])))

-- a program that gives an input to the cascades of two files, by what it writes
pub record ChecksInput (program : List ℕ → List ℕ → List ℕ → List ℕ) : Type 0 where
  -- what is wrong with the files
  pub refused_told : (first second state : List ℕ) (number file place : ℕ) → FilesRefused first second number file place
      → program first second state ≡ refusal_text number file place
  -- 9 for a text that spells no state that honours the constants
  pub no_state : (first second : List ℕ) (h : Header) (a b : List Gate) → TwoFiles first second h a b → (state : List ℕ) → ((x : ℕ) → Permitted h x → state ≡ state_text h.lines x → ⊥)
      → program first second state ≡ refusal_text bad_state 0 0
  -- `differ` where the cascades differ on the input, else `agree`
  pub differ_told : (first second : List ℕ) (h : Header) (a b : List Gate) → TwoFiles first second h a b → (x : ℕ) → DiffersFor h a b x
      → program first second (state_text h.lines x) ≡ said_of differ_word h.lines a b x
  pub agree_told : (first second : List ℕ) (h : Header) (a b : List Gate) → TwoFiles first second h a b → (x : ℕ) → Permitted h x → (DiffersFor h a b x → ⊥)
      → program first second (state_text h.lines x) ≡ said_of agree_word h.lines a b x

pub record CheckInputLaws : Type 0 where
  -- a state's text has a character for each line, line 0 first: 1 where the line is 1, else 0
  pub state_size : (n x : ℕ) → length (state_text n x) ≡ n
  pub state_line : (n x k : ℕ) → k < n → slice_index (state_text n x) k ≡ digit (cond (bit x k) 1 0)
  -- it is read back, and what is read is the text of a state
  pub state_back : (n x : ℕ) → x < 2 ^ n → state_read n (state_text n x) ≡ some x
  pub state_was : (n : ℕ) (text : List ℕ) (x : ℕ) → state_read n text ≡ some x → (x < 2 ^ n) × (text ≡ state_text n x)
  -- our text is that of such a program, and every such program writes it
  pub checks : ChecksInput check_text
  pub checks_only : (program : List ℕ → List ℕ → List ℕ → List ℕ) → ChecksInput program → (first second state : List ℕ)
      → program first second state ≡ check_text first second state
  -- the call writes the text exactly where the rooms and the buffer are long enough
  pub call : (first second state : List ℕ) (room_a room_b : ℕ) (out : List ℕ) → WritesWhere (InputRoomsFit room_a room_b × (length (check_text first second state) ≤ length out))
      (input_outcome first second state room_a room_b (length out)) (check_text first second state) out (input_buffer first second state room_a room_b out)
  -- every text fits a buffer of 137 bytes
  pub text_fits : (first second state : List ℕ) → length (check_text first second state) ≤ max_checked
  pub room_enough : (first second state : List ℕ) (room_a room_b room : ℕ) → InputRoomsFit room_a room_b → max_checked ≤ room
      → input_outcome first second state room_a room_b room ≡ served (length (check_text first second state))
  pub rows : InputsHold input_rows

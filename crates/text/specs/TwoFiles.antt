-- Two cascade files, each to its last byte: what they are where both are good, and what is wrong with them otherwise.
use Rattle.std.specs.Prelude.{◌≡◌, List, ℕ, ◌≤◌, ◌<◌, length}
use Rattle.circuit.specs.declared.gate.Gate.{Gate}
use Rattle.circuit.specs.declared.header.Header.{Header}
use Rattle.circuit.specs.Refusal.{line_counts_differ, marks_differ, no_room}
use Rattle.circuit.specs.Text.{text_of}
use Rattle.text.specs.WholeFile.{FileWithin, WholeRefused}
use Rattle.text.specs.Compare.{max_file, max_file_gates}

-- each file is that of a cascade with the header h, to its last byte, and neither file is too long
pub record TwoFiles (first second : List ℕ) (h : Header) (a b : List Gate) : Type 0 where
  pub first_good : FileWithin max_file_gates h a
  pub second_good : FileWithin max_file_gates h b
  pub first_text : first ≡ text_of h a
  pub second_text : second ≡ text_of h b
  pub first_bytes : length first ≤ max_file
  pub second_bytes : length second ≤ max_file

-- what is wrong with two files, by number, file and place, where nothing of an earlier kind is
pub data FilesRefused (first second : List ℕ) : ℕ → ℕ → ℕ → Type 0 where
  -- a file of more than 524,288 bytes
  first_long : max_file < length first → FilesRefused first second no_room 1 0
  second_long : length first ≤ max_file → max_file < length second → FilesRefused first second no_room 2 0
  -- the first file
  first_file : (number place : ℕ) → length first ≤ max_file → length second ≤ max_file → WholeRefused max_file_gates first number place → FilesRefused first second number 1 place
  -- the second one, after a first that is good
  in_second_file : (h : Header) (a : List Gate) (number place : ℕ) → length first ≤ max_file → length second ≤ max_file → FileWithin max_file_gates h a → first ≡ text_of h a
      → WholeRefused max_file_gates second number place → FilesRefused first second number 2 place
  -- line counts that differ, and then marks
  lines_differ : (ha : Header) (a : List Gate) (hb : Header) (b : List Gate) → length first ≤ max_file → length second ≤ max_file → FileWithin max_file_gates ha a → first ≡ text_of ha a
      → FileWithin max_file_gates hb b → second ≡ text_of hb b → (ha.lines ≡ hb.lines → ⊥) → FilesRefused first second line_counts_differ 0 0
  other_marks : (ha : Header) (a : List Gate) (hb : Header) (b : List Gate) → length first ≤ max_file → length second ≤ max_file → FileWithin max_file_gates ha a → first ≡ text_of ha a
      → FileWithin max_file_gates hb b → second ≡ text_of hb b → ha.lines ≡ hb.lines → (ha ≡ hb → ⊥) → FilesRefused first second marks_differ 0 0

-- A cascade file of at most so many gates: at the start of a text, and to its last byte.
use Rattle.std.specs.Prelude.{List, ℕ, ◌≤◌, ◌<◌, ◌==◌, nat_le, length}
use Rattle.circuit.specs.declared.gate.Gate.{Gate}
use Rattle.circuit.specs.declared.header.Header.{Header}
use Rattle.circuit.specs.Outcome.{Outcome, served, demand, and_then, Wrong, Fails}
use Rattle.circuit.specs.Refusal.{wrong_form, no_room}
use Rattle.circuit.specs.File.{Reading, reading, line_after_end}
use Rattle.circuit.specs.FileLaws.{FileCascade, FileRefused, ReadAs}

-- a cascade of a file, of at most `most` gates
pub record FileWithin (most : ℕ) (h : Header) (gs : List Gate) : Type 0 where
  pub cascade : FileCascade h gs
  pub few : length gs ≤ most

-- the file at the start of a text: its own refusal, then 10 for more than `most` gates
unfoldable pub file_within : ℕ → List ℕ → Outcome Reading
file_within most text = and_then (reading text) (λ c. demand (nat_le (length c.gates) most) no_room 0 (served c))

-- what is wrong with it: a line of it; or 10 for the text of a cascade of more gates, whatever follows
abbrev pub WithinRefused : ℕ → List ℕ → ℕ → ℕ → Type 0
WithinRefused most text = Wrong (FileRefused text) (ReadAs text) (λ c. Fails (most < length c.gates) no_room 0)

-- a text that starts with the text of what is read, of at most `most` gates
pub record ReadWithin (most : ℕ) (text : List ℕ) (c : Reading) : Type 0 where
  pub read : ReadAs text c
  pub few : length c.gates ≤ most

-- the file to its last byte: what is wrong at the start, then 1 for bytes after its `end`, at the line index after that
unfoldable pub whole_file : ℕ → List ℕ → Outcome Reading
whole_file most text = and_then (file_within most text) (λ c. demand (c.taken == length text) wrong_form (line_after_end c) (served c))

-- what is wrong with it: at the start; or 1 for the text of a cascade and bytes after its `end`, at the line index after that
abbrev pub WholeRefused : ℕ → List ℕ → ℕ → ℕ → Type 0
WholeRefused most text = Wrong (WithinRefused most text) (ReadWithin most text) (λ c. Fails (c.taken < length text) wrong_form (line_after_end c))

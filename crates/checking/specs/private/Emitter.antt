-- What the one-gate emitter writes, and what it is given.
use Rattle.std.specs.Prelude.{◌≡◌, ℕ, ◌+◌, ◌^◌, ◌<◌, ◌≤◌, Bool, true, cond, List, ◌++◌, map, length, ℤ, neg_ℤ, slice_index}
use Rattle.bits.specs.Digits.{bit, lines_in}
use Rattle.circuit.specs.declared.gate.Gate.{Gate}
use Rattle.circuit.specs.Gate.{max_lines, valid, control_count}
use Rattle.checking.specs.Clauses.{plus, minus, implied, clauses_of_gate}
use Rattle.checking.specs.Stored.{stored, word_limit}
use Rattle.checking.specs.Sizes.{gate_sizes}

-- the literal of a variable
abbrev pub literal_word : Bool → ℕ → ℤ
literal_word positive v = cond positive (plus v) (minus v)

-- the current variables, kept as one word a line
abbrev pub by_line : List ℕ → ℕ → ℕ
by_line current line = slice_index current line

-- the literal c of the control on a line, by the mask of the positive ones; and those on the lines of a mask, by rising line
abbrev pub literal_at : List ℕ → ℕ → ℕ → ℤ
literal_at current positive line = literal_word (bit positive line) (by_line current line)

abbrev pub literals_in : List ℕ → ℕ → ℕ → ℕ → List ℤ
literals_in current positive lines n = map (literal_at current positive) (lines_in lines n)

-- every −c, then every OR (−p, c), in words
abbrev pub controls_stored : ℕ → List ℤ → List ℤ
controls_stored p cs = map neg_ℤ cs ++ stored (implied p cs)

-- the gate's clauses in words
abbrev pub gate_stored : ℕ → List ℕ → Gate → List ℤ
gate_stored used current g = stored (clauses_of_gate used (by_line current) g)

-- the current variables of lines below n are variables that fit a word
pub record Currents (n : ℕ) (current : List ℕ) : Type 0 where
  pub lines : n ≤ max_lines
  pub long : n ≤ length current
  pub small : (k : ℕ) → k < n → by_line current k < word_limit

-- a mask of k lines below n
pub record Lines (lines k n : ℕ) : Type 0 where
  pub below : lines < 2 ^ n
  pub count : k ≡ length (lines_in lines n)

-- a gate on n lines, room for its words, and variables that fit a word
pub record Ready (n used : ℕ) (current : List ℕ) (g : Gate) (room : ℕ) : Type 0 where
  pub currents : Currents n current
  pub gate : valid n g ≡ true
  pub few : used + 2 < word_limit
  pub enough : (gate_sizes (control_count g)).words ≤ room

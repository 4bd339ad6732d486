-- What the parts of the emission write, and what they are given.
use Rattle.std.specs.Prelude.{◌≡◌, ℕ, suc, ◌+◌, ◌*◌, ◌^◌, ◌<◌, ◌≤◌, Bool, true, cond, not, List, [], ◌∷◌, ◌++◌, map, length, ℤ, ◌==◌}
use Rattle.bits.specs.Lists.{Put}
use Rattle.circuit.specs.declared.gate.Gate.{Gate}
use Rattle.circuit.specs.declared.header.Header.{Header}
use Rattle.circuit.specs.Gate.{max_lines, max_miter_gates}
use Rattle.circuit.specs.Header.{marked}
use Rattle.circuit.specs.Inverse.{inverse}
use Rattle.circuit.specs.Words.{all_valid}
use Rattle.checking.specs.Clauses.{Clause, OR, plus, input_of, gates_clauses, used_after, current_after, up_from, difference_clause, difference_clauses}
use Rattle.checking.specs.Miter.{miter_gates}
use Rattle.checking.specs.Pair.{constant_clauses, without_junk, used_after_both, pair_clauses}
use Rattle.checking.specs.Stored.{stored_clause, stored, word_limit}
use Rattle.checking.specs.private.Emitter.{by_line}

-- the words hold the current variables of lines below n
abbrev pub Holds : ℕ → List ℕ → (ℕ → ℕ) → Type 0
Holds n words current = (k : ℕ) → k < n → by_line words k ≡ current k

-- a buffer with words enough for the clauses of the constants, which are on lines below n
pub record ConstantsReady (h : Header) (room : ℕ) : Type 0 where
  pub lines : h.lines ≤ max_lines
  pub below : h.constants < 2 ^ h.lines
  pub enough : length (stored (constant_clauses h)) ≤ room

-- ---- gates

-- the gates in their order, or from the last one on
abbrev pub ordered : Bool → List Gate → List Gate
ordered reversed gs = cond reversed (inverse gs) gs

-- gates on n lines, current variables among those numbered so far, and room for the gates' clauses
pub record GatesReady (n : ℕ) (gs : List Gate) (used : ℕ) (current : List ℕ) (room : ℕ) : Type 0 where
  pub lines : n ≤ max_lines
  pub gates : all_valid n gs ≡ true
  pub few : used + 2 * length gs < word_limit
  pub long : n ≤ length current
  pub small : (k : ℕ) → k < n → by_line current k ≤ used
  pub enough : length (stored (gates_clauses used (by_line current) gs)) ≤ room

-- the gates' clauses, from these current variables on, stand at the buffer's start, and the current variables are those after the gates
pub record GatesPut (n : ℕ) (gs : List Gate) (used : ℕ) (start : ℕ → ℕ) (after : List ℕ) (first last : List ℤ) (at end : ℕ) : Type 0 where
  pub variables : end ≡ used_after used gs
  pub currents : Holds n after (current_after used start gs)
  pub small : (k : ℕ) → k < n → by_line after k ≤ end
  pub written : Put at last (stored (gates_clauses used start gs)) first

-- ---- lines

-- the clause of a line's d: two variables that differ are those of a line that is hit
abbrev pub line_stored : ℕ → ℕ → ℕ → List ℤ
line_stored d a b = stored_clause (difference_clause (not (a == b)) d a b)

-- variables that fit a word, and room for the clause
pub record LineReady (d a b room : ℕ) : Type 0 where
  pub difference : d < word_limit
  pub first : a < word_limit
  pub last : b < word_limit
  pub enough : length (line_stored d a b) ≤ room

-- the clauses of the given lines, and those of all that are not junk
abbrev pub lines_stored : List ℕ → List ℕ → ℕ → List ℕ → List ℤ
lines_stored left right used lines = stored (difference_clauses (λ k. not (by_line left k == by_line right k)) (by_line left) (by_line right) used lines)

abbrev pub counted_stored : ℕ → ℕ → List ℕ → List ℕ → ℕ → List ℤ
counted_stored n junk left right used = lines_stored left right used (without_junk junk (up_from 0 n))

pub record LinesReady (n junk : ℕ) (left right : List ℕ) (used room : ℕ) : Type 0 where
  pub lines : n ≤ max_lines
  pub long_left : n ≤ length left
  pub long_right : n ≤ length right
  pub small_left : (k : ℕ) → k < n → by_line left k < word_limit
  pub small_right : (k : ℕ) → k < n → by_line right k < word_limit
  pub few : used + n < word_limit
  pub enough : length (counted_stored n junk left right used) ≤ room

-- the clauses stand at the buffer's start, with one d a line
pub record LinesPut (n junk : ℕ) (left right : List ℕ) (used : ℕ) (first last : List ℤ) (at end : ℕ) : Type 0 where
  pub variables : end ≡ used + length (without_junk junk (up_from 0 n))
  pub written : Put at last (counted_stored n junk left right used) first

-- the OR of `count` d
abbrev pub last_stored : ℕ → ℕ → List ℤ
last_stored count used = stored (OR (map plus (up_from (suc used) count)) ∷ [])

-- ---- a pair

-- the clauses before those of the d: with marks side by side, without marks those of the miter
abbrev pub front_clauses : Header → List Gate → List Gate → List Clause
front_clauses h a b =
    cond (marked h) (constant_clauses h ++ (gates_clauses h.lines input_of a ++ gates_clauses (used_after h.lines a) input_of b))
    (gates_clauses h.lines input_of (miter_gates a b))

-- the variables numbered by them
abbrev pub front_used : Header → List Gate → List Gate → ℕ
front_used h a b = cond (marked h) (used_after_both h a b) (used_after h.lines (miter_gates a b))

-- the two variables of each line that are compared: A's and B's last, or the input and the miter's last
abbrev pub left_after : Header → List Gate → List Gate → ℕ → ℕ
left_after h a b = cond (marked h) (current_after h.lines input_of a) input_of

abbrev pub right_after : Header → List Gate → List Gate → ℕ → ℕ
right_after h a b = cond (marked h) (current_after (used_after h.lines a) input_of b) (current_after h.lines input_of (miter_gates a b))

-- constants below n, gates on n lines, as many at most as a miter has, and room for the whole list
pub record ListReady (h : Header) (a b : List Gate) (room : ℕ) : Type 0 where
  pub lines : h.lines ≤ max_lines
  pub constants : h.constants < 2 ^ h.lines
  pub first : all_valid h.lines a ≡ true
  pub second : all_valid h.lines b ≡ true
  pub few : length a + length b ≤ max_miter_gates
  pub enough : length (stored (pair_clauses h a b)) ≤ room

-- and the inputs in both places
pub record FrontReady (h : Header) (a b : List Gate) (left right : List ℕ) (room : ℕ) : Type 0 where
  pub list : ListReady h a b room
  pub long_left : h.lines ≤ length left
  pub long_right : h.lines ≤ length right
  pub left_inputs : Holds h.lines left input_of
  pub right_inputs : Holds h.lines right input_of

-- they stand at the buffer's start, and the variables to be compared in the two places
pub record FrontPut (h : Header) (a b : List Gate) (left right : List ℕ) (first last : List ℤ) (at used : ℕ) : Type 0 where
  pub variables : used ≡ front_used h a b
  pub left_holds : Holds h.lines left (left_after h a b)
  pub right_holds : Holds h.lines right (right_after h a b)
  pub left_small : (k : ℕ) → k < h.lines → by_line left k ≤ used
  pub right_small : (k : ℕ) → k < h.lines → by_line right k ≤ used
  pub written : Put at last (stored (front_clauses h a b)) first

-- The clause list of two cascades with the same header, by document 02: side by side where they have marks, else that of their miter. And the calls for its sizes and its emission.
use Rattle.std.specs.Prelude.{ℕ, suc, ◌+◌, ◌*◌, Bool, cond, ◌||◌, List, [], ◌∷◌, ◌++◌, map, length, ℤ, nat_le}
use Rattle.bits.specs.Digits.{bit, lines_in}
use Rattle.circuit.specs.declared.gate.Gate.{Gate}
use Rattle.circuit.specs.declared.header.Header.{Header}
use Rattle.circuit.specs.Header.{marked}
use Rattle.circuit.specs.Outcome.{Outcome, served, demand, and_then, written}
use Rattle.circuit.specs.Refusal.{no_room}
use Rattle.circuit.specs.Words.{gates_of, headed_pair_outcome}
use Rattle.checking.specs.declared.clauses.Totals.{Totals}
use Rattle.checking.specs.Miter.{miter_gates}
use Rattle.checking.specs.Clauses.{Clause, OR, plus, minus, input_of, gates_clauses, used_after, current_after, targeted, up_from, difference_clauses, clauses_of, variables_of}
use Rattle.checking.specs.Stored.{stored}
use Rattle.checking.specs.Sizes.{totals, added, gates_sizes, lines_sizes}

-- ---- the list

-- the clause of a constant: its line's input, negated for 0
abbrev pub constant_clause : Header → ℕ → Clause
constant_clause h line = OR (cond (bit h.values line) (plus (input_of line)) (minus (input_of line)) ∷ [])

-- of all constants, by rising line
abbrev pub constant_clauses : Header → List Clause
constant_clauses h = map (constant_clause h) (lines_in h.constants h.lines)

-- those of the lines that are not junk
unfoldable pub without_junk : ℕ → List ℕ → List ℕ
without_junk junk [] = []
without_junk junk (line ∷ lines) = cond (bit junk line) (without_junk junk lines) (line ∷ without_junk junk lines)

-- the lines that count, by rising line
abbrev pub counted_lines : Header → List ℕ
counted_lines h = without_junk h.junk (up_from 0 h.lines)

-- a gate of either cascade targets the line
abbrev pub either_targets : List Gate → List Gate → ℕ → Bool
either_targets a b line = targeted a line || targeted b line

-- the variables numbered after the gates of both, A's first
abbrev pub used_after_both : Header → List Gate → List Gate → ℕ
used_after_both h a b = used_after (used_after h.lines a) b

-- the constants; A's gates, and B's from the same inputs; the d of the lines that count, over the current variables of both; the OR of these d
unfoldable pub side_by_side : Header → List Gate → List Gate → List Clause
side_by_side h a b =
    constant_clauses h
    ++ (gates_clauses h.lines input_of a
    ++ (gates_clauses (used_after h.lines a) input_of b
    ++ (difference_clauses (either_targets a b) (current_after h.lines input_of a) (current_after (used_after h.lines a) input_of b) (used_after_both h a b) (counted_lines h)
    ++ (OR (map plus (up_from (suc (used_after_both h a b)) (length (counted_lines h)))) ∷ []))))

-- a pair without marks has the list of its miter
unfoldable pub pair_clauses : Header → List Gate → List Gate → List Clause
pair_clauses h a b = cond (marked h) (side_by_side h a b) (clauses_of h.lines (miter_gates a b))

-- V: all variables numbered here
unfoldable pub pair_variables : Header → List Gate → List Gate → ℕ
pair_variables h a b = cond (marked h) (used_after_both h a b + length (counted_lines h)) (variables_of h.lines (miter_gates a b))

-- ---- its sizes, summed gate by gate

-- the inputs, the constants, the gates of both, the lines that count, and the last OR; of the miter's list too
unfoldable pub pair_sizes_of : Header → List Gate → List Gate → Totals
pair_sizes_of h a b =
    added (totals h.lines 0 0)
    (added (totals 0 (length (lines_in h.constants h.lines)) (3 * length (lines_in h.constants h.lines)))
    (added (gates_sizes a)
    (added (gates_sizes b)
    (added (lines_sizes (either_targets a b) (counted_lines h)) (totals 0 1 (length (counted_lines h) + 2))))))

-- ---- the calls

-- 2, 14, 11, 6, 7 for each, 8, 15
unfoldable pub pair_sizes_outcome : Header → List ℕ → Header → List ℕ → Outcome Totals
pair_sizes_outcome ha a hb b = and_then (headed_pair_outcome ha a hb b) (λ counts. served (pair_sizes_of ha (gates_of a) (gates_of b)))

-- then 10
unfoldable pub pair_emit_outcome : Header → List ℕ → Header → List ℕ → ℕ → Outcome Totals
pair_emit_outcome ha a hb b room = and_then (pair_sizes_outcome ha a hb b) (λ t. demand (nat_le t.words room) no_room 0 (served t))

-- the stored clauses at the buffer's start
unfoldable pub pair_emit_buffer : Header → List ℕ → Header → List ℕ → List ℤ → List ℤ
pair_emit_buffer ha a hb b out = written (pair_emit_outcome ha a hb b (length out)) (stored (pair_clauses ha (gates_of a) (gates_of b))) out

-- For the contracts of the functions that read at a position of a text: what stands there, and where it ends.
use Rattle.std.specs.Prelude.{ℕ, ◌+◌, Bool, cond, not, ◌&&◌, ◌||◌, List, [], ◌∷◌, Option, None, Some, drop, ◌==◌, nat_le}
use Rattle.circuit.specs.declared.file.ReadCounts.{ReadCounts}
use Rattle.circuit.specs.declared.header.Header.{Header}
use Rattle.circuit.specs.declared.file.scan.Numeral.{Numeral}
use Rattle.circuit.specs.declared.file.scan.ControlRead.{ControlRead}
use Rattle.circuit.specs.declared.file.scan.Seen.{Seen}
use Rattle.circuit.specs.Outcome.{Outcome, served, refused, and_then}
use Rattle.circuit.specs.Text.{tab, line_feed}
use Rattle.circuit.specs.File.{Line, first_line, lines_of, line_size, fields_of, line_of, control_of, controls_from, closed_gate, gate_on, count_on, read_from, counts_of}

-- a byte that ends a field
abbrev pub is_stop : ℕ → Bool
is_stop b = b == tab || b == line_feed

-- the field at the start of a text: up to a tab, an LF or the end
unfoldable pub field_at : List ℕ → List ℕ
field_at [] = []
field_at (b ∷ bs) = cond (is_stop b) [] (b ∷ field_at bs)

-- the line at the start of a text
abbrev pub line_at : List ℕ → Line
line_at r = first_line (lines_of r)

-- the digits of a number below 100
abbrev pub width : ℕ → ℕ
width k = cond (nat_le 10 k) 2 1

-- the number in a field at a position, and the position after the field
abbrev pub numeral_at : ℕ → Outcome ℕ → Option Numeral
numeral_at at (served k) = Some (record { value = k; next = at + width k })
numeral_at at (refused number place) = None

-- the target or control line in a field at a position, and the position after the field
abbrev pub line_next : ℕ → ℕ → ℕ → List ℕ → Outcome Numeral
line_next n i at f = and_then (line_of n i f) (λ k. served (record { value = k; next = at + width k }))

-- the control in a field at a position, and the position after the field
abbrev pub control_next : ℕ → ℕ → ℕ → List ℕ → Outcome ControlRead
control_next n i at f = and_then (control_of n i f) (λ c. served (record { line = c.line; positive = c.positive; next = at + 1 + width c.line }))

-- what a gate line's controls come to, one control later
abbrev pub added : ℕ → Seen → ℕ → Seen
added t s k = record { low = k + 1; rising = s.rising && nat_le s.low k; apart = s.apart && not (k == t) }

-- the fields after the first
abbrev pub later_fields : List (List ℕ) → List (List ℕ)
later_fields [] = []
later_fields (f ∷ fs) = fs

-- the line count of a text, and the position after its line
abbrev pub count_next : List ℕ → Outcome Numeral
count_next r = and_then (count_on (line_at r)) (λ n. served (record { value = n; next = line_size (line_at r) }))

-- the position after the gate line at a position, with index i and after so many gate lines
abbrev pub gate_next : ℕ → ℕ → ℕ → ℕ → List ℕ → Outcome ℕ
gate_next n i count at r = and_then (gate_on n i count (line_at r)) (λ g. served (at + line_size (line_at r)))

-- the same after its target, t
abbrev pub controls_next : ℕ → ℕ → ℕ → ℕ → List ℕ → Outcome ℕ
controls_next n i t at r =
    and_then (and_then (controls_from n i [] (later_fields (fields_of (line_at r).bytes))) (closed_gate i (line_at r).ended t)) (λ g. served (at + line_size (line_at r)))

-- the counts of the cascade with this header whose gate lines start at line `first` and at a position
abbrev pub counts_from : Header → ℕ → ℕ → List ℕ → Outcome ReadCounts
counts_from h first start text = and_then (read_from h first [] start (lines_of (drop start text))) (λ c. served (counts_of c))

-- The sizes of a clause list, summed gate by gate.
use Rattle.std.specs.Prelude.{ℕ, zero, suc, ◌+◌, ◌*◌, Bool, cond, List, [], ◌∷◌}
use Rattle.circuit.specs.declared.gate.Gate.{Gate}
use Rattle.circuit.specs.Gate.{max_miter_gates, control_count}
use Rattle.circuit.specs.Outcome.{Outcome, served, and_then}
use Rattle.circuit.specs.Words.{gates_of, check_outcome}
use Rattle.checking.specs.declared.clauses.Totals.{Totals}
use Rattle.checking.specs.Clauses.{targeted, up_from}

abbrev pub totals : ℕ → ℕ → ℕ → Totals
totals variables clauses words = record { variables = variables; clauses = clauses; words = words }

abbrev pub added : Totals → Totals → Totals
added a b = totals (a.variables + b.variables) (a.clauses + b.clauses) (a.words + b.words)

-- of k + 2 clauses: one of k + 1 literals, k of two, one of three
abbrev pub many_sizes : ℕ → Totals
many_sizes k = totals 2 (k + 2) (k + 3 + 4 * k + 5)

-- a gate with k controls
abbrev pub gate_sizes : ℕ → Totals
gate_sizes zero = totals 1 1 4
gate_sizes (suc zero) = totals 1 1 5
gate_sizes (suc (suc k)) = many_sizes (suc (suc k))

unfoldable pub gates_sizes : List Gate → Totals
gates_sizes [] = totals 0 0 0
gates_sizes (g ∷ gs) = added (gate_sizes (control_count g)) (gates_sizes gs)

-- a line's d, with a clause of three literals where a gate targets the line, else of one
abbrev pub line_sizes : Bool → Totals
line_sizes hit = totals 1 1 (cond hit 5 3)

unfoldable pub lines_sizes : (ℕ → Bool) → List ℕ → Totals
lines_sizes hit [] = totals 0 0 0
lines_sizes hit (line ∷ lines) = added (line_sizes (hit line)) (lines_sizes hit lines)

-- the inputs, the gates, the lines, and the last OR
unfoldable pub sizes_of : ℕ → List Gate → Totals
sizes_of n gs = added (totals n 0 0) (added (gates_sizes gs) (added (lines_sizes (targeted gs) (up_from 0 n)) (totals 0 1 (n + 2))))

-- 2, 11, 6, 7
unfoldable pub sizes_outcome : ℕ → List ℕ → Outcome Totals
sizes_outcome n ws = and_then (check_outcome n ws max_miter_gates) (λ k. served (sizes_of n (gates_of ws)))

-- For the contracts of the loops that make the masks, one state at a time.
use Rattle.std.specs.Prelude.{ℕ, List, [], ◌∷◌, bit_and}
use Rattle.circuit.specs.declared.gate.Gate.{Gate}
use Rattle.circuit.specs.Gate.{max_lines, apply}
use Rattle.checking.specs.Faults.{Fault, gate_faults, mask_where}

-- the lines that a state leaves in the mask of a fault of a gate: those whose pattern matches
unfoldable pub kept : Fault → Gate → ℕ → ℕ
kept fault g s = mask_where max_lines (λ k. fault.pattern k g s)

-- the masks of a gate after one state more, and `more` of those behind them
abbrev pub narrowed_gate : List Fault → Gate → ℕ → (List ℕ → List ℕ) → List ℕ → List ℕ
narrowed_gate [] g s more ms = more ms
narrowed_gate (fault ∷ faults) g s more [] = []
narrowed_gate (fault ∷ faults) g s more (m ∷ ms) = bit_and m (kept fault g s) ∷ narrowed_gate faults g s more ms

-- the masks of gates after one state more; s is the state before the first gate
unfoldable pub narrowed : List Gate → ℕ → List ℕ → List ℕ
narrowed [] s ms = ms
narrowed (g ∷ gs) s ms = narrowed_gate gate_faults g s (narrowed gs (apply g s)) ms

unfoldable pub narrowed_by : List Gate → List ℕ → List ℕ → List ℕ
narrowed_by gs [] ms = ms
narrowed_by gs (x ∷ xs) ms = narrowed_by gs xs (narrowed gs x ms)

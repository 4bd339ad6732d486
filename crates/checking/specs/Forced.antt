-- The assignment that an input forces.
use Rattle.std.specs.Prelude.{ℕ, Bool, true, List, [], ◌∷◌, ◌++◌, map}
use Rattle.std.specs.Bool.{xor}
use Rattle.bits.specs.Digits.{bit}
use Rattle.circuit.specs.declared.gate.Gate.{Gate}
use Rattle.circuit.specs.Gate.{Control, controls_of, all_met, apply}
use Rattle.circuit.specs.Run.{run}
use Rattle.checking.specs.Clauses.{up_from}

-- the values that an input forces: of a gate's new variables, by its controls and its target, for the state s before it
abbrev pub gate_values : ℕ → ℕ → List Control → List Bool
gate_values s target [] = xor (bit s target) true ∷ []
gate_values s target (c ∷ []) = xor (bit s target) (all_met s (c ∷ [])) ∷ []
gate_values s target (c ∷ d ∷ cs) = all_met s (c ∷ d ∷ cs) ∷ xor (bit s target) (all_met s (c ∷ d ∷ cs)) ∷ []

unfoldable pub gates_values : ℕ → List Gate → List Bool
gates_values s [] = []
gates_values s (g ∷ gs) = gate_values s g.target (controls_of g) ++ gates_values (apply g s) gs

-- of the d: whether two states differ on a line
abbrev pub differences : ℕ → ℕ → List ℕ → List Bool
differences s r lines = map (λ (line : ℕ). xor (bit s line) (bit r line)) lines

-- of the inputs and the gates' variables, and of all
unfoldable pub traced : ℕ → ℕ → List Gate → List Bool
traced n s gs = map (bit s) (up_from 0 n) ++ gates_values s gs

unfoldable pub forced : ℕ → ℕ → List Gate → List Bool
forced n s gs = traced n s gs ++ differences s (run gs s) (up_from 0 n)

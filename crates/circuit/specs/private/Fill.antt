-- For the contracts of the functions that read a text that was judged good: what stands at a position.
use Rattle.std.specs.Prelude.{◌≡◌, ℕ, ◌<◌, true, List, [], ◌∷◌, ◌++◌, drop}
use Rattle.circuit.specs.declared.gate.Gate.{Gate}
use Rattle.circuit.specs.Gate.{max_lines, valid, Control, Inside}
use Rattle.circuit.specs.Words.{all_valid}
use Rattle.circuit.specs.Text.{line_feed, number_text, controls_text, gate_line, gate_lines}

-- these bytes, and then anything
pub record StandsAt (text : List ℕ) (at : ℕ) (bytes : List ℕ) : Type 0 where
  pub rest : List ℕ
  pub is : drop at text ≡ bytes ++ rest

-- a number below 100, and after it a byte that is below the digits
pub record NumberAt (text : List ℕ) (at k : ℕ) : Type 0 where
  pub small : k < 100
  pub after : ℕ
  pub low : after < 48
  pub stands : StandsAt text at (number_text k ++ (after ∷ []))

-- controls, each after a tab, and the LF of their line
pub record ControlsAt (text : List ℕ) (at : ℕ) (cs : List Control) : Type 0 where
  pub lines : Inside max_lines cs
  pub stands : StandsAt text at (controls_text cs ++ (line_feed ∷ []))

-- the line of a gate
pub record GateAt (text : List ℕ) (at : ℕ) (g : Gate) : Type 0 where
  pub good : valid max_lines g ≡ true
  pub stands : StandsAt text at (gate_line g)

-- the lines of gates
pub record GatesAt (text : List ℕ) (at : ℕ) (gs : List Gate) : Type 0 where
  pub good : all_valid max_lines gs ≡ true
  pub stands : StandsAt text at (gate_lines gs)

-- For the contracts of the functions that write at the start of a buffer.
use Rattle.std.specs.Prelude.{ℕ, Bool, cond, List, ◌+◌, ◌∷◌}
use Rattle.std.specs.List.{flat_map}
use Rattle.bits.specs.Digits.{bit, lines_in}
use Rattle.circuit.specs.declared.gate.Gate.{Gate}
use Rattle.circuit.specs.Gate.{max_lines}
use Rattle.circuit.specs.Text.{tab, control_text, const_line, junk_line}

-- a gate with these masks
abbrev pub mask_gate : ℕ → ℕ → Gate
mask_gate positive negative = record { positive = positive; negative = negative; target = 0 }

-- a tab and the control on line k, and on line 10 + k, by digit k of a mask of the positive ones
abbrev pub control_piece : ℕ → ℕ → List ℕ
control_piece positive k = tab ∷ control_text (record { line = k; positive = bit positive k })

abbrev pub high_piece : ℕ → ℕ → List ℕ
high_piece positive k = tab ∷ control_text (record { line = 10 + k; positive = bit positive k })

-- the controls on the lines of a mask, by rising line
abbrev pub low_controls : ℕ → ℕ → List ℕ
low_controls positive lines = flat_map (control_piece positive) (lines_in lines max_lines)

-- the same, where digit k of both masks is line 10 + k
abbrev pub high_controls : ℕ → ℕ → List ℕ
high_controls positive lines = flat_map (high_piece positive) (lines_in lines max_lines)

-- the line of a mark, of a constant or else of a junk line
abbrev pub mark_line : Bool → ℕ → Bool → List ℕ
mark_line constant k value = cond constant (const_line k value) (junk_line k)

-- the lines of the marks of a mask, by rising line
abbrev pub mark_text : Bool → ℕ → ℕ → List ℕ
mark_text constant mask values = flat_map (λ k. mark_line constant k (bit values k)) (lines_in mask max_lines)

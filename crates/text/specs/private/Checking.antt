-- For the contracts of the functions that check one input: what their answers say.
use Rattle.std.specs.Prelude.{◌≡◌, ℕ, ◌≤◌, Some, None, Result, Ok, Err}
use Rattle.std.specs.declared.option.Option.{Option as Found}
use Rattle.std.proofs.Math.Option.{Option, none, some}
use Rattle.circuit.specs.Gate.{max_lines}
use Rattle.text.specs.declared.input.Outputs.{Outputs}
use Rattle.text.specs.declared.refused.FileRefusal.{FileRefusal}
use Rattle.text.specs.FileOutcome.{FileOutcome, answer_of}

abbrev pub of_state : Found ℕ → Option ℕ
of_state (Some x) = some x
of_state None = none

-- the lines that were answered are few
abbrev pub CheckedReady : Result Outputs FileRefusal → Type 0
CheckedReady (Ok outputs) = outputs.header.lines ≤ max_lines
CheckedReady (Err r) = Unit {0}

pub record SaysChecked (r : Result Outputs FileRefusal) (c : FileOutcome Outputs) : Type 0 where
  pub is : answer_of r ≡ c
  pub ready : CheckedReady r

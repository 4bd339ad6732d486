-- A reduction's answer in C: gates is the count that then stands.
use Rattle.std.specs.Prelude.{ℕ}
use Rattle.circuit.specs.Outcome.{Outcome, served, refused}
use Rattle.checking.specs.Reduce.{Reduced}
use Rattle.capi.specs.declared.reduce.CascadeReduceAnswer.{CascadeReduceAnswer}

-- of so many gates; a refusal leaves that count
abbrev pub reduce_answer : ℕ → Outcome (Reduced ℕ) → CascadeReduceAnswer
reduce_answer before (served r) = record { number = 0; place = 0; gates = r.left; pairs = r.pairs; merges = r.merges }
reduce_answer before (refused number place) = record { number = number; place = place; gates = before; pairs = 0; merges = 0 }

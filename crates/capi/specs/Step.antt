-- A step's answer in C: found is 1 where it found something, kind is 0 for a pair, 1 for a drop, 2 for a turn, and gates is the count that then stands.
use Rattle.std.specs.Prelude.{ℕ}
use Rattle.circuit.specs.Outcome.{Outcome, served, refused}
use Rattle.checking.specs.Match.{kind_number}
use Rattle.checking.specs.Step.{Step, found, none}
use Rattle.capi.specs.declared.step.CascadeStepAnswer.{CascadeStepAnswer}

-- of so many gates; none and a refusal leave that count
abbrev pub step_answer : ℕ → Outcome (Step ℕ) → CascadeStepAnswer
step_answer before (served (found i j k gates)) = record { number = 0; place = 0; found = 1; i = i; j = j; kind = kind_number k; gates = gates }
step_answer before (served none) = record { number = 0; place = 0; found = 0; i = 0; j = 0; kind = 0; gates = before }
step_answer before (refused number place) = record { number = number; place = place; found = 0; i = 0; j = 0; kind = 0; gates = before }

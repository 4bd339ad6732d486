-- An output state in C.
use Rattle.std.specs.Prelude.{ℕ}
use Rattle.circuit.specs.Outcome.{Outcome, served, refused}
use Rattle.capi.specs.declared.run.CascadeRunAnswer.{CascadeRunAnswer}

abbrev pub run_answer : Outcome ℕ → CascadeRunAnswer
run_answer (served s) = record { number = 0; place = 0; state = s }
run_answer (refused number place) = record { number = number; place = place; state = 0 }

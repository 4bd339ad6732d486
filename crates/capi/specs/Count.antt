-- A number of gates in C: number 0 for a served call, else the refusal's; a value that a case does not have is 0.
use Rattle.std.specs.Prelude.{ℕ}
use Rattle.circuit.specs.Outcome.{Outcome, served, refused}
use Rattle.capi.specs.declared.count.CascadeCountAnswer.{CascadeCountAnswer}

abbrev pub count_answer : Outcome ℕ → CascadeCountAnswer
count_answer (served k) = record { number = 0; place = 0; gates = k }
count_answer (refused number place) = record { number = number; place = place; gates = 0 }

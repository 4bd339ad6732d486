-- The totals of a clause list in C.
use Rattle.circuit.specs.Outcome.{Outcome, served, refused}
use Rattle.checking.specs.declared.clauses.Totals.{Totals}
use Rattle.capi.specs.declared.sizes.CascadeSizesAnswer.{CascadeSizesAnswer}

abbrev pub sizes_answer : Outcome Totals → CascadeSizesAnswer
sizes_answer (served t) = record { number = 0; place = 0; variables = t.variables; clauses = t.clauses; words = t.words }
sizes_answer (refused number place) = record { number = number; place = place; variables = 0; clauses = 0; words = 0 }

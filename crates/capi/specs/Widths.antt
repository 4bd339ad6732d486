-- A number of words in C.
use Rattle.std.specs.Prelude.{ℕ}
use Rattle.circuit.specs.Outcome.{Outcome, served, refused}
use Rattle.capi.specs.declared.widths.CascadeWordsAnswer.{CascadeWordsAnswer}

abbrev pub words_answer : Outcome ℕ → CascadeWordsAnswer
words_answer (served k) = record { number = 0; place = 0; words = k }
words_answer (refused number place) = record { number = number; place = place; words = 0 }

-- Answers of the calls that compare two cascades in C.
use Rattle.std.specs.Prelude.{Bool, true, false, cond, nat_lt}
use Rattle.circuit.specs.Outcome.{Outcome, served, refused}
use Rattle.circuit.specs.declared.words.Counts.{Counts}
use Rattle.checking.specs.Compare.{Difference, none, lowest}
use Rattle.capi.specs.declared.compare.CascadeStateAnswer.{CascadeStateAnswer}
use Rattle.capi.specs.declared.compare.CascadeDiffersAnswer.{CascadeDiffersAnswer}
use Rattle.capi.specs.declared.compare.CascadeFewerAnswer.{CascadeFewerAnswer}

-- found is 1 where the two differ on some state
abbrev pub state_answer : Outcome Difference → CascadeStateAnswer
state_answer (served (lowest x)) = record { number = 0; place = 0; found = 1; state = x }
state_answer (served none) = record { number = 0; place = 0; found = 0; state = 0 }
state_answer (refused number place) = record { number = number; place = place; found = 0; state = 0 }

-- differs is 1 where the two differ on the state
abbrev pub differs_answer : Outcome Bool → CascadeDiffersAnswer
differs_answer (served true) = record { number = 0; place = 0; differs = 1 }
differs_answer (served false) = record { number = 0; place = 0; differs = 0 }
differs_answer (refused number place) = record { number = number; place = place; differs = 0 }

-- second is 1 exactly where the second has fewer gates; gates is the gate count of the one that is picked
abbrev pub fewer_answer : Outcome Counts → CascadeFewerAnswer
fewer_answer (served counts) =
    cond (nat_lt counts.second counts.first)
    (record { number = 0; place = 0; second = 1; gates = counts.second })
    (record { number = 0; place = 0; second = 0; gates = counts.first })
fewer_answer (refused number place) = record { number = number; place = place; second = 0; gates = 0 }

-- `capi::compare::cascade_fewer_gates` meets its contract. Assumes nothing.
use Rattle.std.proofs.Common.{sym}
use Rattle.capi.proofs.compare.Laws.{fewer_refused, fewer_picked}
use Rattle.capi.proofs.compare.cascade_fewer_gates.Goals as goal

pub returns-in-Some : goal.returns-in-Some
returns-in-Some c = rw (c.number.ensures, c.place.ensures) (fewer_refused _ _ _ _ _ _ (sym c.in-Some.ensures))

pub returns : goal.returns
returns c = fewer_picked _ _ _ _ _ (sym c.in_default.ensures) c.fewer_gates-words.ensures.contents

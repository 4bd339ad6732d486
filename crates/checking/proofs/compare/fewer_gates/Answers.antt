-- `checking::compare::fewer_gates` meets its contract. Assumes nothing.
use Rattle.std.proofs.Common.{ℕ, sym, ap, arith}
use Rattle.checking.proofs.lemmas.compare.Laws.{picks_refused, picks_first, picks_second}
use Rattle.checking.proofs.compare.fewer_gates.Goals as goal

pub returns-in-Err : goal.returns-in-Err
returns-in-Err c = picks_refused _ _ _ _ _ _ _ _ (sym c.in-Err.ensures) (ap (λ (x : ℕ). (c.args.a.ref_ptr.0, x)) (omega arith))

pub returns-then-counts : goal.returns-then-counts
returns-then-counts c = picks_first _ _ _ _ _ _ (sym c.in-Ok.ensures) c.if-counts.true

pub returns-else-counts : goal.returns-else-counts
returns-else-counts c = picks_second _ _ _ _ _ _ (sym c.in-Ok.ensures) c.if-counts.false

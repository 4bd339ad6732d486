-- `checking::miter::miter` meets its contract. Assumes nothing.
use Rattle.std.proofs.Common.{sym, refl, arith}
use Rattle.circuit.specs.Outcome.{served}
use Rattle.checking.proofs.lemmas.miter.Laws.{miter_told, miter_made, miter_written, pair_few}
use Rattle.checking.proofs.miter.miter.Goals as goal

pub overflow_add-result : goal.overflow_add-result
overflow_add-result c = let (p, q) = pair_few _ _ _ _ _ (sym c.in_ok-counts.ensures) in omega arith

pub returns : goal.returns
returns c =
    let good = sym c.in_ok-counts.ensures in
    miter_told _ _ _ _ _ _ (served _) _ refl (miter_made _ _ _ _ _ _ good c.if-out-a.false)
    (miter_written c.args.na c.args.a.now c.args.nb c.args.b.now _ good c.args.out.now c.put-at.new.out c.put_inverse.new.out _ c.if-out-a.false c.put-at.ensures c.put_inverse.ensures)

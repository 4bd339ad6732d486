-- `text::dimacs::put_closed` meets its contract. Assumes nothing.
use mathlib.Core.Path.{sym}
use Rattle.circuit.proofs.Promises.{put_as}
use borrow.Author.Rules.{rules}
use Rattle.text.proofs.put.Laws.{then_put}
use Rattle.text.proofs.dimacs.Loops.{body_some}
use Rattle.text.proofs.dimacs.put_closed.Goals as goal

pub returns : goal.returns
returns c =
    then_put (put_as _ _ _ _ _ (sym (body_some c.args.literals.now (search rules))) c.put_literals-at.ensures) c.put_literals-at.auto.out c.put-2.ensures c.put-2.auto.out

-- `text::dimacs::put_literals` meets its contract. Assumes nothing.
use native.Mathlib.Omega.{arith}
use borrow.Author.Rules.{rules}
use Rattle.text.proofs.put.Laws.{filling_room, filling_on, filling_done}
use Rattle.text.proofs.dimacs.Loops.{literals_step, literals_end}
use Rattle.text.proofs.dimacs.put_literals.Goals as goal

pub put_literal-at-requires : goal.put_literal-at-requires
put_literal-at-requires c = filling_room c.loop-literal.invariant _ _ (literals_step c.args.literals.now c.loop-literal.literal-index (omega arith) _ (search rules))

pub loop-literal-preserved : goal.loop-literal-preserved
loop-literal-preserved c = filling_on c.loop-literal.invariant (literals_step c.args.literals.now c.loop-literal.literal-index (omega arith) _ (search rules)) c.put_literal-at.ensures c.put_literal-at.auto.out

pub returns : goal.returns
returns c = filling_done c.loop-literal.invariant (literals_end c.args.literals.now c.loop-literal.literal-index (omega arith))

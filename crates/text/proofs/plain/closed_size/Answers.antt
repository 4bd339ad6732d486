-- `text::plain::closed_size` meets its contract. Assumes nothing.
use native.Mathlib.Omega.{arith}
use borrow.Author.Rules.{rules}
use Rattle.text.proofs.plain.Laws.{closing_start, closing_room, closing_on, closing_done}
use Rattle.text.proofs.plain.closed_size.Goals as goal

pub loop-literal-init : goal.loop-literal-init
loop-literal-init c = closing_start _ c.requires.few_literals c.requires.literals_within

pub overflow_add-size : goal.overflow_add-size
overflow_add-size c = omega (arith, closing_room c.loop-literal.invariant (omega arith) (search rules) c.literal_size.ensures.size)

pub loop-literal-preserved : goal.loop-literal-preserved
loop-literal-preserved c = closing_on c.loop-literal.invariant (omega arith) (search rules) c.literal_size.ensures.size

pub returns : goal.returns
returns c = closing_done c.loop-literal.invariant (omega arith) (search rules)

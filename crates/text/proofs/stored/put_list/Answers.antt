-- `text::stored::put_list` meets its contract. Assumes nothing.
use borrow.Author.Rules.{rules}
use Rattle.text.proofs.put.Laws.{filling_room, filling_on, filling_done}
use Rattle.text.proofs.stored.Laws.{text_step, no_text}
use Rattle.text.proofs.stored.put_list.Goals as goal

pub put_clause-at-requires : goal.put_clause-at-requires
put_clause-at-requires c = filling_room c.loop-record.invariant.2 _ _ (text_step c.in-Some.record.kind c.in-Some.record.literals.now c.in-Some.ensures.steps.0 _ (search rules))

pub loop-record-preserved : goal.loop-record-preserved
loop-record-preserved c = (c.in-Some.ensures.goes.keeps, tt, filling_on c.loop-record.invariant.2 (text_step c.in-Some.record.kind c.in-Some.record.literals.now c.in-Some.ensures.steps.0 _ (search rules)) c.put_clause-at.ensures c.put_clause-at.auto.out)

pub returns : goal.returns
returns c = filling_done c.loop-record.invariant.2 (no_text c.in-None.ensures.steps.0.0)

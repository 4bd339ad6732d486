-- `text::plain::put_list` meets its contract. Assumes nothing.
use mathlib.Core.Path.{subst}
use lib.IntN.{ℤ}
use borrow.Author.Rules.{rules}
use Rattle.text.specs.private.Words.{Plainable}
use Rattle.text.proofs.put.Laws.{filling_room, filling_on, filling_done}
use Rattle.text.proofs.stored.Laws.{plain_text_step, no_text, no_plain}
use Rattle.text.proofs.plain.put_list.Goals as goal

pub put_record-at-requires : goal.put_record-at-requires
put_record-at-requires c =
    record {
      plainable = subst (λ (z : ℤ). Plainable z c.in-Some.record.literals.now) (search rules) c.in-Some.ensures.steps.1;
      out_room = filling_room c.loop-record.invariant.2 _ _ (plain_text_step c.in-Some.record.kind c.in-Some.record.literals.now c.in-Some.ensures.steps.0 _ (search rules));
    }

pub loop-record-preserved : goal.loop-record-preserved
loop-record-preserved c = (c.in-Some.ensures.goes.keeps, tt, filling_on c.loop-record.invariant.2 (plain_text_step c.in-Some.record.kind c.in-Some.record.literals.now c.in-Some.ensures.steps.0 _ (search rules)) c.put_record-at.ensures c.put_record-at.auto.out)

pub returns : goal.returns
returns c = filling_done c.loop-record.invariant.2 (no_text (no_plain c.in-None.ensures.steps.0.0))

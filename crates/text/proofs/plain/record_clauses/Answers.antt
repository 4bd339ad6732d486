-- `text::plain::record_clauses` meets its contract. Assumes nothing.
use mathlib.Core.Path.{sym, ap, ◌∙◌}
use lib.ListN.{length}
use Rattle.text.proofs.plain.Laws.{xor_kind, or_record, two_literals, three_literals, pair_count, triple_count}
use Rattle.text.proofs.plain.record_clauses.Goals as goal

pub returns-then-literals-eq2 : goal.returns-then-literals-eq2
returns-then-literals-eq2 c =
    sym (ap length (two_literals _ _ c.requires (xor_kind c.args.kind c.ranges.kind c.if-kind-eq1.true) c.if-literals-eq2.true).record_is ∙ pair_count _ _)

pub returns-then-kind-eq1 : goal.returns-then-kind-eq1
returns-then-kind-eq1 c =
    sym (ap length (three_literals _ _ c.requires (xor_kind c.args.kind c.ranges.kind c.if-kind-eq1.true) c.if-literals-eq2.false).record_is ∙ triple_count _ _ _)

pub returns : goal.returns
returns c = sym (ap length (or_record c.args.kind _ c.if-kind-eq1.false))

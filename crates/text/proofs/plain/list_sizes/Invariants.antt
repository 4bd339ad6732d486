-- `text::plain::list_sizes` meets its contract. The loop's invariant: the bytes and the clauses counted, and those of the clauses left. Assumes nothing.
use Rattle.text.specs.private.Words.{stored_in}
use Rattle.text.proofs.stored.Sizing.{Sizing}
use Rattle.text.proofs.plain.list_sizes.Given as goal

abbrev pub invariant-loop-record : goal.invariant-loop-record
invariant-loop-record l =
    (goal.iterator-loop-record).can_next l.record-iterator
    × (goal.iterator-loop-record).is_finite l.record-iterator
    × Sizing l.words l.bytes l.clauses (stored_in l.record-iterator.words.now)

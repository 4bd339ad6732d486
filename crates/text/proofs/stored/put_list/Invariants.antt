-- `text::stored::put_list` meets its contract. The loop's invariant: the header and the clauses that were passed stand at the buffer's start. Assumes nothing.
use mathlib.Core.List.{◌++◌}
use Rattle.text.specs.Dimacs.{header_text, clauses_text}
use Rattle.text.specs.private.Words.{stored_in}
use Rattle.text.proofs.put.Laws.{Filling}
use Rattle.text.proofs.stored.put_list.Given as goal

abbrev pub invariant-loop-record : goal.invariant-loop-record
invariant-loop-record l =
    (goal.iterator-loop-record).can_next l.record-iterator
    × (goal.iterator-loop-record).is_finite l.record-iterator
    × Filling (header_text l.variables l.clauses ++ clauses_text (stored_in l.words)) l.fn.out l.out l.at (clauses_text (stored_in l.record-iterator.words.now))

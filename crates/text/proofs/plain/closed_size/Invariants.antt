-- `text::plain::closed_size` meets its contract. The loop's invariant: the bytes counted, and those of the literals left. Assumes nothing.
use Rattle.text.proofs.plain.Laws.{Closing}
use Rattle.text.proofs.plain.closed_size.Given as goal

abbrev pub invariant-loop-literal : goal.invariant-loop-literal
invariant-loop-literal l = Closing l.literals l.size l.literal-index

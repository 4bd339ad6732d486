-- `circuit::file::text_size` meets its contract. The loop's invariant: the lines that were passed are counted. Assumes nothing.
use Rattle.circuit.proofs.lemmas.file.Writes.{Sizing}
use Rattle.circuit.proofs.file.text_size.Given as goal

abbrev pub invariant-loop-i : goal.invariant-loop-i
invariant-loop-i l = Sizing l.fn.h l.words l.size l.i

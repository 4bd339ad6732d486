-- `circuit::file::put_lines` meets its contract. The loop's invariant: the lines that were passed stand at the buffer's start. Assumes nothing.
use Rattle.circuit.proofs.lemmas.file.Writes.{Typing}
use Rattle.circuit.proofs.file.put_lines.Given as goal

abbrev pub invariant-loop-i : goal.invariant-loop-i
invariant-loop-i l = Typing l.words l.initial.out l.out l.at l.i

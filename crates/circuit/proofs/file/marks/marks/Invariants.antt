-- `circuit::file::marks::marks` meets its contract. The loop's invariant: the lines that were passed gave the marks, and what is left of the text decides. Assumes nothing.
use Rattle.std.proofs.Common.{◌-◌, length}
use Rattle.circuit.proofs.lemmas.file.marks.Steps.{Grouping}
use Rattle.circuit.proofs.file.marks.marks.Given as goal

abbrev pub invariant-loop-read : goal.invariant-loop-read
invariant-loop-read l = Grouping l.constant l.n l.first l.start l.text l.read

abbrev pub decreases-loop-read : goal.decreases-loop-read
decreases-loop-read l = length l.text - l.read.next

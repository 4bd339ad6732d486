-- `circuit::file::judge` meets its contract. The loop's invariant: the lines that were passed gave gates, and what is left of the text decides. Assumes nothing.
use Rattle.std.proofs.Common.{◌-◌, length}
use Rattle.circuit.proofs.lemmas.file.Steps.{Judging}
use Rattle.circuit.proofs.file.judge.Given as goal

abbrev pub invariant-loop-at : goal.invariant-loop-at
invariant-loop-at l = Judging l.h l.first l.text l.start l.at l.gates

abbrev pub decreases-loop-at : goal.decreases-loop-at
decreases-loop-at l = length l.text - l.at

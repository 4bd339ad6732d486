-- `circuit::file::fill::fill` meets its contract. The loop's invariant: the words of the gates that were passed stand at the buffer's start, and the other lines at the position. Assumes nothing.
use Rattle.std.proofs.Common.{◌≡◌, List, length}
use Rattle.circuit.specs.declared.gate.Gate.{Gate}
use Rattle.circuit.specs.private.Fill.{GatesAt}
use Rattle.circuit.proofs.lemmas.file.fill.Laws.{Filling}
use Rattle.circuit.proofs.file.fill.fill.Given as goal

abbrev pub invariant-loop-i : goal.invariant-loop-i
invariant-loop-i l = (gs : List Gate) → GatesAt l.text l.start gs → length gs ≡ l.gates → Filling l.text gs l.initial.out l.at l.i l.out

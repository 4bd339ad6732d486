-- `text::dimacs::put_literals` meets its contract. The loop's invariant: the literals that were passed stand at the buffer's start. Assumes nothing.
use lib.ListN.{drop}
use Rattle.text.specs.Dimacs.{literals_text}
use Rattle.text.proofs.put.Laws.{Filling}
use Rattle.text.proofs.dimacs.put_literals.Given as goal

abbrev pub invariant-loop-literal : goal.invariant-loop-literal
invariant-loop-literal l = Filling (literals_text l.literals) l.fn.out l.out l.at (literals_text (drop l.literal-index l.literals))

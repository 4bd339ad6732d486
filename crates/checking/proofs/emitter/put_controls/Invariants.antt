-- `checking::emitter::put_controls` meets its contract. The loop's invariant: what is due for the lines before i stands, and `left` has the others. Assumes nothing.
use lib.Bits.{bit_or}
use Rattle.checking.proofs.lemmas.emitter.Parts.{Walk}
use Rattle.checking.proofs.emitter.put_controls.Given as goal

abbrev pub invariant-loop-left : goal.invariant-loop-left
invariant-loop-left l = Walk l.current l.positive (bit_or l.positive l.negative) l.k l.n l.p l.initial.out l.out l.left l.i

abbrev pub decreases-loop-left : goal.decreases-loop-left
decreases-loop-left l = l.left

-- `text::input::put_state` meets its contract. The loop's invariant: the characters of the lines that were passed stand at the buffer's start. Assumes nothing.
use Rattle.text.proofs.input.Laws.{Stating}
use Rattle.text.proofs.input.put_state.Given as goal

abbrev pub invariant-loop-i : goal.invariant-loop-i
invariant-loop-i l = Stating l.n l.x l.initial.out l.out l.left l.i

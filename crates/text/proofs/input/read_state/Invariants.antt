-- `text::input::read_state` meets its contract. The loop's invariant: the characters that were passed spell the state so far. Assumes nothing.
use Rattle.std.specs.Iterator.Adapters.{rev_source}
use Rattle.std.specs.Slice.Iter.{iter_rest}
use Rattle.text.proofs.input.Laws.{Spelling}
use Rattle.text.proofs.input.read_state.Given as goal

abbrev pub invariant-loop-b : goal.invariant-loop-b
invariant-loop-b l = Spelling l.n l.text l.x (iter_rest (rev_source l.b-iterator))

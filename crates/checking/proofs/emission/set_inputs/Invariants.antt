-- `checking::emission::set_inputs` meets its contract. The loop's invariant: lines below k have their inputs. Assumes nothing.
use Rattle.checking.specs.Clauses.{input_of}
use Rattle.checking.specs.private.Emission.{Holds}
use Rattle.checking.proofs.emission.set_inputs.Given as goal

abbrev pub invariant-loop-k : goal.invariant-loop-k
invariant-loop-k l = Holds l.k l.current input_of

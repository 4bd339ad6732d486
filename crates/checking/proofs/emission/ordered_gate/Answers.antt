-- `checking::emission::ordered_gate` meets its contract. Assumes nothing.
use Rattle.circuit.specs.Words.{gates_of}
use Rattle.circuit.proofs.Promises.{gates_length}
use Rattle.checking.proofs.lemmas.emission.Gates.{ordered_last}
use Rattle.checking.proofs.emission.ordered_gate.Goals as goal

pub returns-then-reversed : goal.returns-then-reversed
returns-then-reversed c =
    ordered_last (gates_of c.args.words.now) c.args.i _ c.gate_at.result c.args.reversed c.if-reversed.true c.requires (gates_length c.args.words.now) c.gate_at.ensures

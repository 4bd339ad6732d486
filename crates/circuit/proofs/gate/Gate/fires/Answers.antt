-- `circuit::gate::Gate::fires` meets its contract. Assumes nothing.
use Rattle.circuit.specs.Gate.{fires}
use Rattle.circuit.proofs.lemmas.gate.Effect.{fires_missed}
use Rattle.circuit.proofs.gate.Gate.fires.Goals as goal

pub returns : goal.returns
unfolding fires
returns c = fires_missed c.args.state c.args.self.positive c.args.self.negative

-- `checking::faults::narrow_all` meets its contract.
use Rattle.std.proofs.Common.{sym, refl, ◌∙◌, arith}
use Rattle.circuit.specs.Words.{gates_of}
use Rattle.checking.proofs.lemmas.faults.Loops.{states_next, states_end}
use Rattle.checking.proofs.faults.narrow_all.Goals as goal

pub loop-state-preserved : goal.loop-state-preserved
loop-state-preserved c =
    c.loop-state.invariant ∙ states_next (gates_of c.args.gates.words.now) c.args.states.now c.loop-state.out _ c.loop-state.state-index _ (omega arith) refl c.narrow.ensures

pub returns : goal.returns
returns c = sym (c.loop-state.invariant ∙ states_end (gates_of c.args.gates.words.now) c.args.states.now c.loop-state.out c.loop-state.state-index (omega arith))

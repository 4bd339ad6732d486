-- `checking::faults::start_masks` meets its contract.
use Rattle.std.proofs.Common.{List, ℕ, sym, ap, ◌∙◌, arith}
use Rattle.bits.specs.Lists.{over}
use Rattle.circuit.specs.Words.{gates_of}
use Rattle.circuit.proofs.Promises.{valid_next, valid_later}
use Rattle.checking.proofs.lemmas.faults.Loops.{free_masks_lem, free_turn, free_end}
use Rattle.checking.proofs.faults.start_masks.Goals as goal

pub free_lines-free-requires-clause-valid_gate : goal.free_lines-free-requires-clause-valid_gate
free_lines-free-requires-clause-valid_gate c = valid_next c.args.n c.args.words.now c.loop-i.i _ (omega arith) c.gate_at.ensures c.loop-i.invariant.0

pub loop-i-preserved : goal.loop-i-preserved
loop-i-preserved c = (
  valid_later c.args.n c.args.words.now c.loop-i.i (omega arith) c.loop-i.invariant.0,
  c.loop-i.invariant.1 ∙ free_turn c.args.words.now c.loop-i.out c.loop-i.i _ (omega arith) (omega arith) c.gate_at.ensures c.args.n c.free_lines-free.result c.free_lines-free.ensures,
)

pub returns : goal.returns
returns c =
    sym (ap (λ (ms : List ℕ). over ms c.args.out.now) (free_masks_lem c.args.n _ (gates_of c.args.words.now))
    ∙ c.loop-i.invariant.1
    ∙ free_end c.args.n c.args.words.now c.loop-i.out c.loop-i.i (omega arith))

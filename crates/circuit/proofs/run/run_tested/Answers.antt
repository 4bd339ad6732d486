-- `circuit::run::run_tested` meets its contract.
use Rattle.std.proofs.Common.{sym, refl, ap, ◌∙◌, arith}
use Rattle.circuit.specs.Gate.{toggled}
use Rattle.circuit.specs.Run.{run_tested}
use Rattle.circuit.proofs.lemmas.run.Laws.{fold_turn, fold_end}
use Rattle.circuit.proofs.run.run_tested.Goals as goal

pub loop-i-init : goal.loop-i-init
loop-i-init c = refl

pub loop-i-preserved : goal.loop-i-preserved
loop-i-preserved c =
    c.loop-i.invariant
    ∙ fold_turn toggled c.args.words.now c.loop-i.i _ c.loop-i.s (omega arith) c.gate_at.ensures
    ∙ ap (run_tested _) (sym c.toggle-s.ensures)

pub returns : goal.returns
returns c = sym (c.loop-i.invariant ∙ fold_end toggled c.args.words.now c.loop-i.i _ (omega arith))

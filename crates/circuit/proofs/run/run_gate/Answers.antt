-- `circuit::run::run_gate` meets its contract.
use Rattle.std.proofs.Common.{sym, ap, ◌∙◌}
use Rattle.circuit.specs.Outcome.{served}
use Rattle.circuit.proofs.lemmas.Outcome.{demand_met}
use Rattle.circuit.proofs.lemmas.gate.Valid.{valid_more}
use Rattle.circuit.proofs.lemmas.gate.Effect.{toggled_apply}
use Rattle.circuit.proofs.run.run_gate.Goals as goal

pub returns : goal.returns
returns c =
    let good = sym c.valid.ensures ∙ c.if-not-valid.false in
    sym (demand_met _ _ _ _ good ∙ ap served (sym (c.toggle.ensures ∙ toggled_apply _ _ (valid_more _ _ _ c.requires good))))

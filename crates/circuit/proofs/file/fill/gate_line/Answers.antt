-- `circuit::file::fill::gate_line` meets its contract. Assumes nothing.
use Rattle.std.proofs.Common.{ℕ, sym, ap, subst}
use Rattle.circuit.specs.Gate.{controls_of}
use Rattle.circuit.specs.declared.file.scan.Numeral.{Numeral}
use Rattle.circuit.specs.private.Fill.{ControlsAt}
use Rattle.circuit.proofs.lemmas.file.fill.Laws.{gate_parts, gate_there}
use Rattle.circuit.proofs.file.fill.gate_line.Goals as goal

pub number-k-requires : goal.number-k-requires
number-k-requires c = (c.requires.0.target, (gate_parts _ _ _ c.requires.1).number)

pub controls-requires : goal.controls-requires
controls-requires c =
    let p = gate_parts _ _ _ c.requires.1 in (
      controls_of c.requires.0,
      subst (λ (k : ℕ). ControlsAt c.args.text.now k (controls_of c.requires.0)) (sym (ap (λ (x : Numeral). x.next) (c.number-k.ensures _ p.number))) p.controls,
    )

pub returns : goal.returns
returns c = λ g s. gate_there _ _ g s _ _ c.number-k.ensures c.controls.ensures

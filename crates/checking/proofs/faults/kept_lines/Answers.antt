-- `checking::faults::kept_lines` meets its contract. Assumes nothing.
use Rattle.std.proofs.Common.{◌≡◌, ◌-◌, ◌^◌, Bool, cond, sym, ap, ◌∙◌, eq-eqb, ne_eqb}
use lib.Bits.{bit_xor}
use Rattle.circuit.specs.Gate.{max_lines}
use Rattle.circuit.proofs.Promises.{missed_none}
use Rattle.checking.specs.Faults.{missing_control}
use Rattle.checking.specs.private.Narrowing.{kept}
use Rattle.checking.proofs.lemmas.faults.Masks.{flipped, kept_fired, kept_idle}
use Rattle.checking.proofs.faults.kept_lines.Goals as goal
use Rattle.checking.proofs.faults.kept_lines.Goals.{After-missed}

pub returns-then-missed-ne0 : goal.returns-then-missed-ne0
returns-then-missed-ne0 c =
    kept_idle c.args.positive c.args.g c.args.state (sym (missed_none _ _ c.requires) ∙ ne_eqb _ _ (λ z. c.if-missed-ne0.true (c.missed.ensures ∙ z)))

-- what a state leaves where no control is missed
left : (m : After-missed) → m.missed.result ≡ 0 → (b : Bool) → m.args.positive ≡ b
    → cond b (bit_xor m.args.state (2 ^ max_lines - 1)) m.args.state ≡ kept (missing_control m.args.positive) m.args.g m.args.state
left m z b e =
    ap (λ (p : Bool). cond p (bit_xor m.args.state (2 ^ max_lines - 1)) m.args.state) (sym e)
    ∙ kept_fired m.args.positive m.args.g m.args.state m.ranges.state.fits (sym (missed_none _ _ m.requires) ∙ eq-eqb _ _ (sym m.missed.ensures ∙ z))

pub returns-then-not-positive : goal.returns-then-not-positive
returns-then-not-positive c = left (goal.at.returns-then-not-positive c).After-missed c.if-missed-ne0.false _ (c.if-not-positive.true)

pub returns : goal.returns
returns c = flipped max_lines c.args.state c.ranges.state.fits ∙ left (goal.at.returns c).After-missed c.if-missed-ne0.false _ (c.if-not-positive.false)

-- `circuit::file::judge` meets its contract.
use Rattle.std.proofs.Common.{◌≡◌, Err, sym, ap, ◌∙◌, arith, rules}
use Rattle.circuit.specs.Outcome.{outcome_of}
use Rattle.circuit.proofs.lemmas.file.Steps.{judging_turn, judging_refused, judging_step, judging_end}
use Rattle.circuit.proofs.file.judge.Goals as goal

pub returns-in_err-at : goal.returns-in_err-at
returns-in_err-at c =
    let e : c.from_residual.result ≡ Err c.in_err-at.field-0.0 = search rules in
    ap outcome_of e ∙ sym (judging_refused _ _ _ _ _ _ c.loop-at.invariant (sym c.ends.ensures ∙ c.loop-at-test.true) _ _ (sym c.in_err-at.ensures))

pub loop-at-smaller : goal.loop-at-smaller
loop-at-smaller c =
    let s = judging_step _ _ _ _ _ _ c.loop-at.invariant (sym c.ends.ensures ∙ c.loop-at-test.true) _ (sym c.in_ok-at.ensures) in
    omega (arith, s.onward, s.inside)

pub loop-at-preserved : goal.loop-at-preserved
loop-at-preserved c =
    judging_turn _ _ _ _ _ _ c.loop-at.invariant (sym c.ends.ensures ∙ c.loop-at-test.true) _ (sym c.in_ok-at.ensures)

pub returns : goal.returns
returns c =
    sym (judging_end _ _ _ _ _ _ c.loop-at.invariant (sym c.ends.ensures ∙ c.loop-at-test.false)).0

-- `circuit::words::check_each` meets its contract.
use Rattle.std.proofs.Common.{◌≡◌, ◌/◌, length, sym, ap, ◌∙◌, arith}
use Rattle.circuit.specs.Outcome.{served}
use Rattle.circuit.proofs.lemmas.words.Tests.{next_good, next_bad, none_left}
use Rattle.circuit.proofs.words.check_each.Goals as goal

pub returns-then-not-valid : goal.returns-then-not-valid
returns-then-not-valid c =
    sym (c.loop-i.invariant ∙ next_bad _ _ _ _ (omega arith) c.gate_at.ensures (sym c.valid.ensures ∙ c.if-not-valid.true))

pub loop-i-preserved : goal.loop-i-preserved
loop-i-preserved c =
    c.loop-i.invariant ∙ next_good _ _ _ _ (omega arith) c.gate_at.ensures (sym c.valid.ensures ∙ c.if-not-valid.false)

pub returns : goal.returns
returns c =
    let e : c.loop-i.i ≡ length c.args.words.now / 3 = omega arith in
    sym (c.loop-i.invariant ∙ none_left _ _ _ (omega arith) ∙ ap served e)

-- `circuit::file::marks::marks` meets its contract.
use Rattle.std.proofs.Common.{◌≡◌, Err, sym, ap, ◌∙◌, arith, rules}
use Rattle.circuit.specs.Outcome.{outcome_of}
use Rattle.circuit.proofs.lemmas.file.marks.Steps.{grouping_start, grouping_end, grouping_refused, grouping_onward, grouping_inside, grouping_on}
use Rattle.circuit.proofs.file.marks.marks.Goals as goal

pub loop-read-init : goal.loop-read-init
loop-read-init c = grouping_start _ _ _ _ _ c.requires.0 c.requires.2

pub mark-requires : goal.mark-requires
mark-requires c =
    let g = c.loop-read.invariant in
    (g.inside, c.requires.1, omega (arith, g.inside, g.early), sym c.starts.ensures ∙ c.loop-read-test.true)

pub returns-in_err-read : goal.returns-in_err-read
returns-in_err-read c =
    let e : c.from_residual.result ≡ Err c.in_err-read.field-0.0 = search rules in
    ap outcome_of e ∙ sym (grouping_refused _ _ _ _ _ _ c.loop-read.invariant (sym c.starts.ensures ∙ c.loop-read-test.true) _ _ (sym c.in_err-read.ensures))

pub loop-read-smaller : goal.loop-read-smaller
loop-read-smaller c =
    let s = sym c.starts.ensures ∙ c.loop-read-test.true in
    omega (arith, grouping_onward _ _ _ _ _ _ c.loop-read.invariant s _ (sym c.in_ok-read.ensures), grouping_inside _ _ _ _ _ _ c.loop-read.invariant s _ (sym c.in_ok-read.ensures))

pub loop-read-preserved : goal.loop-read-preserved
loop-read-preserved c =
    grouping_on _ _ _ _ _ _ c.loop-read.invariant (sym c.starts.ensures ∙ c.loop-read-test.true) _ (sym c.in_ok-read.ensures)

pub returns : goal.returns
returns c = sym (grouping_end _ _ _ _ _ _ c.loop-read.invariant (sym c.starts.ensures ∙ c.loop-read-test.false))

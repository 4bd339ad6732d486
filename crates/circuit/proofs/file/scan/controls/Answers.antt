-- `circuit::file::scan::controls` meets its contract.
use Rattle.std.proofs.Common.{◌≡◌, Err, get_or, drop, sym, ap, ◌∙◌, arith, rules}
use Rattle.circuit.specs.Outcome.{outcome_of}
use borrow.Author.Tests.{not-true, not-false}
use Rattle.circuit.specs.Text.{tab}
use Rattle.circuit.proofs.lemmas.file.scan.Laws.{byte_at}
use Rattle.circuit.proofs.lemmas.file.scan.Rest.{going_start, going_refused, going_below, going_on, going_open, going_controlled, going_falls, going_gate}
use Rattle.circuit.proofs.file.scan.controls.Goals as goal
use Rattle.circuit.proofs.file.scan.controls.Goals.{After-loop-at, In-loop-at}

-- a tab stands at the position, or none does
here : (c : In-loop-at)
    → get_or (drop c.loop-at.at c.args.text.now) 0 10 ≡ tab
here c =
    sym (byte_at c.args.text.now c.loop-at.at) ∙ sym c.byte.ensures ∙ c.loop-at-test.true

none : (c : After-loop-at)
    → get_or (drop c.loop-at.at c.args.text.now) 0 10 ≡ tab → ⊥
none c =
    λ e. c.loop-at-test.false (c.byte.ensures ∙ byte_at c.args.text.now c.loop-at.at ∙ e)

pub loop-at-init : goal.loop-at-init
loop-at-init c =
    (c.requires.1, going_start _ _ _ _ _ _ c.requires.0 c.requires.2 c.none-seen.ensures)

pub returns-in_err-k : goal.returns-in_err-k
returns-in_err-k c =
    let e : c.from_residual.result ≡ Err c.in_err-k.field-0.0 = search rules in
    ap outcome_of e ∙ sym (going_refused _ _ _ _ _ _ _ c.loop-at.invariant.1 (here (goal.at.returns-in_err-k c).In-loop-at) _ _ (sym c.in_err-k.ensures))

pub add-seen-requires : goal.add-seen-requires
add-seen-requires c =
    omega (arith, going_below _ _ _ _ _ _ _ c.loop-at.invariant.1 (here (goal.at.add-seen-requires c).In-loop-at) _ (sym c.in_ok-k.ensures))

pub loop-at-preserved : goal.loop-at-preserved
loop-at-preserved c =
    (c.loop-at.invariant.0, going_on _ _ _ _ _ _ _ c.loop-at.invariant.1 (here (goal.at.loop-at-preserved c).In-loop-at) _ (sym c.in_ok-k.ensures) _ c.add-seen.ensures)

pub returns-then-text-at : goal.returns-then-text-at
returns-then-text-at c =
    sym (going_open _ _ _ _ _ _ _ c.loop-at.invariant.1 (none (goal.at.returns-then-text-at c).After-loop-at) c.if-text-at.true)

pub returns-then-not-seen : goal.returns-then-not-seen
returns-then-not-seen c =
    sym (going_controlled _ _ _ _ _ _ _ c.loop-at.invariant.1 (none (goal.at.returns-then-not-seen c).After-loop-at) c.if-text-at.false (not-true _ c.if-not-seen.true))

pub returns-then-not-seen-2 : goal.returns-then-not-seen-2
returns-then-not-seen-2 c =
    sym (going_falls _ _ _ _ _ _ _ c.loop-at.invariant.1 (none (goal.at.returns-then-not-seen-2 c).After-loop-at) c.if-text-at.false (not-false _ c.if-not-seen.false) (not-true _ c.if-not-seen-2.true))

pub returns : goal.returns
returns c =
    sym (going_gate _ _ _ _ _ _ _ c.loop-at.invariant.1 (none (goal.at.returns c).After-loop-at) c.if-text-at.false (not-false _ c.if-not-seen.false) (not-false _ c.if-not-seen-2.false))

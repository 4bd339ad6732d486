-- `checking::check::make_calls` meets its contract.
use Rattle.std.proofs.Common.{sym, ap, ◌∙◌, arith, add-one, drop-cons}
use Rattle.checking.specs.Check.{Held}
use Rattle.checking.specs.declared.check.Call.TheVariants.{StepOn}
use Rattle.checking.proofs.lemmas.check.Laws.{made_few, calls_turn, calls_end}
use Rattle.checking.proofs.check.make_calls.Goals as goal

pub loop-call-preserved : goal.loop-call-preserved
loop-call-preserved c =
    let few = made_few _ (record { gates = c.loop-call.left; words = c.loop-call.words }) _ _ c.loop-call.invariant.room c.make_call-left.ensures in
    record {
      room = omega (arith, few, c.make_call-left.auto.words);
      owed = c.loop-call.invariant.owed ∙ calls_turn c.args.calls.now c.loop-call.call-index _ _ _ c.loop-call.words _ (rw add-one (drop-cons c.args.calls.now c.loop-call.call-index (StepOn 0) c.loop-call-test.true)) c.make_call-left.ensures;
    }

pub returns : goal.returns
returns c =
    let e = c.loop-call.invariant.owed ∙ calls_end c.args.calls.now c.loop-call.call-index _ c.loop-call-test.false in
    record { answer = sym (ap (λ (h : Held). h.gates) e); buffer = sym (ap (λ (h : Held). h.words) e) }

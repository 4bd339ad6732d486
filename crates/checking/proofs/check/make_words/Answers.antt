-- `checking::check::make_words` meets its contract.
use Rattle.std.proofs.Common.{sym, refl, ap, ◌∙◌, arith}
use Rattle.checking.specs.Check.{Held}
use Rattle.checking.proofs.lemmas.check.Laws.{made_few, calls_of_turn, calls_of_end}
use Rattle.checking.proofs.check.make_words.Goals as goal

pub loop-i-preserved : goal.loop-i-preserved
loop-i-preserved c =
    let few = made_few _ (record { gates = c.loop-i.left; words = c.loop-i.words }) _ _ c.loop-i.invariant.room c.make_call-left.ensures in
    record {
      room = omega (arith, few, c.make_call-left.auto.words);
      owed = c.loop-i.invariant.owed ∙ calls_of_turn c.args.calls.now c.loop-i.i _ _ _ _ _ c.loop-i.words _ (omega arith) refl refl c.of.ensures c.make_call-left.ensures;
    }

pub returns : goal.returns
returns c =
    let e = c.loop-i.invariant.owed ∙ calls_of_end c.args.calls.now c.loop-i.i _ (omega arith) in
    record { answer = sym (ap (λ (h : Held). h.gates) e); buffer = sym (ap (λ (h : Held). h.words) e) }

-- `text::input::put_verdict` meets its contract. Assumes nothing.
use Rattle.std.proofs.Common.{sym}
use Rattle.bits.proofs.Bools.{cond-true, cond-false}
use Rattle.circuit.proofs.Promises.{put_as}
use Rattle.text.proofs.input.put_verdict.Goals as goal

pub returns-then-agree : goal.returns-then-agree
returns-then-agree c = put_as _ _ _ _ _ (sym (cond-true c.args.agree _ _ c.if-agree.true)) c.put.ensures

pub returns : goal.returns
returns c = put_as _ _ _ _ _ (sym (cond-false c.args.agree _ _ c.if-agree.false)) c.put-2.ensures

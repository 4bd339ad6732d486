-- `text::put::put_middle` meets its contract. Assumes nothing.
use mathlib.Core.Path.{sym}
use Rattle.circuit.proofs.Promises.{put_as}
use Rattle.text.proofs.Decimal.{decimal_hundreds}
use Rattle.text.proofs.put.Laws.{then_put}
use Rattle.text.proofs.put.put_middle.Goals as goal

pub returns : goal.returns
returns c =
    put_as _ _ _ _ _ (sym (decimal_hundreds c.args.k c.if-k-lt100.false)) (then_put c.put_short-at.ensures c.put_short-at.auto.out c.put_two.ensures c.put_two.auto.out)

-- `text::dimacs::put_literal` meets its contract. Assumes nothing.
use mathlib.Core.Path.{ap}
use Rattle.circuit.proofs.Promises.{put_as}
use Rattle.text.specs.Dimacs.{literal_text}
use Rattle.text.proofs.put.Laws.{then_put}
use Rattle.text.proofs.dimacs.Signed.{word_is}
use Rattle.text.proofs.dimacs.put_literal.Goals as goal

pub returns : goal.returns
returns c =
    then_put (put_as _ _ _ _ _ (ap literal_text (word_is c.args.literal c.ranges.literal)) c.put_signed-at.ensures) c.put_signed-at.auto.out c.put.ensures c.put.auto.out

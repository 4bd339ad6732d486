-- `text::plain::put_pair` meets its contract. Assumes nothing.
use native.Mathlib.Omega.{arith}
use Rattle.circuit.proofs.Promises.{put_as}
use Rattle.text.proofs.put.Laws.{then_put, written_start, written_left}
use Rattle.text.proofs.dimacs.Signed.{word_is}
use Rattle.text.proofs.plain.Laws.{opposite_is, pair_text, pair_length, closed_long}
use Rattle.text.proofs.plain.put_pair.Goals as goal

pub put_closed-at-requires : goal.put_closed-at-requires
put_closed-at-requires c = simp (word_is c.args.a c.ranges.a, word_is c.args.b c.ranges.b) (omega (arith, pair_length c.args.a c.args.b))

pub put_closed-requires : goal.put_closed-requires
put_closed-requires c =
    let (f, g) = c.requires.literals_fit in
    let p = simp (word_is c.args.a c.ranges.a, word_is c.args.b c.ranges.b) at c.put_closed-at.ensures in
    let w = written_start p c.put_closed-at.auto.out in
    simp (word_is c.args.a c.ranges.a, word_is c.args.b c.ranges.b, opposite_is c.args.a f, opposite_is c.args.b g) (omega (arith, written_left w, pair_length c.args.a c.args.b, closed_long, p.count))

pub returns : goal.returns
returns c =
    let (f, g) = c.requires.literals_fit in
    put_as _ _ _ _ _ (simp (word_is c.args.a c.ranges.a, word_is c.args.b c.ranges.b, opposite_is c.args.a f, opposite_is c.args.b g) (pair_text c.args.a c.args.b)) (then_put c.put_closed-at.ensures c.put_closed-at.auto.out c.put_closed.ensures c.put_closed.auto.out)

-- `text::plain::put_triple` meets its contract. Assumes nothing.
use native.Mathlib.Omega.{arith}
use Rattle.circuit.proofs.Promises.{written_put, put_as}
use Rattle.text.proofs.put.Laws.{written_start, written_on, written_left}
use Rattle.text.proofs.dimacs.Signed.{word_is}
use Rattle.text.proofs.plain.Laws.{opposite_is, triple_text, triple_length, closed_long}
use Rattle.text.proofs.plain.put_triple.Goals as goal

pub put_closed-at-requires : goal.put_closed-at-requires
put_closed-at-requires c =
    simp (word_is c.args.a c.ranges.a, word_is c.args.b c.ranges.b, word_is c.args.c c.ranges.c) (omega (arith, triple_length c.args.a c.args.b c.args.c))

pub put_closed-at-requires-2 : goal.put_closed-at-requires-2
put_closed-at-requires-2 c =
    let (f, g, h) = c.requires.literals_fit in
    let p = simp (word_is c.args.a c.ranges.a, word_is c.args.b c.ranges.b, word_is c.args.c c.ranges.c) at c.put_closed-at.ensures in
    let w = written_start p c.put_closed-at.auto.out in
    simp (word_is c.args.a c.ranges.a, word_is c.args.b c.ranges.b, word_is c.args.c c.ranges.c, opposite_is c.args.b g, opposite_is c.args.c h) (omega (arith, written_left w, triple_length c.args.a c.args.b c.args.c, closed_long, p.count))

pub put_closed-at-requires-3 : goal.put_closed-at-requires-3
put_closed-at-requires-3 c =
    let (f, g, h) = c.requires.literals_fit in
    let p = simp (word_is c.args.a c.ranges.a, word_is c.args.b c.ranges.b, word_is c.args.c c.ranges.c) at c.put_closed-at.ensures in
    let q = simp (word_is c.args.a c.ranges.a, word_is c.args.b c.ranges.b, word_is c.args.c c.ranges.c, opposite_is c.args.b g, opposite_is c.args.c h) at c.put_closed-at-2.ensures in
    let w = written_on (written_start p c.put_closed-at.auto.out) q c.put_closed-at-2.auto.out in
    simp (word_is c.args.a c.ranges.a, word_is c.args.b c.ranges.b, word_is c.args.c c.ranges.c, opposite_is c.args.a f, opposite_is c.args.c h) (omega (arith, written_left w, triple_length c.args.a c.args.b c.args.c, closed_long, p.count, q.count))

pub put_closed-requires : goal.put_closed-requires
put_closed-requires c =
    let (f, g, h) = c.requires.literals_fit in
    let p = simp (word_is c.args.a c.ranges.a, word_is c.args.b c.ranges.b, word_is c.args.c c.ranges.c) at c.put_closed-at.ensures in
    let q = simp (word_is c.args.a c.ranges.a, word_is c.args.b c.ranges.b, word_is c.args.c c.ranges.c, opposite_is c.args.b g, opposite_is c.args.c h) at c.put_closed-at-2.ensures in
    let s = simp (word_is c.args.a c.ranges.a, word_is c.args.b c.ranges.b, word_is c.args.c c.ranges.c, opposite_is c.args.a f, opposite_is c.args.c h) at c.put_closed-at-3.ensures in
    let w = written_on (written_on (written_start p c.put_closed-at.auto.out) q c.put_closed-at-2.auto.out) s c.put_closed-at-3.auto.out in
    simp (word_is c.args.a c.ranges.a, word_is c.args.b c.ranges.b, word_is c.args.c c.ranges.c, opposite_is c.args.a f, opposite_is c.args.b g) (omega (arith, written_left w, triple_length c.args.a c.args.b c.args.c, closed_long, p.count, q.count, s.count))

pub returns : goal.returns
returns c =
    let (f, g, h) = c.requires.literals_fit in
    let p = simp (word_is c.args.a c.ranges.a, word_is c.args.b c.ranges.b, word_is c.args.c c.ranges.c) at c.put_closed-at.ensures in
    let q = simp (word_is c.args.a c.ranges.a, word_is c.args.b c.ranges.b, word_is c.args.c c.ranges.c, opposite_is c.args.b g, opposite_is c.args.c h) at c.put_closed-at-2.ensures in
    let s = simp (word_is c.args.a c.ranges.a, word_is c.args.b c.ranges.b, word_is c.args.c c.ranges.c, opposite_is c.args.a f, opposite_is c.args.c h) at c.put_closed-at-3.ensures in
    let t = simp (word_is c.args.a c.ranges.a, word_is c.args.b c.ranges.b, word_is c.args.c c.ranges.c, opposite_is c.args.a f, opposite_is c.args.b g) at c.put_closed.ensures in
    let w = written_on (written_on (written_start p c.put_closed-at.auto.out) q c.put_closed-at-2.auto.out) s c.put_closed-at-3.auto.out in
    put_as _ _ _ _ _ (triple_text c.args.a c.args.b c.args.c) (written_put _ _ _ _ (written_on w t c.put_closed.auto.out))

-- `circuit::file::put::put_constant` meets its contract. Assumes nothing.
use Rattle.std.proofs.Common.{true, false, arith}
use Rattle.circuit.proofs.lemmas.file.put.Laws.{put_then, put_as}
use Rattle.circuit.proofs.lemmas.file.put.Marks.{const_parts, const_length}
use Rattle.circuit.proofs.file.put.put_constant.Goals as goal

pub returns-then-value : goal.returns-then-value
returns-then-value c =
    put_as _ _ _ _ _ (const_parts c.args.k c.args.value true c.if-value.true)
    (put_then _ _ _ _ c.put_numbered-at.ensures c.put_numbered-at.auto.out _ _ _ (omega (arith, const_length c.args.k c.args.value, c.put_numbered-at.ensures.count)) c.put.ensures c.put.auto.out)

pub returns : goal.returns
returns c =
    put_as _ _ _ _ _ (const_parts c.args.k c.args.value false c.if-value.false)
    (put_then _ _ _ _ c.put_numbered-at.ensures c.put_numbered-at.auto.out _ _ _ (omega (arith, const_length c.args.k c.args.value, c.put_numbered-at.ensures.count)) c.put-2.ensures c.put-2.auto.out)

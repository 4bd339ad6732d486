-- `circuit::file::put::put_junk` meets its contract. Assumes nothing.
use Rattle.std.proofs.Common.{arith}
use Rattle.circuit.proofs.lemmas.file.put.Laws.{put_byte, put_as}
use Rattle.circuit.proofs.lemmas.file.put.Marks.{junk_parts, junk_length}
use Rattle.circuit.proofs.file.put.put_junk.Goals as goal

pub returns : goal.returns
returns c =
    put_as _ _ _ _ _ (junk_parts c.args.k)
    (put_byte _ _ _ _ 10 c.put_numbered-at.ensures (omega (arith, junk_length c.args.k, c.put_numbered-at.ensures.count, c.put_numbered-at.auto.out)))

-- `circuit::file::put::put_count` meets its contract. Assumes nothing.
use Rattle.std.proofs.Common.{arith}
use Rattle.circuit.proofs.lemmas.file.put.Laws.{put_byte, header_text_length}
use Rattle.circuit.proofs.file.put.put_count.Goals as goal

pub returns : goal.returns
returns c =
    put_byte _ _ _ _ 10 c.put_numbered-at.ensures (omega (arith, header_text_length c.args.n, c.put_numbered-at.ensures.count))

-- `circuit::file::put_text` meets its contract. Assumes nothing.
use Rattle.std.proofs.Common.{arith}
use Rattle.circuit.proofs.lemmas.file.put.Laws.{put_then}
use Rattle.circuit.proofs.lemmas.file.Writes.{text_parts}
use Rattle.circuit.proofs.file.put_text.Goals as goal

pub returns : goal.returns
returns c =
    put_then _ _ _ _ c.put_header-at.ensures c.put_header-at.auto.out _ _ _ (omega (arith, text_parts c.args.h c.args.words.now, c.put_header-at.ensures.count)) c.put_lines.ensures c.put_lines.auto.out

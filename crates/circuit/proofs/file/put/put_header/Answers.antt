-- `circuit::file::put::put_header` meets its contract. Assumes nothing.
use Rattle.std.proofs.Common.{◌++◌, length-append, arith}
use Rattle.circuit.specs.Text.{count_line, const_lines, junk_lines}
use Rattle.circuit.proofs.lemmas.file.put.Laws.{put_then}
use Rattle.circuit.proofs.file.put.put_header.Goals as goal

pub returns : goal.returns
returns c =
    put_then _ _ _ _ c.put_count-at.ensures c.put_count-at.auto.out _ _ _ (omega (arith, c.requires.2, length-append (count_line c.args.h.lines) (const_lines c.args.h ++ junk_lines c.args.h), c.put_count-at.ensures.count)) c.put_header_marks.ensures c.put_header_marks.auto.out

-- `circuit::file::put::put_header_marks` meets its contract. Assumes nothing.
use Rattle.std.proofs.Common.{◌++◌, length, ap, ap₂, length-append, arith}
use Rattle.circuit.specs.Text.{const_lines, junk_lines}
use Rattle.circuit.proofs.lemmas.file.put.Laws.{put_then, put_as, rest_length}
use Rattle.circuit.proofs.lemmas.file.put.Marks.{const_text, junk_text}
use Rattle.circuit.proofs.file.put.put_header_marks.Goals as goal

pub put_marks-at-requires : goal.put_marks-at-requires
put_marks-at-requires c =
    omega (arith, c.requires.2, length-append (const_lines c.args.h) (junk_lines c.args.h), ap length (const_text c.args.h c.requires.0 c.requires.1))

pub put_marks-requires : goal.put_marks-requires
put_marks-requires c =
    let a = length-append (const_lines c.args.h) (junk_lines c.args.h) in
    let t = ap length (const_text c.args.h c.requires.0 c.requires.1) in
    let j = ap length (junk_text c.args.h c.requires.0 c.requires.1) in
    omega
    (arith, c.requires.2, a, t, j, c.put_marks-at.ensures.count, rest_length c.put_marks-at.new.out c.put_marks-at.result (omega (arith, c.requires.2, a, t, c.put_marks-at.ensures.count)))

pub returns : goal.returns
returns c =
    put_as _ _ _ _ _ (ap₂ ◌++◌ (const_text c.args.h c.requires.0 c.requires.1) (junk_text c.args.h c.requires.0 c.requires.1))
    (put_then _ _ _ _ c.put_marks-at.ensures c.put_marks-at.auto.out _ _ _ (omega (arith, c.requires.2, length-append (const_lines c.args.h) (junk_lines c.args.h), ap length (const_text c.args.h c.requires.0 c.requires.1), c.put_marks-at.ensures.count)) c.put_marks.ensures c.put_marks.auto.out)

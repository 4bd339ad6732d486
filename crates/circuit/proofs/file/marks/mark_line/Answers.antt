-- `circuit::file::marks::mark_line` meets its contract. Assumes nothing.
use Rattle.std.proofs.Common.{◌≡◌, Some, drop, sym, rules}
use Rattle.circuit.specs.File.{number_of}
use Rattle.circuit.specs.private.Scan.{field_at, numeral_at}
use Rattle.circuit.proofs.lemmas.file.marks.Laws.{line_low, line_fits}
use Rattle.circuit.proofs.file.marks.mark_line.Goals as goal

pub returns-then-line-mask : goal.returns-then-line-mask
returns-then-line-mask c =
    let read : Some c.in_ok-k.k ≡ numeral_at c.args.at (number_of 0 (field_at (drop c.args.at c.args.text.now))) = search rules in
    sym (line_low _ _ _ _ _ _ read c.if-n-k.false c.requires.1 _ c.line.ensures c.if-line-mask.true)

pub returns : goal.returns
returns c =
    let read : Some c.in_ok-k.k ≡ numeral_at c.args.at (number_of 0 (field_at (drop c.args.at c.args.text.now))) = search rules in
    sym (line_fits _ _ _ _ _ _ read c.if-n-k.false c.requires.1 _ c.line.ensures c.if-line-mask.false)

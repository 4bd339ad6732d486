-- `circuit::file::marks::header` meets its contract. Assumes nothing.
use Rattle.std.proofs.Common.{sym, ap, ◌∙◌}
use Rattle.circuit.specs.declared.header.Header.{Header}
use Rattle.circuit.specs.Outcome.{served}
use Rattle.circuit.proofs.lemmas.file.marks.Steps.{counted, grouped, header_plain}
use Rattle.circuit.proofs.file.marks.header.Goals as goal

pub starts-requires : goal.starts-requires
starts-requires c = (counted c.args.text.now c.in_ok-lines.lines (sym c.in_ok-lines.ensures)).inside

pub starts-requires-then-not-starts : goal.starts-requires-then-not-starts
starts-requires-then-not-starts c = (counted c.args.text.now c.in_ok-lines.lines (sym c.in_ok-lines.ensures)).inside

pub returns-then-not-starts-2 : goal.returns-then-not-starts-2
returns-then-not-starts-2 c =
    ap (λ (h : Header). served (record { header = h; place = 1; next = c.in_ok-lines.lines.next })) c.unmarked.ensures
    ∙ sym (header_plain c.args.text.now c.in_ok-lines.lines (sym c.in_ok-lines.ensures) (sym c.starts.ensures ∙ c.if-not-starts.true) (sym c.starts-then-not-starts.ensures ∙ c.if-not-starts-2.true))

pub marks-requires : goal.marks-requires
marks-requires c = let k = counted c.args.text.now c.in_ok-lines.lines (sym c.in_ok-lines.ensures) in (k.inside, k.high, k.early)

pub marks-requires-2 : goal.marks-requires-2
marks-requires-2 c =
    let k = counted c.args.text.now c.in_ok-lines.lines (sym c.in_ok-lines.ensures) in
    let g = grouped _ _ _ _ _ k.inside k.early c.in_ok-constants.constants (sym c.in_ok-constants.ensures) in
    (g.inside, k.high, g.early)

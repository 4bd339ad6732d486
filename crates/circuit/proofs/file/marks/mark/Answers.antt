-- `circuit::file::marks::mark` meets its contract. Assumes nothing.
use Rattle.std.proofs.Common.{◌≡◌, ℕ, ◌+◌, Err, drop, sym, ap, ◌∙◌, subst, arith, rules}
use Rattle.circuit.specs.Outcome.{Outcome, served, outcome_of}
use Rattle.circuit.specs.private.Scan.{field_at}
use Rattle.circuit.specs.private.Marks.{word_size, mark_line_next}
use Rattle.circuit.specs.declared.file.scan.Numeral.{Numeral}
use Rattle.circuit.proofs.lemmas.file.marks.Laws.{mark_ready, mark_refused_line, mark_value_ready, mark_below, mark_refused_value, mark_served}
use Rattle.circuit.proofs.file.marks.mark.Goals as goal
use Rattle.circuit.proofs.file.marks.mark.Goals.{After-word_size, In_ok-k}

-- the line number, at its place
number_told : (c : After-word_size) (o : Outcome Numeral)
    → o ≡ mark_line_next c.args.n c.args.read.place c.args.read.mask (c.args.read.next + c.word_size.result) (field_at (drop (c.args.read.next + c.word_size.result) c.args.text.now))
    → mark_line_next c.args.n c.args.read.place c.args.read.mask (c.args.read.next + word_size c.args.constant) (field_at (drop (c.args.read.next + word_size c.args.constant) c.args.text.now)) ≡ o
number_told c o e =
    subst (λ (s : ℕ). mark_line_next c.args.n c.args.read.place c.args.read.mask (c.args.read.next + s) (field_at (drop (c.args.read.next + s) c.args.text.now)) ≡ o) c.word_size.ensures (sym e)

number_read : (c : In_ok-k)
    → mark_line_next c.args.n c.args.read.place c.args.read.mask (c.args.read.next + word_size c.args.constant) (field_at (drop (c.args.read.next + word_size c.args.constant) c.args.text.now)) ≡ served c.in_ok-k.k
number_read c =
    subst
    (λ (s : ℕ). mark_line_next c.args.n c.args.read.place c.args.read.mask (c.args.read.next + s) (field_at (drop (c.args.read.next + s) c.args.text.now)) ≡ served c.in_ok-k.k) c.word_size.ensures (sym c.in_ok-k.ensures)

pub mark_line-requires : goal.mark_line-requires
mark_line-requires c =
    (omega (arith, mark_ready c.args.constant c.args.n c.requires.1 c.args.read c.args.text.now c.requires.0 c.requires.3, c.word_size.ensures), c.requires.1)

pub returns-in_err-k : goal.returns-in_err-k
returns-in_err-k c =
    let e : c.from_residual.result ≡ Err c.in_err-k.field-0.0 = search rules in
    ap outcome_of e
    ∙ sym (mark_refused_line c.args.constant c.args.n c.requires.1 c.args.read c.args.text.now c.requires.0 c.requires.3 _ _ (number_told (goal.at.returns-in_err-k c).After-word_size (outcome_of (Err c.in_err-k.field-0.0)) c.in_err-k.ensures))

pub value-requires : goal.value-requires
value-requires c =
    mark_value_ready c.args.constant c.args.n c.requires.1 c.args.read c.args.text.now c.requires.0 c.requires.3 _ (number_read (goal.at.value-requires c).In_ok-k)

pub returns-in_err-set : goal.returns-in_err-set
returns-in_err-set c =
    let e : c.from_residual-in_err-set.result ≡ Err c.in_err-set.field-0.0 = search rules in
    ap outcome_of e
    ∙ sym (mark_refused_value c.args.constant c.args.n c.requires.1 c.args.read c.args.text.now c.requires.0 c.requires.3 _ (number_read (goal.at.returns-in_err-set c).In_ok-k) _ _ (sym c.in_err-set.ensures))

pub joined-requires : goal.joined-requires
joined-requires c =
    mark_below c.args.constant c.args.n c.requires.1 c.args.read c.args.text.now c.requires.0 c.requires.3 _ (number_read (goal.at.joined-requires c).In_ok-k)

pub returns : goal.returns
returns c =
    sym (mark_served c.args.constant c.args.n c.requires.1 c.args.read c.args.text.now c.requires.0 c.requires.3 _ (number_read (goal.at.returns c).In_ok-k) _ (sym c.in_ok-set.ensures) _ c.line.ensures _ c.joined.ensures _ c.end_size.ensures)

-- `text::pair::CascadeRead::read` meets its contract. Assumes nothing.
use Rattle.std.proofs.Common.{ℕ, ◌+◌, sym, ap, ap₂, ◌∙◌}
use Rattle.std.proofs.lemmas.Result.{err_from_is_err_and}
use Rattle.circuit.specs.Outcome.{refused, served}
use Rattle.circuit.specs.Refusal.{wrong_form}
use Rattle.circuit.specs.Words.{gates_of}
use Rattle.circuit.proofs.Promises.{gates_length}
use Rattle.text.proofs.WholeFile.{whole_bad, whole_after, whole_good}
use Rattle.text.proofs.pair.CascadeRead.read.Goals as goal

pub returns-in_err-start : goal.returns-in_err-start
returns-in_err-start c =
    let p = err_from_is_err_and c.from_residual.result c.from_residual.ensures.1 in
    rw (p.1, p.2) (sym (whole_bad c.args.most c.args.text.now _ _ (sym c.in_err-start.ensures)))

pub returns-then-start-text : goal.returns-then-start-text
returns-then-start-text c =
    ap₂ (λ (m k : ℕ). refused wrong_form (m + k + 2)) c.mark_lines.ensures.0 (sym (gates_length c.in_ok-start.start.cascade.words.now))
    ∙ sym (whole_after c.args.most c.args.text.now _ (sym c.in_ok-start.ensures) c.if-start-text.true)

pub returns : goal.returns
returns c =
    let s = c.in_ok-start.start.cascade in
    ap (λ (k : ℕ). served (record { header = s.header; gates = gates_of s.words.now; taken = k })) (sym c.if-start-text.false)
    ∙ sym (whole_good c.args.most c.args.text.now _ (sym c.in_ok-start.ensures) c.if-start-text.false)

-- `checking::pair::headed_sums` meets its contract. Assumes nothing.
use Rattle.std.proofs.Common.{sym, ◌∙◌, arith}
use Rattle.std.proofs.lemmas.Result.{err_from_is_err_and}
use Rattle.circuit.proofs.Promises.{size_served}
use Rattle.checking.proofs.lemmas.pair_emission.Outcomes.{sums_lines, sums_marks, sums_size, sums_gates}
use Rattle.checking.proofs.pair.headed_sums.Goals as goal

pub returns-then-not-line_count_good : goal.returns-then-not-line_count_good
returns-then-not-line_count_good c = sym (sums_lines _ _ (sym c.line_count_good.ensures ∙ c.if-not-line_count_good.true))

pub returns-then-not-marks_good : goal.returns-then-not-marks_good
returns-then-not-marks_good c = sym (sums_marks _ _ (sym c.line_count_good.ensures ∙ c.if-not-line_count_good.false) (sym c.marks_good.ensures ∙ c.if-not-marks_good.true))

pub returns-in_err-check_size : goal.returns-in_err-check_size
returns-in_err-check_size c =
    let p = err_from_is_err_and c.from_residual.result c.from_residual.ensures.1 in
    rw (p.1, p.2)
    (sym
    (sums_size _ _ (sym c.line_count_good.ensures ∙ c.if-not-line_count_good.false) (sym c.marks_good.ensures ∙ c.if-not-marks_good.false) _ _
    (sym c.in_err-check_size.ensures)))

pub sum_gates-requires-clause-few_gates : goal.sum_gates-requires-clause-few_gates
sum_gates-requires-clause-few_gates c = omega (arith, (size_served c.args.h.lines _ _ _ (sym c.in_ok-check_size.ensures)).1)

pub returns : goal.returns
returns c =
    c.sum_gates.ensures
    ∙ sym (sums_gates _ _ (sym c.line_count_good.ensures ∙ c.if-not-line_count_good.false) (sym c.marks_good.ensures ∙ c.if-not-marks_good.false) _ (sym c.in_ok-check_size.ensures))

-- `checking::clauses::cascade_totals` meets its contract. Assumes nothing.
use Rattle.std.proofs.Common.{sym, ap, ◌∙◌, arith}
use Rattle.std.proofs.lemmas.Result.{err_from_is_err_and}
use Rattle.circuit.specs.Gate.{max_miter_gates}
use Rattle.circuit.specs.Outcome.{served}
use Rattle.circuit.proofs.Promises.{lines_good, size_served}
use Rattle.checking.proofs.lemmas.clauses.Loop.{sizes_lines, sizes_refused, sizes_untested, sizes_tested}
use Rattle.checking.proofs.lemmas.clauses.Totals.{summed_small, summed_totals}
use Rattle.checking.proofs.clauses.cascade_totals.Goals as goal

pub returns-then-not-line_count_good : goal.returns-then-not-line_count_good
returns-then-not-line_count_good c = sym (sizes_lines _ _ (sym c.line_count_good.ensures ∙ c.if-not-line_count_good.true))

pub returns-in_err-check_size : goal.returns-in_err-check_size
returns-in_err-check_size c =
    let p = err_from_is_err_and c.from_residual.result c.from_residual.ensures.1 in
    rw (p.1, p.2) (sym (sizes_refused _ _ (sym c.line_count_good.ensures ∙ c.if-not-line_count_good.false) _ _ (sym c.in_err-check_size.ensures)))

pub sum_gates-requires-clause-few_gates : goal.sum_gates-requires-clause-few_gates
sum_gates-requires-clause-few_gates c = (size_served c.args.n _ _ _ (sym c.in_ok-check_size.ensures)).1

pub returns-in_err-sums : goal.returns-in_err-sums
returns-in_err-sums c =
    let p = err_from_is_err_and c.from_residual-in_err-sums.result c.from_residual-in_err-sums.ensures.1 in
    rw (p.1, p.2)
    (sym (sizes_untested _ _ (sym c.line_count_good.ensures ∙ c.if-not-line_count_good.false) _ (sym c.in_ok-check_size.ensures) _ _ (sym c.in_err-sums.ensures)))

pub list_totals-requires : goal.list_totals-requires
list_totals-requires c =
    let few = (lines_good c.args.n (sym c.line_count_good.ensures ∙ c.if-not-line_count_good.false)).1 in
    record {
      lines = few;
      few_constants = omega arith;
      few_counted = few;
      few_hit = c.count-hit.ensures.1;
      small = summed_small c.args.n c.args.words.now c.in_ok-sums.sums (sym c.in_ok-sums.ensures) max_miter_gates few (size_served c.args.n _ _ _ (sym c.in_ok-check_size.ensures)).1;
    }

pub returns : goal.returns
returns c =
    let made = sym c.in_ok-sums.ensures in
    ap served (c.list_totals.ensures ∙ summed_totals c.args.n c.args.words.now c.in_ok-sums.sums made c.count-hit.result c.count-hit.ensures.0)
    ∙ sym (sizes_tested _ _ (sym c.line_count_good.ensures ∙ c.if-not-line_count_good.false) _ (sym c.in_ok-check_size.ensures) c.in_ok-sums.sums made)

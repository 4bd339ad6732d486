-- `checking::pair::sizes` meets its contract. Assumes nothing.
use Rattle.std.proofs.Common.{sym, ap, ◌∙◌}
use Rattle.std.proofs.lemmas.Result.{err_from_is_err_and}
use Rattle.circuit.specs.Outcome.{served}
use Rattle.checking.proofs.lemmas.pair_emission.Outcomes.{sizes_first, sizes_second, sizes_lines, sizes_marks, pair_small, sizes_made}
use Rattle.checking.proofs.pair.sizes.Goals as goal

pub returns-in_err-first : goal.returns-in_err-first
returns-in_err-first c =
    let p = err_from_is_err_and c.from_residual.result c.from_residual.ensures.1 in
    rw (p.1, p.2) (sym (sizes_first _ _ _ _ _ _ (sym c.in_err-first.ensures)))

pub returns-in_err-second : goal.returns-in_err-second
returns-in_err-second c =
    let p = err_from_is_err_and c.from_residual-in_err-second.result c.from_residual-in_err-second.ensures.1 in
    rw (p.1, p.2) (sym (sizes_second _ _ _ _ _ (sym c.in_ok-first.ensures) _ _ (sym c.in_err-second.ensures)))

pub returns-then-ha-hb : goal.returns-then-ha-hb
returns-then-ha-hb c = sym (sizes_lines _ _ _ _ _ (sym c.in_ok-first.ensures) _ (sym c.in_ok-second.ensures) c.if-ha-hb.true)

pub returns-then-not-same_marks : goal.returns-then-not-same_marks
returns-then-not-same_marks c =
    sym (sizes_marks _ _ _ _ _ (sym c.in_ok-first.ensures) _ (sym c.in_ok-second.ensures) c.if-ha-hb.false (sym c.same_marks.ensures ∙ c.if-not-same_marks.true))

pub pair_totals-requires : goal.pair_totals-requires
pair_totals-requires c = pair_small _ _ _ _ _ (sym c.in_ok-first.ensures) _ (sym c.in_ok-second.ensures) c.if-ha-hb.false

pub returns : goal.returns
returns c =
    ap served c.pair_totals.ensures
    ∙ sym (sizes_made _ _ _ _ _ (sym c.in_ok-first.ensures) _ (sym c.in_ok-second.ensures) c.if-ha-hb.false (sym c.same_marks.ensures ∙ c.if-not-same_marks.false))

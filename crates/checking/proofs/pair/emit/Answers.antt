-- `checking::pair::emit` meets its contract. Assumes nothing.
use Rattle.std.proofs.Common.{sym}
use Rattle.std.proofs.lemmas.Result.{err_from_is_err_and}
use Rattle.checking.proofs.lemmas.pair_emission.Laws.{emit_refused, emit_short, emit_served, list_ready}
use Rattle.checking.proofs.pair.emit.Goals as goal

pub returns-in_err-totals : goal.returns-in_err-totals
returns-in_err-totals c =
    let p = err_from_is_err_and c.from_residual.result c.from_residual.ensures.1 in
    rw (p.1, p.2) (emit_refused _ _ _ _ _ _ _ (sym c.in_err-totals.ensures))

pub returns-then-out-totals : goal.returns-then-out-totals
returns-then-out-totals c = emit_short _ _ _ _ _ _ (sym c.in_ok-totals.ensures) c.if-out-totals.true

pub put_list-requires : goal.put_list-requires
put_list-requires c = list_ready _ _ c.args.hb _ _ _ (sym c.in_ok-totals.ensures) c.if-out-totals.false

pub returns : goal.returns
returns c = emit_served _ _ _ _ _ _ (sym c.in_ok-totals.ensures) _ c.if-out-totals.false c.put_list.ensures

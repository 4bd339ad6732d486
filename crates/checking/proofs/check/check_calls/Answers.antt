-- `checking::check::check_calls` meets its contract. Assumes nothing.
use Rattle.std.proofs.Common.{◌≡◌, ◌*◌, ◌≤◌, length, sym, refl, ap, arith, length-take-le}
use Rattle.std.proofs.lemmas.Result.{err_from_is_err_and}
use Rattle.circuit.specs.Outcome.{served, Yields}
use Rattle.checking.specs.Miter.{miter_outcome}
use Rattle.checking.specs.Check.{held}
use Rattle.checking.proofs.lemmas.check.Claim.{held_made, miter_room, held_few, held_room, check_refused, check_served}
use Rattle.checking.proofs.check.check_calls.Goals as goal
use Rattle.checking.proofs.check.check_calls.Goals.{In_ok-gates, After-make_calls-standing}

made : (g : In_ok-gates) → let a = g.args in miter_outcome a.na a.a.now a.nb a.b.now (length a.work.now) ≡ served g.in_ok-gates.gates
made g = sym g.in_ok-gates.ensures.answer

-- what stands after the calls
left : (l : After-make_calls-standing) → let a = l.args in let h = held a.na a.a.now a.nb a.b.now a.calls.now a.work.now l.in_ok-gates.gates in Yields l.make_calls-standing.result l.make_calls-standing.new.words h.gates h.words
left l = held_made l.args.na l.args.a.now l.args.nb l.args.b.now l.args.calls.now l.args.work.now _ _ _ _ l.in_ok-gates.ensures.buffer l.make_calls-standing.ensures

inside : (l : After-make_calls-standing) → 3 * l.make_calls-standing.result ≤ length l.make_calls-standing.new.words
inside l = held_room l.args.na l.args.a.now l.args.nb l.args.b.now l.args.calls.now l.args.work.now l.in_ok-gates.gates (sym l.in_ok-gates.ensures.answer) _ _ (left l)

pub returns-in_err-gates : goal.returns-in_err-gates
returns-in_err-gates c =
    let p = err_from_is_err_and c.from_residual.result c.from_residual.ensures.1 in
    rw (p.1, p.2) (check_refused c.args.na c.args.a.now c.args.nb c.args.b.now c.args.calls.now c.args.work.now c.args.out.now _ _ _ _ _
    (sym c.in_err-gates.ensures.answer) refl c.in_err-gates.ensures.buffer refl)

pub make_calls-standing-requires : goal.make_calls-standing-requires
make_calls-standing-requires c =
    omega (arith, miter_room c.args.na c.args.a.now c.args.nb c.args.b.now c.args.calls.now c.args.work.now c.in_ok-gates.gates (made (goal.at.make_calls-standing-requires c).In_ok-gates), ap length c.in_ok-gates.ensures.buffer)

pub overflow_mul-standing : goal.overflow_mul-standing
overflow_mul-standing c =
    omega (arith, held_few c.args.na c.args.a.now c.args.nb c.args.b.now c.args.calls.now c.args.work.now c.in_ok-gates.gates (made (goal.at.overflow_mul-standing c).In_ok-gates) _ _ (left (goal.at.overflow_mul-standing c).After-make_calls-standing))

pub slice_bounds-emit-end : goal.slice_bounds-emit-end
slice_bounds-emit-end c = inside (goal.at.slice_bounds-emit-end c).After-make_calls-standing

pub slice_bounds-emit-end-2 : goal.slice_bounds-emit-end-2
slice_bounds-emit-end-2 c = sym (length-take-le (3 * c.make_calls-standing.result) c.make_calls-standing.new.words (inside (goal.at.slice_bounds-emit-end-2 c).After-make_calls-standing))

pub returns : goal.returns
returns c =
    check_served c.args.na c.args.a.now c.args.nb c.args.b.now c.args.calls.now c.args.work.now c.args.out.now _ c.make_calls-standing.new.words _ c.in_ok-gates.gates c.make_calls-standing.result
    (made (goal.at.returns c).In_ok-gates) (left (goal.at.returns c).After-make_calls-standing) c.emit.ensures

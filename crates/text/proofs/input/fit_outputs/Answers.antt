-- `text::input::fit_outputs` meets its contract. Assumes nothing.
use Rattle.std.proofs.Common.{◌≡◌, ◌+◌, ◌*◌, Bool, not, length, ap, arith}
use mir.Val.{bool_byte}
use Rattle.text.specs.CheckInput.{outputs_text}
use Rattle.text.proofs.answer.Laws.{fit_refused}
use Rattle.text.proofs.input.Laws.{size_is, parts}
use Rattle.text.proofs.input.fit_outputs.Goals as goal
use Rattle.text.proofs.input.fit_outputs.Goals.{After-alike}

-- the size that was worked out is that of the text
size : (c : After-alike) → length (outputs_text c.args.h c.args.first c.args.second) ≡ 2 * c.args.h.lines + 8 + bool_byte (not c.alike.result)
size c = omega (arith, size_is c.args.h c.args.first c.args.second, ap (λ (t : Bool). bool_byte (not t)) c.alike.ensures)

pub overflow_add-size-2 : goal.overflow_add-size-2
overflow_add-size-2 c =
    let p = parts c.args.h c.args.first c.args.second in
    omega (arith, size (goal.at.overflow_add-size-2 c).After-alike, p.sum, p.high, c.requires)

pub returns-then-out-size : goal.returns-then-out-size
returns-then-out-size c =
    fit_refused (outputs_text c.args.h c.args.first c.args.second) c.args.out.now (omega (arith, size (goal.at.returns-then-out-size c).After-alike))

pub put_checked-requires : goal.put_checked-requires
put_checked-requires c = omega (arith, size (goal.at.put_checked-requires c).After-alike, c.if-out-size.false)

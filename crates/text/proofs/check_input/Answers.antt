-- `text::check_input` meets its contract. Assumes nothing.
use Rattle.std.proofs.Common.{length, arith}
use Rattle.text.proofs.input.Laws.{checked_told}
use Rattle.text.proofs.check_input.Goals as goal

pub returns : goal.returns
returns c =
    let y = checked_told c.args.first.now c.args.second.now c.args.state.now (length c.args.a.now) (length c.args.b.now) c.args.out.now (omega arith) (omega arith) _ c.check_files-answer.ensures _ _ c.fit_checked.ensures in
    record { answer = y.answer; buffer = y.buffer; kept = λ short. absurd (short (omega arith, omega arith)) }

-- `text::compare` meets its contract. Assumes nothing.
use Rattle.std.proofs.Common.{length, arith}
use Rattle.text.specs.Compare.{rooms}
use Rattle.text.proofs.Rooms.{compared_told}
use Rattle.text.proofs.compare.Goals as goal

pub returns : goal.returns
returns c =
    let y = compared_told c.args.first.now c.args.second.now (rooms (length c.args.a.now) (length c.args.b.now) (length c.args.miter.now) (length c.args.clauses.now)) (omega arith) (omega arith) (omega arith) (omega arith) _ _ c.compare_files-answer.ensures _ _ c.args.out.now c.fit_answer.ensures in
    record { answer = y.answer; buffer = y.buffer; kept = λ short. absurd (short (omega arith, omega arith, omega arith, omega arith)) }

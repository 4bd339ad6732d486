-- `text::comparison::reduce_gates` meets its contract. Assumes nothing.
use Rattle.std.proofs.Common.{sym}
use Rattle.circuit.proofs.Promises.{never}
use Rattle.text.proofs.comparison.Laws.{reduce_served, left_in}
use Rattle.text.proofs.comparison.reduce_gates.Goals as goal

pub returns-in-Ok : goal.returns-in-Ok
returns-in-Ok c = left_in _ _ c.args.room.now c.requires _ _ _ _ c.in-Ok.ensures.answer c.in-Ok.ensures.buffer c.reduce.auto.words

pub returns-in-Err : goal.returns-in-Err
returns-in-Err c = absurd (never (reduce_served _ _ c.args.room.now c.requires) (sym c.in-Err.ensures.answer))

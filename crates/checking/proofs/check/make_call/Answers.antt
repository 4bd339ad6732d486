-- `checking::check::make_call` meets its contract. Assumes nothing.
use Rattle.std.proofs.Common.{refl, arith}
use Rattle.checking.proofs.lemmas.check.Laws.{step_called, reduce_called}
use Rattle.checking.proofs.check.make_call.Goals as goal

pub returns-in-Ok-Some : goal.returns-in-Ok-Some
returns-in-Ok-Some c =
    rw c.in-StepOn.is (step_called _ _ _ _ (omega arith) c.step.auto.words _ _ (rw c.in-Ok-Some.field-0-is at c.in-Ok-Some.ensures.answer) c.in-Ok-Some.ensures.buffer refl)

pub returns-in-Ok-None : goal.returns-in-Ok-None
returns-in-Ok-None c =
    rw c.in-StepOn.is (step_called _ _ _ _ (omega arith) c.step.auto.words _ _ (rw c.in-Ok-None.field-0-is at c.in-Ok-None.ensures.answer) c.in-Ok-None.ensures.buffer refl)

pub returns-in-Err : goal.returns-in-Err
returns-in-Err c =
    rw c.in-StepOn.is (step_called _ _ _ _ (omega arith) c.step.auto.words _ _ c.in-Err.ensures.answer c.in-Err.ensures.buffer refl)

pub returns-in-Ok : goal.returns-in-Ok
returns-in-Ok c = rw c.in-ReduceOn.is (reduce_called _ _ _ _ (omega arith) c.reduce.auto.words _ _ c.in-Ok.ensures.answer c.in-Ok.ensures.buffer refl)

pub returns-in-Err-reduce : goal.returns-in-Err-reduce
returns-in-Err-reduce c =
    rw c.in-ReduceOn.is (reduce_called _ _ _ _ (omega arith) c.reduce.auto.words _ _ c.in-Err-reduce.ensures.answer c.in-Err-reduce.ensures.buffer refl)

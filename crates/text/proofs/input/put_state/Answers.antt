-- `text::input::put_state` meets its contract. Assumes nothing.
use native.Mathlib.Omega.{arith}
use Rattle.text.proofs.input.Laws.{stating_start, stating_on, stating_done}
use Rattle.text.proofs.input.put_state.Goals as goal

pub loop-i-init : goal.loop-i-init
loop-i-init c = stating_start _ _ _ c.requires

pub loop-i-preserved : goal.loop-i-preserved
loop-i-preserved c = stating_on _ _ _ _ _ _ c.loop-i.invariant (omega arith)

pub returns : goal.returns
returns c = stating_done _ _ _ _ _ _ c.loop-i.invariant (omega arith)

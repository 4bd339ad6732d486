-- `text::comparison::reduce_miter` meets its contract. Assumes nothing.
use Rattle.std.proofs.Common.{List, length, sym, ap, subst, arith}
use Rattle.circuit.specs.declared.gate.Gate.{Gate}
use Rattle.circuit.specs.Words.{gates_of}
use Rattle.circuit.proofs.Promises.{never}
use Rattle.checking.specs.Miter.{miter_gates}
use Rattle.checking.specs.Reduce.{reduce_gates}
use Rattle.text.specs.private.Comparing.{LeftIn}
use Rattle.text.proofs.comparison.Laws.{miter_made, miter_in}
use Rattle.text.proofs.comparison.reduce_miter.Goals as goal
use Rattle.text.proofs.comparison.reduce_miter.Goals.{In-Ok}

-- the miter was made
made : (c : In-Ok) → let p = c.args.pair in LeftIn p.first.header.lines c.in-Ok.gates c.miter.new.out (miter_gates (gates_of p.first.words.now) (gates_of p.second.words.now))
made c =
    let p = c.args.pair in
    miter_in p.first.header p.second.header _ _ _ _ p.first.cascade p.second.cascade p.same_header _ _ _ (omega (arith, p.first.few, p.second.few, c.requires)) c.in-Ok.ensures.answer c.in-Ok.ensures.buffer c.miter.auto.out

pub reduce_gates-requires : goal.reduce_gates-requires
reduce_gates-requires c = (made (goal.at.reduce_gates-requires c).In-Ok).words

pub returns-in-Ok : goal.returns-in-Ok
returns-in-Ok c =
    subst (LeftIn _ _ _) (ap (λ (gs : List Gate). (reduce_gates gs).left) (made (goal.at.returns-in-Ok c).In-Ok).gates_are) c.reduce_gates.ensures

pub returns-in-Err : goal.returns-in-Err
returns-in-Err c =
    let p = c.args.pair in
    absurd (never (miter_made p.first.header p.second.header _ _ _ _ p.first.cascade p.second.cascade p.same_header (length c.args.room.now) (omega (arith, p.first.few, p.second.few, c.requires))) (sym c.in-Err.ensures.answer))

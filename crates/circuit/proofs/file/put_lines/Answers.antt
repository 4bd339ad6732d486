-- `circuit::file::put_lines` meets its contract.
use Rattle.std.proofs.Common.{arith}
use Rattle.circuit.proofs.lemmas.file.put.Laws.{rest_length}
use Rattle.circuit.proofs.lemmas.file.Writes.{typing_at, typing_room, typing_target, typing_on, typing_done}
use Rattle.circuit.proofs.file.put_lines.Goals as goal

pub put_gate_line-at-requires : goal.put_gate_line-at-requires
put_gate_line-at-requires c =
    let h = typing_at _ _ _ _ _ c.loop-i.invariant in
    (typing_target _ _ _ _ _ c.loop-i.invariant (omega arith) _ c.gate_at.ensures, omega (arith, typing_room _ _ _ _ _ c.loop-i.invariant (omega arith) _ c.gate_at.ensures, rest_length c.loop-i.out c.loop-i.at (omega arith)))

pub loop-i-preserved : goal.loop-i-preserved
loop-i-preserved c =
    typing_on _ _ _ _ _ c.loop-i.invariant (omega arith) _ c.gate_at.ensures _ _ c.put_gate_line-at.ensures c.put_gate_line-at.auto.out

pub returns : goal.returns
returns c =
    typing_done _ _ _ _ _ c.loop-i.invariant (omega arith) _ _ c.put.ensures c.put.auto.out

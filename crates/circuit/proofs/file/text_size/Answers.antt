-- `circuit::file::text_size` meets its contract.
use Rattle.std.proofs.Common.{arith}
use Rattle.circuit.proofs.lemmas.file.Writes.{sizing_start, sizing_on, sizing_done}
use Rattle.circuit.proofs.file.text_size.Goals as goal

pub loop-i-init : goal.loop-i-init
loop-i-init c = sizing_start _ _ _ c.requires.0 c.header_size-size.ensures.0 c.header_size-size.ensures.1

pub loop-i-preserved : goal.loop-i-preserved
loop-i-preserved c =
    sizing_on _ _ _ _ c.loop-i.invariant (omega arith) _ c.gate_at.ensures _ c.gate_size-size.ensures.0 c.gate_size-size.ensures.1

pub returns : goal.returns
returns c = sizing_done _ _ _ _ c.loop-i.invariant (omega arith)

-- `circuit::file::put::put` meets its contract.
use Rattle.std.proofs.Common.{set, ap₂, ◌∙◌, arith}
use Rattle.bits.proofs.Lists.{over_prefix}
use Rattle.circuit.proofs.file.put.put.Goals as goal

pub loop-i-preserved : goal.loop-i-preserved
loop-i-preserved g c =
    ap₂ (λ xs x. set xs c.loop-i.i x) c.loop-i.invariant c.index-items-i.is
    ∙ over_prefix c.args.items.now c.args.out.now c.index-items-i.result c.loop-i.i (omega arith) (omega arith)

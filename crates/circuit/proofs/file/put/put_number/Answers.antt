-- `circuit::file::put::put_number` meets its contract. Assumes nothing.
use Rattle.std.proofs.Common.{length, ap, arith, length-set}
use Rattle.circuit.proofs.lemmas.file.Numbers.{text_long}
use Rattle.circuit.proofs.file.put.put_number.Goals as goal

pub bounds-out-1 : goal.bounds-out-1
bounds-out-1 c = simp length-set (omega (arith, ap length (text_long c.args.k c.if-k-ge10.true)))

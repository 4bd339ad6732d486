-- `circuit::file::fill::joined` meets its contract. Assumes nothing.
use Rattle.std.proofs.Common.{◌^◌, sym, ap, ◌∙◌}
use lib.Bits.{bit_or, or_zero_r}
use Rattle.bits.proofs.Bools.{cond-false}
use Rattle.circuit.proofs.file.fill.joined.Goals as goal

pub returns : goal.returns
returns c =
    sym (ap (bit_or c.args.mask) (cond-false c.args.set (2 ^ c.args.k) 0 c.if-set.false) ∙ or_zero_r c.args.mask)

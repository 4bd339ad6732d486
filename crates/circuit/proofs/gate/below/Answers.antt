-- `circuit::gate::below` meets its contract. Assumes nothing.
use Rattle.std.proofs.Common.{ℕ, eqb, ap, ◌∙◌}
use lib.Bits.{bit_and}
use Rattle.circuit.proofs.lemmas.gate.Valid.{above_none}
use Rattle.circuit.proofs.gate.below.Goals as goal

pub returns : goal.returns
returns c =
    ap (λ (x : ℕ). eqb (bit_and c.args.mask x) 0) c.above.ensures ∙ above_none c.args.n c.args.mask c.ranges.mask.fits

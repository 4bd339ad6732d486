-- `circuit::gate::above` meets its contract. Assumes nothing.
use Rattle.std.proofs.Common.{◌^◌, ap, ◌∙◌, mod-eq_of_lt, arith, pow_pos, pow_mono}
use lib.Pow.{pow-lt}
use Rattle.circuit.proofs.gate.above.Goals as goal

pub returns-then-n-lt-MAX_LINES : goal.returns-then-n-lt-MAX_LINES
returns-then-n-lt-MAX_LINES c =
    omega (arith, c.line.ensures ∙ ap (◌^◌ 2) (mod-eq_of_lt c.if-n-lt-MAX_LINES.true), pow-lt c.if-n-lt-MAX_LINES.true, pow_pos c.args.n)

pub returns : goal.returns
returns c = omega (arith, pow_mono c.if-n-lt-MAX_LINES.false)

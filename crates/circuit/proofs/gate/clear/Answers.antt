-- `circuit::gate::clear` meets its contract. Assumes nothing.
use Rattle.std.proofs.Common.{◌≡◌, ℕ, ◌%◌, ◌^◌, ◌<◌, ◌≤◌, ltb, sym, ap, ◌∙◌, mod-eq_of_lt, ltb-false, ltb-true, eq-eqb, ne_eqb, le-leb}
use lib.Bits.{bit_and}
use borrow.Author.Tests.{lt-leb}
use Rattle.bits.specs.Digits.{bit}
use Rattle.bits.proofs.Bools.{either, refuted}
use Rattle.bits.proofs.Digits.{bit_above, line_clear, clear_line}
use Rattle.circuit.specs.Gate.{max_lines}
use Rattle.circuit.proofs.gate.clear.Goals as goal

-- a mask has no bit at 64 or above
high_clear : (m k : ℕ) → m < 2 ^ max_lines → max_lines ≤ k → bit_and m (2 ^ k) ≡ 0
high_clear m k h l = line_clear m k (bit_above max_lines m k h l)

-- the digit that the code reads
digit : (m k : ℕ) → k < max_lines → bit m k ≡ bit m (k % max_lines)
digit m k h = ap (bit m) (sym (mod-eq_of_lt h))

pub returns-then-has : goal.returns-then-has
returns-then-has c =
    either (ltb c.args.k max_lines)
    (λ t.
    lt-leb max_lines c.args.k (ltb-true _ _ t)
    ∙ sym (ne_eqb _ _ (λ z. refuted (clear_line c.args.mask c.args.k z) (digit c.args.mask c.args.k (ltb-true _ _ t) ∙ sym c.has.ensures ∙ c.if-has.true))))
    (λ t.
    le-leb max_lines c.args.k (ltb-false _ _ t)
    ∙ sym (eq-eqb _ _ (high_clear c.args.mask c.args.k c.ranges.mask.fits (ltb-false _ _ t))))

pub returns : goal.returns
returns c =
    sym (eq-eqb _ _
    (either (ltb c.args.k max_lines)
    (λ t. line_clear c.args.mask c.args.k (digit c.args.mask c.args.k (ltb-true _ _ t) ∙ sym c.has.ensures ∙ c.if-has.false))
    (λ t. high_clear c.args.mask c.args.k c.ranges.mask.fits (ltb-false _ _ t))))

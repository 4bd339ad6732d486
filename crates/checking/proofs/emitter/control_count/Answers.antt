-- `checking::emitter::control_count` meets its contract. Assumes nothing.
use Rattle.std.proofs.Common.{◌≡◌, ℕ, suc, ◌-◌, List, length, sym, ap, ◌∙◌, le_refl, arith}
use lib.Bits.{bit_and, bit_or, or_lt}
use Rattle.bits.specs.Digits.{lines_in}
use Rattle.bits.proofs.Lowest.{lines_none, lines_lowest}
use Rattle.circuit.specs.Gate.{max_lines, control_count}
use Rattle.circuit.proofs.Promises.{valid_facts, count_lines}
use Rattle.checking.proofs.emitter.control_count.Goals as goal
use Rattle.checking.proofs.emitter.control_count.Goals.{Start}

counted : (s : Start) → control_count s.args.g ≡ length (lines_in (bit_or s.args.g.positive s.args.g.negative) max_lines)
counted s = count_lines max_lines s.args.g s.requires

pub returns-then-lines-eq0 : goal.returns-then-lines-eq0
returns-then-lines-eq0 c =
    sym (counted (goal.at.returns-then-lines-eq0 c).Start ∙ ap (λ (x : ℕ). length (lines_in x max_lines)) c.if-lines-eq0.true ∙ ap length (lines_none max_lines))

pub returns : goal.returns
returns c =
    let v = valid_facts max_lines c.args.g c.requires in
    let few = lines_lowest max_lines max_lines (bit_or c.args.g.positive c.args.g.negative) (le_refl max_lines) (omega arith) (or_lt max_lines _ _ v.positive_below v.negative_below) in
    let less : (bit_or c.args.g.positive c.args.g.negative) - 1 ≡ c.wrapping_sub_u64.result = omega (arith, c.wrapping_sub_u64.ensures.value) in
    let left : bit_and (bit_or c.args.g.positive c.args.g.negative) ((bit_or c.args.g.positive c.args.g.negative) - 1) ≡ 0 = ap (bit_and (bit_or c.args.g.positive c.args.g.negative)) less ∙ c.if-lines-wrapping_sub_u64-ne0.false in
    sym (counted (goal.at.returns c).Start ∙ ap length few ∙ ap (λ (x : ℕ). suc (length (lines_in x max_lines))) left ∙ ap (λ (l : List ℕ). suc (length l)) (lines_none max_lines))

-- `checking::faults::free_lines` meets its contract. Assumes nothing.
use Rattle.std.proofs.Common.{◌≡◌, ℕ, ◌-◌, ◌%◌, ◌^◌, ◌<◌, ap, ◌∙◌, ap₂, arith}
use Rattle.std.proofs.lemmas.Nat.{pow_below}
use lib.Bits.{bit_and, bit_or, bit_xor, or_lt}
use Rattle.circuit.specs.declared.gate.Gate.{Gate}
use Rattle.circuit.specs.Gate.{max_lines}
use Rattle.circuit.proofs.Promises.{valid_facts, valid_more}
use Rattle.checking.proofs.lemmas.faults.Masks.{flipped, free_mask}
use Rattle.checking.proofs.faults.free_lines.Goals as goal

pub returns : goal.returns
returns c =
    let g : Gate = c.args.g in
    let v = valid_facts max_lines g (valid_more c.args.n max_lines g c.requires.few_lines c.requires.valid_gate) in
    let k : g.target % max_lines ≡ g.target = omega (arith, v.target_below) in
    let line : c.line.result ≡ 2 ^ g.target = c.line.ensures ∙ ap (λ (x : ℕ). 2 ^ x) k in
    let used : ℕ = bit_or (bit_or g.positive g.negative) c.line.result in
    let small : used < 2 ^ max_lines = or_lt max_lines _ _ (or_lt max_lines _ _ v.positive_below v.negative_below) (omega (arith, line, pow_below g.target max_lines v.target_below)) in
    ap₂ bit_and c.lines_below.ensures (flipped max_lines used small ∙ ap (λ (y : ℕ). bit_xor (bit_or (bit_or g.positive g.negative) y) (2 ^ max_lines - 1)) line)
    ∙ free_mask c.args.n g c.requires.few_lines

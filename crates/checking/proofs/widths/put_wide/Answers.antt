-- `checking::widths::put_wide` meets its contract.
use Rattle.std.proofs.Common.{◌≡◌, ◌∙◌, List, ℤ, pos, set, get_or, ap₂, arith, to_z, of_z, w32}
use Rattle.std.proofs.lemmas.Grind.{common_steps}
use Rattle.bits.proofs.Lists.{over_prefix}
use Rattle.checking.proofs.widths.put_wide.Goals as goal

pub loop-i-preserved : goal.loop-i-preserved
loop-i-preserved c =
    let i = c.loop-i.i in
    let is : to_z w32 (of_z w32 c.from.result) ≡ get_or c.args.words.now i (pos 0) = grind (arith, common_steps) in
    ap₂ (λ (xs : List ℤ) (x : ℤ). set xs i x) c.loop-i.invariant is
    ∙ over_prefix c.args.words.now c.args.out.now (pos 0) i (omega arith) (omega arith)

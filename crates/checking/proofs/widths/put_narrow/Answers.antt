-- `checking::widths::put_narrow` meets its contract.
use Rattle.std.proofs.Common.{◌∙◌, List, ℤ, pos, set, get_or, ap₂, arith}
use Rattle.bits.proofs.Lists.{over_prefix}
use Rattle.checking.proofs.lemmas.widths.Laws.{cut_same}
use Rattle.checking.proofs.widths.put_narrow.Goals as goal

pub loop-i-preserved : goal.loop-i-preserved
loop-i-preserved c =
    let i = c.loop-i.i in
    let words = c.args.words.now in
    ap₂ (λ (xs : List ℤ) (x : ℤ). set xs i x) c.loop-i.invariant (cut_same (get_or words i (pos 0)) (c.requires.narrow_words i (omega arith) (pos 0)))
    ∙ over_prefix words c.args.out.now (pos 0) i (omega arith) (omega arith)

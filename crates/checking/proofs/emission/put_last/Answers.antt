-- `checking::emission::put_last` meets its contract.
use Rattle.std.proofs.Common.{pos, [], ◌∷◌, sym, ◌≡◌, ◌+◌, ◌<◌, ℕ, ℤ, length, List, ap, ◌∙◌, arith, to_z, of_z}
use Rattle.std.proofs.lemmas.Grind.{common_steps}
use Rattle.bits.specs.Lists.{over}
use Rattle.checking.specs.Clauses.{plus}
use Rattle.checking.specs.Stored.{word_width}
use Rattle.checking.proofs.lemmas.emission.Lines.{or_front, or_none, or_next, or_all}
use Rattle.checking.proofs.emission.put_last.Goals as goal

pub loop-k-init : goal.loop-k-init
loop-k-init c =
    let count : to_z word_width (of_z word_width c.number.result) ≡ pos c.args.count = grind (arith, common_steps) in
    c.put.ensures.buffer
    ∙ ap (λ (z : ℤ). over (pos 0 ∷ z ∷ []) c.args.out.now) count
    ∙ sym (or_none c.args.count c.args.used c.args.out.now)

pub loop-k-preserved : goal.loop-k-preserved
loop-k-preserved c =
    let room : c.loop-k.k + 2 < length c.args.out.now = omega (arith, c.requires.out_room) in
    let word : to_z word_width (of_z word_width c.literal.result) ≡ plus (c.args.used + 1 + c.loop-k.k) = grind (arith, common_steps) in
    or_next c.args.count c.args.used c.args.out.now c.loop-k.out c.loop-k.k _ c.loop-k.invariant room word

pub returns : goal.returns
returns c =
    let all : c.loop-k.k ≡ c.args.count = omega arith in
    c.loop-k.invariant
    ∙ ap (λ (k : ℕ). over (or_front c.args.count c.args.used k) c.args.out.now) all
    ∙ ap (λ (l : List ℤ). over l c.args.out.now) (or_all c.args.count c.args.used)

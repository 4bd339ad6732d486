-- `checking::emission::put_constants` meets its contract.
use Rattle.std.proofs.Common.{◌≡◌, ◌+◌, ◌-◌, ◌%◌, ◌<◌, ◌≤◌, Bool, [], ◌∷◌, length, take, drop, ℤ, pos, ap, ◌∙◌, arith, to_z, of_z}
use Rattle.std.proofs.lemmas.Grind.{common_steps}
use Rattle.bits.specs.Digits.{bit}
use Rattle.bits.specs.Lists.{over}
use Rattle.circuit.specs.Gate.{max_lines}
use Rattle.checking.specs.Stored.{word_width}
use Rattle.checking.specs.private.Emitter.{literal_word}
use Rattle.checking.proofs.lemmas.emission.Constants.{walked_none, walked_all, line_below, constant_room, walked_next}
use Rattle.checking.proofs.lemmas.emitter.Parts.{lent_long}
use Rattle.checking.proofs.emission.put_constants.Goals as goal
use Rattle.checking.proofs.emission.put_constants.Goals.{After-lowest-line}

below : (c : After-lowest-line) → c.lowest-line.result < c.args.h.lines
below c = line_below _ _ _ _ _ c.requires c.loop-left.invariant c.loop-left-test.true _ c.lowest-line.ensures

room : (c : After-lowest-line) → c.loop-left.at + 3 ≤ length c.loop-left.out
room c = constant_room _ _ _ _ _ c.requires c.loop-left.invariant c.loop-left-test.true _ c.lowest-line.ensures

pub loop-left-init : goal.loop-left-init
loop-left-init c = walked_none _ _ c.requires

pub put-at-requires : goal.put-at-requires
put-at-requires c = omega (arith, lent_long c.loop-left.out c.loop-left.at, room (goal.at.put-at-requires c).After-lowest-line)

pub loop-left-preserved : goal.loop-left-preserved
loop-left-preserved c =
    let line = c.lowest-line.result in
    let below : line % max_lines ≡ line = omega (arith, below (goal.at.loop-left-preserved c).After-lowest-line, c.requires.lines) in
    let sign : c.has-positive.result ≡ bit c.args.h.values line = c.has-positive.ensures ∙ ap (bit c.args.h.values) below in
    let literal : c.literal.result ≡ literal_word (bit c.args.h.values line) (line + 1) = c.literal.ensures ∙ ap (λ (b : Bool). literal_word b (line + 1)) sign in
    let is : to_z word_width (of_z word_width c.literal.result) ≡ literal_word (bit c.args.h.values line) (line + 1) = grind (arith, common_steps) in
    let lent = take (length c.loop-left.out - c.loop-left.at) (drop c.loop-left.at c.loop-left.out) in
    walked_next _ _ _ _ _ c.requires c.loop-left.invariant c.loop-left-test.true line c.lowest-line.ensures c.put-at.new.out c.put-at.result
    (record { count = c.put-at.ensures.count; buffer = c.put-at.ensures.buffer ∙ ap (λ (z : ℤ). over (pos 0 ∷ pos 1 ∷ z ∷ []) lent) is })

pub returns : goal.returns
returns c = walked_all _ _ _ _ _ c.requires c.loop-left.invariant c.loop-left-test.false

-- `checking::emitter::put_controls` meets its contract.
use Rattle.std.proofs.Common.{◌≡◌, ◌+◌, ◌-◌, ◌*◌, ◌%◌, ◌<◌, Bool, [], ◌∷◌, not, length, take, drop, set, ℤ, pos, ap, ◌∙◌, arith, length-drop, length-take, length-set, to_z, of_z}
use Rattle.std.proofs.lemmas.Grind.{common_steps}
use Rattle.bits.specs.Digits.{bit}
use Rattle.bits.specs.Lists.{over}
use Rattle.circuit.specs.Gate.{max_lines}
use Rattle.checking.specs.Clauses.{minus}
use Rattle.checking.specs.Stored.{word_width}
use Rattle.checking.specs.private.Emitter.{literal_word, literal_at, by_line}
use Rattle.checking.proofs.lemmas.emitter.Parts.{walk_start, walk_done, inside, walk_on}
use Rattle.checking.proofs.emitter.put_controls.Goals as goal
use Rattle.checking.proofs.emitter.put_controls.Goals.{After-lowest-line}

-- the line is one of the n, and its control one of the k
at : (c : After-lowest-line) → (c.lowest-line.result < c.args.n) × (c.loop-left.i < c.args.k)
at c = inside _ _ _ _ _ _ _ _ _ _ c.requires.currents.lines c.requires.lines c.requires.out_room c.loop-left.invariant c.loop-left-test.true _ c.lowest-line.ensures

pub loop-left-init : goal.loop-left-init
loop-left-init c = walk_start _ _ _ _ _ _ _ c.requires.lines c.requires.out_room

pub bounds-current-line : goal.bounds-current-line
bounds-current-line c = omega (arith, at (goal.at.bounds-current-line c).After-lowest-line, c.requires.currents.long)

pub literal-requires : goal.literal-requires
literal-requires c = c.requires.currents.small _ (at (goal.at.literal-requires c).After-lowest-line).0

pub bounds-out-i : goal.bounds-out-i
bounds-out-i c = omega (arith, at (goal.at.bounds-out-i c).After-lowest-line, c.requires.out_room, c.loop-left.invariant.long)

pub literal-requires-in-loop-left : goal.literal-requires-in-loop-left
literal-requires-in-loop-left c = c.requires.currents.small _ (at (goal.at.literal-requires-in-loop-left c).After-lowest-line).0

pub put-requires : goal.put-requires
put-requires c =
    simp (length-take, length-drop, length-set) (omega (arith, at (goal.at.put-requires c).After-lowest-line, c.requires.out_room, c.loop-left.invariant.long))

pub loop-left-preserved : goal.loop-left-preserved
loop-left-preserved c =
    let line = c.lowest-line.result in
    let below : line % max_lines ≡ line = omega (arith, at (goal.at.loop-left-preserved c).After-lowest-line, c.requires.currents.lines) in
    let sign : c.has-sign.result ≡ bit c.args.g.positive line = c.has-sign.ensures ∙ ap (bit c.args.g.positive) below in
    let v = by_line c.args.current.now line in
    let z : ℤ = to_z word_width (of_z word_width c.literal.result) in
    let negated : c.literal.result ≡ literal_word (not (bit c.args.g.positive line)) v = c.literal.ensures ∙ ap (λ (b : Bool). literal_word (not b) v) sign in
    let is : z ≡ literal_word (not (bit c.args.g.positive line)) v = grind (arith, common_steps) in
    let o = set c.loop-left.out c.loop-left.i z in
    let put : c.put.new.out ≡ over (pos 0 ∷ pos 2 ∷ minus c.args.p ∷ literal_at c.args.current.now c.args.g.positive line ∷ []) (take (length o - (c.args.k + 4 * c.loop-left.i)) (drop (c.args.k + 4 * c.loop-left.i) o)) = grind (arith, common_steps) in
    walk_on _ _ _ _ _ _ _ _ _ _ c.requires.currents.lines c.requires.lines c.requires.out_room c.loop-left.invariant c.loop-left-test.true line c.lowest-line.ensures c.put.new.out z is put c.put.auto.out

pub returns : goal.returns
returns c =
    walk_done _ _ _ _ _ _ _ _ _ _ c.requires.currents.lines c.requires.lines c.requires.out_room c.loop-left.invariant c.loop-left-test.false

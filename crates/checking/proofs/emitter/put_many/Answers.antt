-- `checking::emitter::put_many` meets its contract. Assumes nothing.
use Rattle.std.proofs.Common.{◌≡◌, ◌+◌, ◌*◌, ◌-◌, [], ◌∷◌, List, ℤ, pos, length, take, drop, sym, refl, ap, ◌∙◌, arith}
use Rattle.std.proofs.lemmas.Grind.{common_steps}
use lib.Bits.{bit_or}
use borrow.Rule.Slice.PartMut.{put_mid}
use Rattle.bits.specs.Lists.{over}
use Rattle.checking.specs.Clauses.{plus, minus}
use Rattle.checking.specs.private.Emitter.{by_line}
use Rattle.checking.proofs.lemmas.emitter.Parts.{Many, lines_few, many_filled}
use Rattle.checking.proofs.lemmas.emitter.Whole.{target_below, target_small, many_ready, written_many, words_many}
use Rattle.checking.proofs.emitter.put_many.Goals as goal
use Rattle.checking.proofs.emitter.put_many.Goals.{Start}

ready : (c : Start) → Many (bit_or c.args.g.positive c.args.g.negative) c.args.k c.args.n c.args.used (by_line c.args.current.now c.args.g.target) (length c.args.out.now)
ready c = many_ready _ _ _ _ _ c.requires.ready _ c.requires.count c.requires.many

pub offset_bounds-current-target : goal.offset_bounds-current-target
offset_bounds-current-target c = omega (arith, target_below _ _ _ _ _ c.requires.ready, c.requires.ready.currents.lines)

pub bounds-current-target : goal.bounds-current-target
bounds-current-target c = omega (arith, target_below _ _ _ _ _ c.requires.ready, c.requires.ready.currents.long)

pub number-requires : goal.number-requires
number-requires c = omega (arith, lines_few _ _ _ (ready (goal.at.number-requires c).Start).controls, c.requires.ready.currents.lines)

pub put_controls-requires-clause-lines : goal.put_controls-requires-clause-lines
put_controls-requires-clause-lines c = (ready (goal.at.put_controls-requires-clause-lines c).Start).controls

pub literal-requires-3 : goal.literal-requires-3
literal-requires-3 c = target_small _ _ _ _ _ c.requires.ready

pub returns : goal.returns
returns c =
    let r = ready (goal.at.returns c).Start in
    let v = by_line c.args.current.now c.args.g.target in
    let first : c.put-end.new.out ≡ over (pos 0 ∷ pos (c.args.k + 1) ∷ plus (c.args.used + 1) ∷ []) c.args.out.now = grind (arith, common_steps) in
    let mid : List ℤ = put_mid 3 (length c.put-end.new.out - 3) c.put-end.new.out c.put_controls.new.out in
    let last : c.put.new.out ≡ over (pos 1 ∷ pos 3 ∷ minus (c.args.used + 1 + 1) ∷ plus v ∷ plus (c.args.used + 1) ∷ []) (take (length mid - (3 + 5 * c.args.k)) (drop (3 + 5 * c.args.k) mid)) = grind (arith, common_steps) in
    record {
      count = omega (arith, c.put.ensures.count, words_many _ _ _ _ _ c.requires.ready _ c.requires.count c.requires.many);
      buffer =
          many_filled c.args.current.now c.args.g.positive _ c.args.k c.args.n c.args.used v c.args.out.now r _ _ _ first c.put_controls.ensures _ refl last
          ∙ ap (λ (l : List ℤ). over l c.args.out.now) (sym (written_many _ _ _ _ _ c.requires.ready _ c.requires.count c.requires.many));
    }

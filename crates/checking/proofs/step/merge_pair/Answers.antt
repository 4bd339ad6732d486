-- `checking::step::merge_pair` meets its contract. Assumes nothing.
use Rattle.std.proofs.Common.{ℕ, ◌-◌, ◌*◌, ◌≤◌, List, ◌++◌, length, take, drop, ap, ◌∙◌, arith, length-drop, length-take}
use Rattle.bits.specs.Lists.{over}
use Rattle.bits.proofs.Lists.{rest_lent, rest_back}
use Rattle.circuit.specs.Words.{gate_words}
use Rattle.circuit.proofs.Promises.{put_fits}
use Rattle.checking.proofs.lemmas.step.Moving.{pair_merged}
use Rattle.checking.proofs.step.merge_pair.Goals as goal

pub returns : goal.returns
returns c =
    let ws : List ℕ = c.args.words.now in
    let at : ℕ = 3 * c.args.j in
    let fits : 3 ≤ length (take (length ws - at) (drop at ws)) = omega (arith, length-take (length ws - at) (drop at ws), length-drop at ws, c.requires.second_inside) in
    pair_merged ws _ c.close_gap.new.words c.args.i c.args.j c.args.r c.requires.rising c.requires.second_inside c.requires.whole_gates
    (rest_back ws c.put_gate.new.out at (omega (arith, c.requires.second_inside))
    ∙ ap (λ (x : List ℕ). take at ws ++ x) (c.put_gate.ensures ∙ put_fits c.args.r (take (length ws - at) (drop at ws)) fits ∙ ap (over (gate_words c.args.r)) (rest_lent ws at)))
    c.close_gap.ensures

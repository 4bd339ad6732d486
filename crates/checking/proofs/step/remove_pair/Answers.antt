-- `checking::step::remove_pair` meets its contract. Assumes nothing.
use Rattle.checking.proofs.lemmas.step.Moving.{pair_removed}
use Rattle.checking.proofs.step.remove_pair.Goals as goal

pub returns : goal.returns
returns c =
    pair_removed c.args.words.now c.copy_within.new.self c.close_gap.new.words c.args.i c.args.j c.requires.rising c.requires.second_inside c.requires.whole_gates c.copy_within.ensures.after c.close_gap.ensures

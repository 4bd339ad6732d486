-- `checking::step::close_gap` meets its contract. Assumes nothing.
use Rattle.checking.proofs.lemmas.step.Moving.{gap_closed}
use Rattle.checking.proofs.step.close_gap.Goals as goal

pub returns : goal.returns
returns c =
    gap_closed c.args.words.now c.copy_within.new.self c.fill.new.self c.args.to c.args.gap c.requires c.copy_within.ensures.after (c.fill.ensures.after (λ y e. e))

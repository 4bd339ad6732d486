-- `checking::step::make_step` meets its contract. Assumes nothing.
use Rattle.std.proofs.Common.{arith}
use Rattle.checking.proofs.lemmas.step.Calls.{told_found}
use Rattle.checking.proofs.step.make_step.Goals as goal

pub returns-in-Cancel : goal.returns-in-Cancel
returns-in-Cancel c = told_found _ _ c.requires.found_at _ c.in-Cancel.is _ (omega (arith, c.requires.found_at.rising, c.requires.found_at.inside)) _ c.remove_pair.ensures

pub returns-in-RemoveControl : goal.returns-in-RemoveControl
returns-in-RemoveControl c = told_found _ _ c.requires.found_at _ c.in-RemoveControl.is _ (omega (arith, c.requires.found_at.rising, c.requires.found_at.inside)) _ c.merge_pair.ensures

pub returns-in-InvertControl : goal.returns-in-InvertControl
returns-in-InvertControl c = told_found _ _ c.requires.found_at _ c.in-InvertControl.is _ (omega (arith, c.requires.found_at.rising, c.requires.found_at.inside)) _ c.merge_pair-in-InvertControl.ensures

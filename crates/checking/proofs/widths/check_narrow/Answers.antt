-- `checking::widths::check_narrow` meets its contract.
use Rattle.std.proofs.Common.{length, refl, sym, ◌∙◌}
use Rattle.checking.proofs.lemmas.Each.{each_met, each_failed}
use Rattle.checking.proofs.lemmas.widths.Laws.{all_narrow}
use Rattle.checking.proofs.widths.check_narrow.Goals as goal

pub returns-then-all_narrow : goal.returns-then-all_narrow
returns-then-all_narrow c = let words = c.args.words.now in sym ((all_narrow words (length words)).1 (refl, c.all_narrow.ensures c.if-all_narrow.true))

pub returns-in-Some : goal.returns-in-Some
returns-in-Some c = sym (each_failed _ _ _ _ (sym c.first_wide.ensures ∙ c.in-Some.is))

pub returns-in-None : goal.returns-in-None
returns-in-None c = sym (each_met _ _ _ (sym c.first_wide.ensures ∙ c.in-None.is))

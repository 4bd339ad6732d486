-- `checking::step::search_gates` meets its contract.
use Rattle.std.proofs.Common.{sym, ◌∙◌, arith}
use Rattle.checking.proofs.lemmas.step.Searching.{words_found, words_next, words_none}
use Rattle.checking.proofs.step.search_gates.Goals as goal

pub returns-in-Some : goal.returns-in-Some
returns-in-Some c = sym (c.loop-i.invariant ∙ words_found _ _ (omega arith) _ _ _ (sym c.in-Some.ensures))

pub loop-i-preserved : goal.loop-i-preserved
loop-i-preserved c = c.loop-i.invariant ∙ words_next _ _ (omega arith) (sym c.in_default.ensures)

pub returns : goal.returns
returns c = sym (c.loop-i.invariant ∙ words_none _ _ (omega arith))

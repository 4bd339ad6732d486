-- `text::stored::Records` meets its contract as an iterator. Assumes nothing.
use native.Mathlib.Omega.{arith}
use borrow.Author.Rules.{rules}
use Rattle.std.proofs.lemmas.Bool.Decides.{nat_tests}
use Rattle.text.proofs.stored.Laws.{none_stored, first, first_two, first_left, first_step, first_fewer}
use Rattle.text.proofs.stored.RecordsIterator.next.Goals as goal

pub returns-then-is_empty-clause-steps : goal.returns-then-is_empty-clause-steps
returns-then-is_empty-clause-steps c = let e = none_stored _ (grind (arith, nat_tests)) in ((e, e), tt)

pub bounds-words-1 : goal.bounds-words-1
bounds-words-1 c = first_two _ c.requires (grind (arith, nat_tests))

pub slice_bounds-self-count : goal.slice_bounds-self-count
slice_bounds-self-count c = (first _ c.requires (grind (arith, nat_tests)) _ c.unsigned_abs.ensures.value (search rules)).inside

pub slice_bounds-self-start : goal.slice_bounds-self-start
slice_bounds-self-start c = let h = (first _ c.requires (grind (arith, nat_tests)) _ c.unsigned_abs.ensures.value (search rules)).inside in search rules

pub slice_bounds-result-end : goal.slice_bounds-result-end
slice_bounds-result-end c = let h = (first _ c.requires (grind (arith, nat_tests)) _ c.unsigned_abs.ensures.value (search rules)).inside in search rules

pub returns-clause-steps : goal.returns-clause-steps
returns-clause-steps c = first_step (first _ c.requires (grind (arith, nat_tests)) _ c.unsigned_abs.ensures.value (search rules)) _ (search rules)

pub returns-clause-goes : goal.returns-clause-goes
returns-clause-goes c =
    let f = first _ c.requires (grind (arith, nat_tests)) _ c.unsigned_abs.ensures.value (search rules) in
    record { on = λ _. (first_left f, search rules, first_fewer f); keeps = first_left f; rests = λ _. tt }

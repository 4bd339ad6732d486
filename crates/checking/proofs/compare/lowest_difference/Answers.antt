-- `checking::compare::lowest_difference` meets its contract. Assumes nothing.
use Rattle.std.proofs.Common.{◌≡◌, ℕ, true, false, rules}
use Rattle.std.proofs.lemmas.Iterator.{first_from_Range}
use Rattle.circuit.specs.Words.{gates_of}
use Rattle.checking.proofs.lemmas.compare.Laws.{differs_on, lowest_below}
use Rattle.checking.proofs.compare.lowest_difference.Goals as goal

pub returns : goal.returns
returns c =
    let h = c.args.h in
    let a = gates_of c.args.a.words.now in
    let b = gates_of c.args.b.words.now in
    lowest_below h a b c.args.count c.find.result
    (first_from_Range _ _ _ c.find.result (λ (x : ℕ). differs_on h a b x ≡ true) (λ (x : ℕ). differs_on h a b x ≡ false) c.find.ensures.ran (λ x q k. search rules) (λ x q k. search rules))

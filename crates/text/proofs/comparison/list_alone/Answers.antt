-- `text::comparison::list_alone` meets its contract. Assumes nothing.
use Rattle.std.proofs.Common.{List, ap, ap₂, subst, ◌∙◌}
use Rattle.circuit.specs.declared.gate.Gate.{Gate}
use Rattle.text.specs.Formula.{pair_formula}
use Rattle.text.specs.Compare.{list_as}
use Rattle.text.specs.private.Comparing.{listed_as, SaysCompared}
use Rattle.text.proofs.comparison.Laws.{left_headed, pair_says}
use Rattle.text.proofs.comparison.list_alone.Goals as goal

pub returns : goal.returns
returns c =
    let p = c.args.pair in
    let left = c.reduce_alone-i.ensures in
    let right = c.reduce_alone-j.ensures in
    subst (SaysCompared _ _) (ap₂ (λ (a b : List Gate). list_as (pair_formula p.first.header a b)) left.gates_are right.gates_are)
    (pair_says p.first.header p.second.header _ _ _ _ (left_headed p.first.header _ _ p.first.cascade _ _ left) (left_headed p.second.header _ _ p.second.cascade _ _ right)
    p.same_header c.args.clauses.now _ c.requires.clause_room c.emit.ensures.yields.buffer _ (c.listed.ensures ∙ ap listed_as c.emit.ensures.yields.answer))

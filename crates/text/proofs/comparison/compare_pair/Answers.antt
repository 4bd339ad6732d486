-- `text::comparison::compare_pair` meets its contract. Assumes nothing.
use Rattle.std.proofs.Common.{refl, sym, ap, ◌∙◌, arith}
use Rattle.text.specs.FileOutcome.{answered}
use Rattle.text.specs.Formula.{formula_of}
use Rattle.text.specs.Compare.{reduced, list_as}
use Rattle.text.proofs.Compares.{by_none, by_sweep, by_clauses}
use Rattle.text.proofs.Reduced.{left_marked, left_unmarked}
use Rattle.text.proofs.comparison.Laws.{left_none, left_some, says_as}
use Rattle.text.proofs.comparison.compare_pair.Goals as goal

pub returns-then-left-eq0 : goal.returns-then-left-eq0
returns-then-left-eq0 c =
    says_as _ _ _ (answered reduced) (by_none _ _ _ (left_none _ _ _ _ c.reduce_miter-left.ensures c.if-left-eq0.true)) (record { is = refl; ready = tt })

pub returns-then-header-le-MAX_SWEEP_LINES : goal.returns-then-header-le-MAX_SWEEP_LINES
returns-then-header-le-MAX_SWEEP_LINES c =
    says_as _ _ _ _ (by_sweep _ _ _ (left_some _ _ _ _ c.reduce_miter-left.ensures c.if-left-eq0.false) (omega arith)) (c.sweep.ensures.says _)

pub returns-then-marked : goal.returns-then-marked
returns-then-marked c =
    says_as _ _ _ _ (by_clauses _ _ _ (left_some _ _ _ _ c.reduce_miter-left.ensures c.if-left-eq0.false) (omega arith) ∙ ap list_as (left_marked _ _ _ (sym c.marked.ensures ∙ c.if-marked.true))) c.list_alone.ensures

pub returns : goal.returns
returns c =
    let l = c.reduce_miter-left.ensures in
    says_as _ _ _ _ (by_clauses _ _ _ (left_some _ _ _ _ l c.if-left-eq0.false) (omega arith) ∙ ap list_as (left_unmarked _ _ _ (sym c.marked.ensures ∙ c.if-marked.false) ∙ sym (ap (formula_of _) l.gates_are))) c.list_gates.ensures

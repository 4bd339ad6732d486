-- `text::comparison::sweep` meets its contract. Assumes nothing.
use Rattle.std.proofs.Common.{ℕ, refl, ap₂, ◌∙◌}
use Rattle.circuit.specs.Gate.{max_lines}
use Rattle.circuit.proofs.Promises.{valid_all_more, tested_run}
use Rattle.checking.specs.Compare.{none, lowest}
use Rattle.text.specs.FileOutcome.{answered}
use Rattle.text.specs.Compare.{differ_on}
use Rattle.text.proofs.comparison.Laws.{swept_as_lem, never_refused}
use Rattle.text.proofs.comparison.sweep.Goals as goal

pub returns-in-Ok-Some : goal.returns-in-Ok-Some
returns-in-Ok-Some c =
    let p = c.args.pair in
    let a = p.first.cascade.cascade in
    let b = p.second.cascade.cascade in
    let x = c.in-Ok-Some.state in
    let runs = ap₂ (λ (y z : ℕ). answered (differ_on x y z)) (c.run_tested.ensures ∙ tested_run _ (valid_all_more _ max_lines _ a.lines_high a.gates) x) (c.run_tested-in-Ok-Some.ensures ∙ tested_run _ (valid_all_more _ max_lines _ b.lines_high b.gates) x) in
    swept_as_lem _ _ _ _ _ _ p.first.cascade p.second.cascade p.same_header c.requires _ (lowest x) _ refl (rw c.in-Ok-Some.field-0-is at c.in-Ok-Some.ensures.answer) (λ clauses. record { is = runs; ready = tt })

pub returns-in-Ok-None : goal.returns-in-Ok-None
returns-in-Ok-None c =
    let p = c.args.pair in
    swept_as_lem _ _ _ _ _ _ p.first.cascade p.second.cascade p.same_header c.requires _ none _ refl (rw c.in-Ok-None.field-0-is at c.in-Ok-None.ensures.answer) (λ clauses. record { is = refl; ready = tt })

pub returns-in-Err : goal.returns-in-Err
returns-in-Err c =
    let p = c.args.pair in
    never_refused _ _ _ _ _ _ p.first.cascade p.second.cascade p.same_header c.requires _ _ _ refl c.in-Err.ensures.answer

-- `checking::sums::sum_gates` meets its contract.
use Rattle.std.proofs.Common.{◌≡◌, ℕ, ◌+◌, ◌^◌, ◌%◌, ◌≤◌, true, sym, ap, ◌∙◌, subst, arith}
use lib.Bits.{bit_or}
use Rattle.circuit.specs.Gate.{max_lines, valid}
use Rattle.circuit.proofs.Promises.{then_refused, valid_facts, next_bad}
use Rattle.checking.proofs.lemmas.clauses.Loop.{controls_more, controls_few, Summed, summed_start, summed_next, summed_all}
use Rattle.checking.proofs.sums.sum_gates.Goals as goal
use Rattle.checking.proofs.sums.sum_gates.Goals.{After-control_count-k, Else-not-valid}

pub loop-i-init : goal.loop-i-init
loop-i-init c = summed_start c.args.n c.args.words.now

pub returns-then-not-valid : goal.returns-then-not-valid
returns-then-not-valid c =
    sym (then_refused _ _ _ _
    (c.loop-i.invariant.tested ∙ next_bad _ _ _ _ (omega arith) c.gate_at-g.ensures (sym c.valid.ensures ∙ c.if-not-valid.true)))

-- the gate of this turn is valid, and so has at most 64 controls
good : (c : Else-not-valid) → valid c.args.n c.gate_at-g.result ≡ true
good c = sym c.valid.ensures ∙ c.if-not-valid.false

few : (c : After-control_count-k) → c.control_count-k.result ≤ max_lines
few c =
    let good : valid c.args.n c.gate_at-g.result ≡ true = sym c.valid.ensures ∙ c.if-not-valid.false in
    omega (arith, c.control_count-k.ensures, controls_few _ c.gate_at-g.result c.requires.few_lines good)

pub overflow_add-clauses : goal.overflow_add-clauses
overflow_add-clauses c =
    omega (arith, few (goal.at.overflow_add-clauses c).After-control_count-k, controls_more c.control_count-k.result c.extra_clauses-clauses.result c.extra_clauses-clauses.ensures)

pub overflow_add-controls : goal.overflow_add-controls
overflow_add-controls c = omega (arith, few (goal.at.overflow_add-controls c).After-control_count-k)

pub loop-i-preserved : goal.loop-i-preserved
loop-i-preserved c =
    let good = good (goal.at.loop-i-preserved c).Else-not-valid in
    let below : c.gate_at-g.result.target % max_lines ≡ c.gate_at-g.result.target = omega (arith, (valid_facts c.args.n c.gate_at-g.result good).target_below, c.requires.few_lines) in
    let line : c.line-hit.result ≡ 2 ^ c.gate_at-g.result.target = c.line-hit.ensures ∙ ap (◌^◌ 2) below in
    subst (λ (line : ℕ). Summed c.args.n c.args.words.now (c.loop-i.variables + c.extra_variables-variables.result) (c.loop-i.clauses + c.extra_clauses-clauses.result) (c.loop-i.controls + c.control_count-k.result) (bit_or c.loop-i.hit line) (c.loop-i.i + 1))
    (sym line)
    (summed_next c.args.n c.args.words.now _ _ _ _ _ c.gate_at-g.result c.requires.few_lines c.loop-i.invariant (omega arith) c.gate_at-g.ensures good c.control_count-k.result
    c.extra_variables-variables.result c.extra_clauses-clauses.result c.control_count-k.ensures c.extra_variables-variables.ensures c.extra_clauses-clauses.ensures)

pub returns : goal.returns
returns c = summed_all c.args.n c.args.words.now _ _ _ c.loop-i.hit c.loop-i.i (omega arith) c.loop-i.invariant

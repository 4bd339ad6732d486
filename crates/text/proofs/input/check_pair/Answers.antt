-- `text::input::check_pair` meets its contract. Assumes nothing.
use Rattle.std.proofs.Common.{ℕ, sym, ap, ap₂, ◌∙◌}
use Rattle.circuit.specs.Gate.{max_lines}
use Rattle.circuit.specs.Refusal.{bad_state}
use Rattle.circuit.specs.Words.{gates_of}
use Rattle.circuit.proofs.Promises.{valid_all_more, tested_run}
use Rattle.text.specs.FileOutcome.{answered}
use Rattle.text.specs.CheckInput.{outputs, checked_on}
use Rattle.text.proofs.FileOutcome.{both_met, both_failed}
use Rattle.text.proofs.input.check_pair.Goals as goal

pub returns-then-not-permits : goal.returns-then-not-permits
returns-then-not-permits c =
    let p = c.args.pair in
    rw c.both.ensures (record {
      is =
          sym (both_failed _ bad_state _ (sym c.permits.ensures ∙ c.if-not-permits.true))
          ∙ ap (checked_on p.first.header (gates_of p.first.words.now) (gates_of p.second.words.now)) c.in-Some.ensures;
      ready = tt;
    })

pub returns-else-not-permits : goal.returns-else-not-permits
returns-else-not-permits c =
    let p = c.args.pair in
    let a = p.first.cascade.cascade in
    let b = p.second.cascade.cascade in
    record {
      is =
          ap₂ (λ (x y : ℕ). answered (outputs p.first.header x y)) (c.run_tested.ensures ∙ tested_run _ (valid_all_more _ max_lines _ a.lines_high a.gates) _) (c.run_tested-in-Some.ensures ∙ tested_run _ (valid_all_more _ max_lines _ b.lines_high b.gates) _)
          ∙ sym (both_met _ bad_state _ (sym c.permits.ensures ∙ c.if-not-permits.false))
          ∙ ap (checked_on p.first.header (gates_of p.first.words.now) (gates_of p.second.words.now)) c.in-Some.ensures;
      ready = a.lines_high;
    }

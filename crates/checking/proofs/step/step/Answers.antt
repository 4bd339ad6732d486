-- `checking::step::step` meets its contract. Assumes nothing.
use Rattle.std.proofs.Common.{sym, arith}
use Rattle.circuit.specs.Gate.{max_lines}
use Rattle.circuit.proofs.Promises.{check_served, valid_all_more}
use Rattle.checking.proofs.lemmas.step.Calls.{found_at, told_none, step_made}
use Rattle.checking.proofs.step.step.Goals as goal

pub invariant_of-search_gates : goal.invariant_of-search_gates
invariant_of-search_gates c = let k = check_served _ _ _ _ (sym c.in_ok-check_cascade.ensures) in record { tested = valid_all_more _ max_lines _ k.lines_high k.gates }

pub make_step-requires : goal.make_step-requires
make_step-requires c =
    let k = check_served _ _ _ _ (sym c.in_ok-check_cascade.ensures) in
    record { whole_gates = omega (arith, k.size); found_at = found_at _ _ (sym c.in-Some.ensures) }

pub returns-in-None : goal.returns-in-None
returns-in-None c = step_made _ _ _ (sym c.in_ok-check_cascade.ensures) _ _ (told_none _ (sym c.in-None.ensures))

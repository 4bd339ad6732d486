-- `checking::compare::first_difference` meets its contract. Assumes nothing.
use Rattle.std.proofs.Common.{◌≡◌, ◌^◌, sym, ap, ◌∙◌, subst, one-mul, arith, lit<, shl_exact}
use Rattle.circuit.specs.Outcome.{served}
use Rattle.circuit.specs.Words.{gates_of}
use Rattle.circuit.proofs.Promises.{headed_pair_served}
use Rattle.checking.specs.Compare.{lowest_from, of_difference, Says}
use Rattle.checking.proofs.lemmas.compare.Laws.{pair_gates, headed_gates, difference_made, sweep_says}
use Rattle.checking.proofs.compare.first_difference.Goals as goal

pub invariant_of-lowest_difference : goal.invariant_of-lowest_difference
invariant_of-lowest_difference c = record { tested = (pair_gates _ _ _ _ _ (sym c.in_ok-check_headed_pair.ensures)).0 }

pub invariant_of-lowest_difference-2 : goal.invariant_of-lowest_difference-2
invariant_of-lowest_difference-2 c = record { tested = (pair_gates _ _ _ _ _ (sym c.in_ok-check_headed_pair.ensures)).1 }

pub returns : goal.returns
returns c =
    let h = c.args.ha in
    let a = gates_of c.args.a.now in
    let b = gates_of c.args.b.now in
    let good = headed_gates _ _ _ _ _ (headed_pair_served _ _ _ _ _ (sym c.in_ok-check_headed_pair.ensures)) in
    let t : served (of_difference c.lowest_difference.result) ≡ served (lowest_from h a b 0 (2 ^ h.lines)) =
    ap served (c.lowest_difference.ensures ∙ ap (lowest_from h a b 0) (shl_exact 1 h.lines 64 (lit< tt) (omega arith) ∙ one-mul (2 ^ h.lines))) in
    record {
      answer = t ∙ sym (difference_made _ _ _ _ _ (sym c.in_ok-check_headed_pair.ensures) (omega arith));
      says = subst (Says h a b) (sym t) (sweep_says h a b good);
    }

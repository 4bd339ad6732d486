-- `checking::faults::check_faults` meets its contract. Assumes nothing.
use Rattle.std.proofs.Common.{sym}
use Rattle.checking.proofs.lemmas.compare.Laws.{pair_gates}
use Rattle.checking.proofs.lemmas.Each.{each_met, each_failed}
use Rattle.checking.proofs.lemmas.faults.Loops.{fault_state, fault_agree, fault_good}
use Rattle.checking.proofs.faults.check_faults.Goals as goal

pub returns-in-Some : goal.returns-in-Some
returns-in-Some c = sym (fault_state _ _ _ _ _ _ (sym c.in_ok-counts.ensures) _ _ (each_failed _ _ _ _ (sym c.in-Some.ensures)))

pub invariant_of-a : goal.invariant_of-a
invariant_of-a c = record { tested = (pair_gates _ _ _ _ _ (sym c.in_ok-counts.ensures)).0 }

pub invariant_of-b : goal.invariant_of-b
invariant_of-b c = record { tested = (pair_gates _ _ _ _ _ (sym c.in_ok-counts.ensures)).1 }

pub returns-in-Some-first_agreeing : goal.returns-in-Some-first_agreeing
returns-in-Some-first_agreeing c =
    sym (fault_agree _ _ _ _ _ _ (sym c.in_ok-counts.ensures) _ (each_met _ _ _ (sym c.in_default.ensures)) _ _ (each_failed _ _ _ _ (sym c.in-Some-first_agreeing.ensures)))

pub returns : goal.returns
returns c = sym (fault_good _ _ _ _ _ _ (sym c.in_ok-counts.ensures) _ (each_met _ _ _ (sym c.in_default.ensures)) _ (each_met _ _ _ (sym c.in_default-first_agreeing.ensures)))

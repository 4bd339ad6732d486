-- `checking::compare::differs` meets its contract. Assumes nothing.
use Rattle.std.proofs.Common.{sym}
use Rattle.checking.proofs.lemmas.compare.Laws.{pair_gates}
use Rattle.checking.proofs.compare.differs.Goals as goal

pub invariant_of-outputs_differ : goal.invariant_of-outputs_differ
invariant_of-outputs_differ c = record { tested = (pair_gates _ _ _ _ _ (sym c.in_ok-check_headed_pair.ensures)).0 }

pub invariant_of-outputs_differ-2 : goal.invariant_of-outputs_differ-2
invariant_of-outputs_differ-2 c = record { tested = (pair_gates _ _ _ _ _ (sym c.in_ok-check_headed_pair.ensures)).1 }

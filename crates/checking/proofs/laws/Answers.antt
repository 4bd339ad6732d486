-- `checking::laws` meets its contract: the record of the laws. Assumes nothing.
use Rattle.checking.proofs.lemmas.miter.Laws.{miter_laws}
use Rattle.checking.proofs.lemmas.step.Laws.{step_laws}
use Rattle.checking.proofs.lemmas.reduce.Relation.{reduce_laws}
use Rattle.checking.proofs.lemmas.StandIns.{stand_in_laws}
use Rattle.checking.proofs.lemmas.clauses.Laws.{clause_laws}
use Rattle.checking.proofs.lemmas.EqualityLaws.{equality_laws}
use Rattle.checking.proofs.lemmas.pair.Laws.{pair_laws}
use Rattle.checking.proofs.lemmas.clauses.Answers.{emit_laws}
use Rattle.checking.proofs.lemmas.pair_emission.Laws.{pair_emit_laws}
use Rattle.checking.proofs.lemmas.Rows.{row_laws}
use Rattle.checking.proofs.lemmas.faults.Refusals.{refusal_laws}
use Rattle.checking.proofs.lemmas.faults.StandIns.{fault_laws}
use Rattle.checking.proofs.lemmas.faults.Unmarked.{unmarked_laws}
use Rattle.checking.proofs.lemmas.widths.Calls.{width_laws}
use Rattle.checking.proofs.laws.Goals as goal

pub returns : goal.returns
returns c =
    record {
      miter = miter_laws;
      steps = step_laws;
      reductions = reduce_laws;
      stand_ins = stand_in_laws;
      clauses = clause_laws;
      equality = equality_laws;
      pairs = pair_laws;
      emission = emit_laws;
      pair_emission = pair_emit_laws;
      rows = row_laws;
      refusals = refusal_laws;
      faults = fault_laws;
      widths = width_laws;
      unmarked = unmarked_laws;
    }

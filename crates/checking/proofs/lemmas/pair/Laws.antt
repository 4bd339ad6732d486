-- The laws of the theorem for pairs, put together. Assumes nothing.
use Rattle.std.proofs.Common.{◌≡◌, ℕ, List, refl}
use Rattle.circuit.specs.declared.gate.Gate.{Gate}
use Rattle.circuit.specs.declared.header.Header.{Header}
use Rattle.circuit.specs.Header.{unmarked}
use Rattle.checking.specs.Miter.{miter_gates}
use Rattle.checking.specs.Clauses.{input_of, clauses_of, variables_of}
use Rattle.checking.specs.Pair.{constant_clauses, counted_lines, side_by_side, pair_clauses, pair_variables}
use Rattle.checking.specs.PairLaws.{side_with, PairLaws}
use Rattle.checking.proofs.lemmas.pair.Meaning.{tells_unmarked, unmarked_tells, pair_tells}
use Rattle.checking.proofs.lemmas.pair.Alone.{steps_alone}
use Rattle.checking.proofs.lemmas.pair.Junk.{all_junk}
use Rattle.checking.proofs.lemmas.pair.Equality.{pair_equality, our_pair_list, pair_served_tells, pair_after, pair_list_told}
use Rattle.checking.proofs.lemmas.pair.StandIns.{constants_left_out_refuted, junk_counted_refuted, started_from_outputs_refuted, contradiction_refuted, unsatisfied_refuted, composed_refuted, values_unread_refuted, junk_unread_refuted}

pub unmarked_list : (n : ℕ) (a b : List Gate)
    → (pair_clauses (unmarked n) a b ≡ clauses_of n (miter_gates a b)) × (pair_variables (unmarked n) a b ≡ variables_of n (miter_gates a b))
unfolding pair_clauses pair_variables
unmarked_list n a b = (refl, refl)

ours_with : (h : Header) (a b : List Gate) → side_by_side h a b ≡ side_with (constant_clauses h) input_of (counted_lines h) h a b
unfolding side_by_side side_with
ours_with h a b = refl

pub pair_laws : PairLaws
pair_laws =
    record {
      list_tells = pair_tells;
      all_junk = all_junk;
      unmarked_list = unmarked_list;
      unmarked_tells = λ n v cs a b va vb. (unmarked_tells n v cs a b va vb, tells_unmarked n v cs a b va vb);
      ours = pair_equality;
      our_list = our_pair_list;
      served_tells = pair_served_tells;
      steps_alone = steps_alone;
      after_calls = pair_after;
      list_told = pair_list_told;
      ours_with = ours_with;
      constants_left_out_refuted = constants_left_out_refuted;
      junk_counted_refuted = junk_counted_refuted;
      started_from_outputs_refuted = started_from_outputs_refuted;
      values_unread_refuted = values_unread_refuted;
      junk_unread_refuted = junk_unread_refuted;
      contradiction_refuted = contradiction_refuted;
      unsatisfied_refuted = unsatisfied_refuted;
      composed_refuted = composed_refuted;
    }

-- Every row of the two tables is right, by computation. Assumes nothing.
use Rattle.std.proofs.Common.{refl}
use mathlib.Core.Bool.{xor}
use lib.Count.{ones, ones_in}
use Rattle.bits.specs.Digits.{bit}
use Rattle.bits.specs.Lists.{fold}
use Rattle.circuit.specs.Gate.{valid, fires, inverted, apply, control_count}
use Rattle.circuit.specs.Header.{marks_good, permits, alike}
use Rattle.circuit.specs.Words.{gates_of, words_of, valid_from, size_outcome, gates_outcome, check_outcome, headed_outcome, pair_outcome, headed_pair_outcome}
use Rattle.circuit.specs.Run.{run_outcome}
use Rattle.circuit.specs.File.{same}
use Rattle.checking.specs.Match.{control_lines, targets_uncontrolled, opposing, may_pass, control_removed, control_inverted, differing, match_of}
use Rattle.checking.specs.Step.{scan_from, search_from, replaced, step_gates, filled, step_outcome, step_buffer}
use Rattle.checking.specs.Miter.{miter_outcome, miter_buffer}
use Rattle.checking.specs.Clauses.{up_from, targeted}
use Rattle.checking.specs.Sizes.{gates_sizes, lines_sizes, sizes_of, sizes_outcome}
use Rattle.checking.specs.Each.{each_from}
use Rattle.checking.specs.Faults.{everywhere, mask_where, masks_from, fault_check, fault_outcome, fault_buffer}
use Rattle.checking.specs.Rows.{rows, passing_rows, RowsHold, RowLaws}

rows_right : RowsHold rows
unfolding ones ones_in fold same valid fires inverted apply gates_of words_of valid_from size_outcome gates_outcome check_outcome headed_outcome pair_outcome headed_pair_outcome marks_good permits alike run_outcome control_count miter_outcome miter_buffer sizes_outcome sizes_of gates_sizes lines_sizes up_from targeted fault_outcome fault_buffer fault_check each_from masks_from mask_where everywhere bit xor control_lines targets_uncontrolled opposing may_pass control_removed control_inverted differing match_of scan_from search_from replaced step_gates filled step_outcome step_buffer
rows_right = (refl, (refl, (refl, (refl, (refl, (refl, (refl, (refl, (refl, (refl, (refl, (refl, (refl, (refl, tt))))))))))))))

passing_right : RowsHold passing_rows
unfolding ones ones_in same valid gates_of words_of valid_from size_outcome gates_outcome check_outcome control_lines targets_uncontrolled opposing may_pass differing match_of scan_from search_from replaced step_gates filled step_outcome step_buffer
passing_right = (refl, (refl, tt))

pub row_laws : RowLaws
row_laws = record { all = rows_right; passing = passing_right }

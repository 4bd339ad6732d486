-- The facts about the tables of rows. Assumes nothing.
use mathlib.Core.Path.{◌≡◌, refl}
use mathlib.Core.List.{[], ◌∷◌}
use Rattle.bits.specs.Lists.{fold}
use Rattle.bits.specs.Digits.{bit, lines_in}
use lib.Count.{ones}
use Rattle.circuit.specs.Header.{permits, alike}
use Rattle.circuit.specs.Gate.{valid, fires, inverted, apply, controls_below}
use Rattle.circuit.specs.File.{lines_of, parted_by, same, number_of, line_of, control_of, controls_from, among, rising_from, mask_of, closed_gate, gate_fields, count_fields, starts_fields, mark_number, mark_value, mark_fields, group_from, read_from, reading}
use Rattle.checking.specs.Match.{control_lines, targets_uncontrolled, opposing, may_pass, control_removed, control_inverted, differing, match_of}
use Rattle.checking.specs.Step.{scan_from, search_from, replaced, step_gates}
use Rattle.checking.specs.Reduce.{reduce_by, reduce_gates}
use Rattle.checking.specs.Compare.{lowest_from}
use Rattle.checking.specs.Clauses.{OR, moved, gates_clauses, used_after, current_after, targeted, up_from, difference_clauses, clauses_of, variables_of}
use Rattle.checking.specs.Pair.{without_junk, side_by_side, pair_clauses, pair_variables}
use Rattle.checking.specs.Stored.{stored}
use Rattle.text.specs.Dimacs.{decimal_within, decimal, literals_text, clauses_text, header_text, dimacs_of}
use Rattle.text.specs.WholeFile.{file_within, whole_file}
use Rattle.text.specs.FileOutcome.{refusal_text}
use Rattle.text.specs.Tomiter.{list_verdict, pair_verdict, second_verdict, verdict, tomiter_text}
use Rattle.text.specs.Plain.{negations, plain_clauses}
use Rattle.text.specs.Compare.{second_file, files_of, left_formula, list_as, compared, comparison, differ_text, compare_text}
use Rattle.text.specs.CheckInput.{state_text, state_read, checked, outputs_text, check_text}
use Rattle.text.specs.Rows.{RowsHold, text_rows, FilesHold, files_rows, InputsHold, input_rows}

pub empty_or : dimacs_of 1 (OR [] ∷ []) ≡ 112 ∷ 32 ∷ 99 ∷ 110 ∷ 102 ∷ 32 ∷ 49 ∷ 32 ∷ 49 ∷ 10 ∷ 32 ∷ 48 ∷ 10 ∷ []
unfolding decimal_within decimal clauses_text header_text dimacs_of
empty_or = refl

pub rows_hold : RowsHold text_rows
unfolding bit controls_below lines_of parted_by same number_of line_of control_of controls_from among rising_from mask_of closed_gate gate_fields count_fields starts_fields mark_number mark_value mark_fields group_from read_from reading moved gates_clauses used_after current_after targeted up_from difference_clauses clauses_of variables_of lines_in without_junk side_by_side pair_clauses pair_variables ones stored decimal_within decimal literals_text clauses_text header_text dimacs_of list_verdict pair_verdict file_within whole_file second_verdict verdict refusal_text tomiter_text
rows_hold = (refl, (refl, (refl, (refl, (refl, (refl, (refl, (refl, (refl, (refl, (refl, (refl, (refl, tt)))))))))))))

pub files_hold : FilesHold files_rows
unfolding bit fold valid fires inverted apply lines_of parted_by same number_of line_of control_of controls_from among rising_from mask_of closed_gate gate_fields count_fields starts_fields mark_number mark_value mark_fields group_from read_from reading file_within whole_file second_file files_of control_lines targets_uncontrolled opposing may_pass control_removed control_inverted differing match_of scan_from search_from replaced step_gates reduce_by reduce_gates lowest_from permits alike ones controls_below moved gates_clauses used_after current_after targeted up_from difference_clauses clauses_of variables_of lines_in without_junk side_by_side pair_clauses pair_variables stored negations plain_clauses decimal_within decimal literals_text clauses_text header_text dimacs_of refusal_text left_formula list_as compared comparison differ_text compare_text
files_hold = (refl, (refl, (refl, (refl, (refl, (refl, (refl, (refl, (refl, (refl, (refl, tt)))))))))))

pub inputs_hold : InputsHold input_rows
unfolding bit fold valid fires inverted apply lines_of parted_by same number_of line_of control_of controls_from among rising_from mask_of closed_gate gate_fields count_fields starts_fields mark_number mark_value mark_fields group_from read_from reading file_within whole_file second_file files_of decimal_within decimal refusal_text permits alike state_text state_read checked outputs_text check_text
inputs_hold = (refl, (refl, (refl, (refl, (refl, tt)))))

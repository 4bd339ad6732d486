-- The rows by full literals and by words, computed; the sizes of 63 controls are counted on the list. Assumes nothing.
use Rattle.std.proofs.Common.{◌≡◌, true, length, refl, ◌∙◌, arith}
use lib.Count.{ones, ones_in}
use Rattle.bits.specs.Digits.{bit}
use Rattle.circuit.specs.Gate.{valid, control_count, controls_below}
use Rattle.circuit.specs.Words.{all_valid}
use Rattle.checking.specs.Clauses.{moved, gates_clauses, used_after, current_after, targeted, up_from, difference_clauses, clauses_of, variables_of}
use Rattle.checking.specs.Stored.{stored}
use Rattle.checking.specs.Sizes.{totals, gates_sizes, lines_sizes, sizes_of}
use Rattle.checking.specs.ClauseRows.{RowsHold, clause_rows, long_row, WordsHold, words_rows}
use Rattle.checking.proofs.lemmas.clauses.Sums.{sizes_list}

long_valid : all_valid long_row.lines long_row.gates ≡ true
unfolding all_valid valid
long_valid = refl

long_counted : totals (variables_of long_row.lines long_row.gates) (length (clauses_of long_row.lines long_row.gates)) (length (stored (clauses_of long_row.lines long_row.gates)))
    ≡ long_row.sizes
unfolding moved gates_clauses used_after current_after targeted up_from difference_clauses clauses_of variables_of stored controls_below bit
long_counted = refl

long_sizes : sizes_of long_row.lines long_row.gates ≡ long_row.sizes
long_sizes = sizes_list long_row.lines long_row.gates (omega arith) long_valid ∙ long_counted

pub rows_hold : RowsHold clause_rows
unfolding moved gates_clauses used_after current_after targeted up_from difference_clauses clauses_of gates_sizes lines_sizes sizes_of control_count controls_below bit ones ones_in
rows_hold = ((refl, refl), ((refl, refl), ((refl, refl), ((refl, refl), ((refl, refl), ((refl, refl), ((long_sizes, refl), tt)))))))

pub words_hold : WordsHold words_rows
unfolding moved gates_clauses used_after current_after targeted up_from difference_clauses clauses_of stored controls_below bit
words_hold = (refl, tt)

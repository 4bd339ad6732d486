-- No text that is written for two files is longer than `max_compared`. Assumes nothing.
use mathlib.Core.Path.{◌≡◌, ◌∙◌}
use mathlib.Core.List.{List}
use Prim.Native.Nat.{ℕ, ◌+◌, ◌^◌, ◌≤◌, ◌<◌}
use native.Mathlib.Nat.{le_trans}
use native.Mathlib.Omega.{arith}
use lib.ListN.{length, length-append}
use lib.Pow.{pow_mono}
use Rattle.circuit.specs.declared.gate.Gate.{Gate}
use Rattle.circuit.specs.declared.header.Header.{Header}
use Rattle.circuit.specs.Outcome.{served}
use Rattle.circuit.specs.Run.{run}
use Rattle.circuit.proofs.Promises.{run_below}
use Rattle.checking.specs.Compare.{Difference, none, lowest, lowest_from}
use Rattle.checking.specs.Compare as sweep
use Rattle.checking.specs.Clauses.{Clause, max_variables}
use Rattle.checking.specs.Stored.{stored}
use Rattle.text.specs.Dimacs.{header_text, clauses_text, dimacs_of}
use Rattle.text.specs.Plain.{plain_clauses}
use Rattle.text.specs.Formula.{Formula}
use Rattle.text.specs.FileOutcome.{FileOutcome, answered, refused_at}
use Rattle.text.specs.Compare.{max_file_gates, max_list, max_compared, CascadePair, files_of, left_formula, swept_as, compared, compared_files, comparison, comparison_text, compared_text, compare_text, Rooms, RoomsFit, compare_outcome}
use Rattle.text.specs.TwoFiles.{TwoFiles, FilesRefused, first_long, second_long, first_file, in_second_file, lines_differ, other_marks}
use Rattle.text.proofs.Decimal.{decimal_few}
use Rattle.text.proofs.Sizes.{whole_few}
use Rattle.text.proofs.Rooms.{rooms_good}
use Rattle.text.proofs.Verdicts.{Judged, judged}
use Rattle.text.proofs.Pairs.{listable}
use Rattle.text.proofs.Reduced.{found, left_variables, left_short, left_within, left_xors}
use Rattle.text.proofs.Compares.{by_cases}
use Rattle.text.proofs.plain.Laws.{plain_few}
use Rattle.text.proofs.answer.Laws.{fit_fits, digits_few, differ_long, refusal_few, header_long}

-- ---- refusals

pub refused_few : (first second : List ℕ) (number file place : ℕ) → FilesRefused first second number file place → (number < 100) × (file < 10) × (place < 100000)
refused_few first second _ _ _ (first_long _) = (omega arith, omega arith, omega arith)
refused_few first second _ _ _ (second_long _ _) = (omega arith, omega arith, omega arith)
refused_few first second _ _ _ (first_file number place _ _ w) = let (a, b) = whole_few max_file_gates first number place w in (a, omega arith, b)
refused_few first second _ _ _ (in_second_file h a number place _ _ _ _ w) = let (x, y) = whole_few max_file_gates second number place w in (x, omega arith, y)
refused_few first second _ _ _ (lines_differ ha a hb b _ _ _ _ _ _ _) = (omega arith, omega arith, omega arith)
refused_few first second _ _ _ (other_marks ha a hb b _ _ _ _ _ _ _ _) = (omega arith, omega arith, omega arith)

dimacs_long : (v : ℕ) (ps : List Clause) → length (dimacs_of v ps) ≡ length (header_text v (length ps)) + length (clauses_text ps)
unfolding dimacs_of
dimacs_long v ps = length-append (header_text v (length ps)) (clauses_text ps)

-- ---- two cascades

module _ (first second : List ℕ) (h : Header) (a b : List Gate) (t : TwoFiles first second h a b) where
  below : (k : ℕ) → k < 2 ^ h.lines → k < 2 ^ 64
  below k l = omega (arith, pow_mono {i = h.lines} {j = 64} t.first_good.cascade.lines_high)

  difference_few : (d : Difference) → sweep.Says h a b (served d) → length (comparison_text (swept_as a b d)) ≤ max_compared
  difference_few none s = omega arith
  difference_few (lowest x) s =
      let l = s.0.permitted.state in
      omega (arith, differ_long x (run a x) (run b x), digits_few x (below x l), digits_few (run a x) (below _ (run_below h.lines a t.first_good.cascade.gates x l)), digits_few (run b x) (below _ (run_below h.lines b t.second_good.cascade.gates x l)))

  header_few : (v m : ℕ) → v ≤ max_variables → m ≤ max_list → length (header_text v m) ≤ 19
  header_few v m l k = omega (arith, header_long v m, decimal_few 4 v (omega arith), decimal_few 5 m (omega arith), decimal_few 0 0 (omega arith))

  abbrev f : Formula
  f = left_formula h a b

  list_few : length (stored f.clauses) ≤ max_list → length (dimacs_of f.variables (plain_clauses f.clauses)) ≤ max_compared
  list_few few =
      let l = listable h a b t.first_good t.second_good in
      let (x, y) = plain_few f.clauses (left_short h a b l) (left_within h a b l) in
      omega (arith, x, left_xors h a b l, few, l.lines, t.first_good.few, t.second_good.few, header_few f.variables (length (plain_clauses f.clauses)) (left_variables h a b l) (omega (arith, y)), dimacs_long f.variables (plain_clauses f.clauses))

  pair_few : length (compared_text (compared h a b)) ≤ max_compared
  pair_few =
      by_cases (λ c. length (compared_text c) ≤ max_compared) h a b
      (λ e. omega arith)
      (λ more l. difference_few (lowest_from h a b 0 (2 ^ h.lines)) (found h a b (listable h a b t.first_good t.second_good)))
      (λ more l few. list_few few)
      (λ more l long. omega (arith, refusal_few 10 0 0 (omega arith) (omega arith) (omega arith)))

-- ---- every text

files_few : (first second : List ℕ) (f : FileOutcome CascadePair) → Judged first second f → length (compared_text (compared_files f)) ≤ max_compared
files_few first second (answered p) t = pair_few first second p.header p.first p.second t
files_few first second (refused_at number file place) f = let (x, y, z) = refused_few first second number file place f in omega (arith, refusal_few number file place x y z)

pub text_fits : (first second : List ℕ) → length (compare_text first second) ≤ max_compared
unfolding compare_text comparison
text_fits first second = files_few first second (files_of first second) (judged first second)

-- so a buffer of that length, and rooms of their lengths, always suffice
pub room_enough : (first second : List ℕ) (lent : Rooms) (room : ℕ) → RoomsFit lent → max_compared ≤ room
    → compare_outcome first second lent room ≡ served (length (compare_text first second))
room_enough first second lent room (a, b, c, d) h =
    rooms_good first second lent a b c d room
    ∙ fit_fits (compare_text first second) room (le_trans (text_fits first second) h)

-- No text is longer than `max_text`. Assumes nothing.
use mathlib.Core.Path.{◌≡◌, refl, sym, ap, subst}
use mathlib.Core.Bool.{Bool}
use mathlib.Core.List.{List, [], ◌∷◌, ◌++◌}
use Prim.Native.Nat.{ℕ, suc, ◌+◌, ◌*◌, ◌^◌, ◌≤◌, ◌<◌}
use native.Mathlib.Nat.{le_trans}
use native.Mathlib.Omega.{arith}
use lib.Dec.{leb}
use lib.IntN.{ℤ, pos, negsuc}
use lib.ListN.{length, drop, length-append}
use borrow.Author.Tests.{leb-true}
use Rattle.bits.proofs.Bools.{either}
use Rattle.std.proofs.Math.Nat.{suc-mul}
use Rattle.circuit.specs.declared.gate.Gate.{Gate}
use Rattle.circuit.specs.declared.header.Header.{Header}
use Rattle.circuit.specs.Outcome.{Outcome, served, refused, before, then, Fails, fails}
use Rattle.circuit.specs.Refusal.{wrong_form, no_room}
use Rattle.circuit.specs.File.{Line, Reading, line_after_end}
use Rattle.circuit.specs.FileLaws.{CountOffence, no_lines, no_number, outside, MarkOffence, no_mark_line, beyond, mark_not_rising, mark_no_end, ControlsOffence, form, value, later, LineOffence, no_gate_line, many, target_form, target_value, controls, controlled, controls_not_rising, FileRefused, on_count_line, on_mark_line, later_line}
use Rattle.circuit.specs.FileLaws as laws
use Rattle.circuit.proofs.Promises.{mark_lines_few}
use Rattle.checking.specs.Pair.{pair_clauses}
use Rattle.checking.specs.Clauses.{Clause, OR, XOR}
use Rattle.checking.specs.Satisfaction.{variable_of, LiteralsWithin, clause_literals, ClausesWithin}
use Rattle.checking.specs.Stored.{stored_clause, stored}
use Rattle.checking.proofs.Promises.{stored_next, pair_variables_few}
use Rattle.text.specs.Dimacs.{blank, literal_text, literals_text, body_text, closing, clause_text, clauses_text, header_text, dimacs_of}
use Rattle.text.specs.Formula.{Formula}
use Rattle.text.specs.WholeFile.{FileWithin, WithinRefused, WholeRefused, file_within, whole_file}
use Rattle.text.specs.FileOutcome.{FileOutcome, answered, refused_at, of_file}
use Rattle.text.specs.BytesTell.{max_input_gates}
use Rattle.text.specs.Tomiter.{max_input, max_words, max_text, list_verdict, pair_verdict, second_verdict, verdict, verdict_text, tomiter_text, tomiter_outcome}
use Rattle.text.proofs.Decimal.{decimal_few}
use Rattle.text.proofs.FileOutcome.{both_met, both_failed}
use Rattle.text.proofs.WholeFile.{within_refused, within_text, WholeJudged, whole_judged}
use Rattle.text.proofs.Pairs.{by_headers, headers_met, lines_apart, marks_apart, Listable, listable, list_within}
use Rattle.text.proofs.answer.Laws.{fit_fits, refusal_few, header_long}

-- ---- the text of a clause list

-- the variables have d + 1 digits at most
module _ (d v : ℕ) (digits : v < 10 ^ suc d) where
  literal_few : (l : ℤ) → variable_of l ≤ v → length (literal_text l) ≤ d + 2
  literal_few (pos i) s = omega (arith, decimal_few d i (omega arith))
  literal_few (negsuc i) s = omega (arith, decimal_few d (suc i) (omega arith))

  -- with its blank
  pub literals_few : (ls : List ℤ) → LiteralsWithin v ls → length (literals_text ls) ≤ length ls * (d + 3)
  unfolding literals_text
  literals_few [] w = omega arith
  literals_few (l ∷ ls) w =
      omega (arith, suc-mul (length ls) (d + 3), literal_few l w.0.1, literals_few ls w.1, length-append (literal_text l ++ (blank ∷ [])) (literals_text ls), length-append (literal_text l) (blank ∷ []))

  -- the blank of no literals is one byte
  pub body_few : (ls : List ℤ) → LiteralsWithin v ls → length (body_text ls) ≤ length ls * (d + 3) + 1
  body_few [] w = omega arith
  body_few (l ∷ ls) w = omega (arith, literals_few (l ∷ ls) w)

-- four digits at most: six bytes a word
clause_few : (v : ℕ) (c : Clause) → v < 10000 → LiteralsWithin v (clause_literals c) → length (clause_text c) ≤ 6 * length (stored_clause c)
clause_few v (OR ls) h w = omega (arith, body_few 3 v h ls w, length-append (body_text ls) closing)
clause_few v (XOR ls) h w = omega (arith, body_few 3 v h ls w, length-append (body_text ls) closing)

clauses_few : (v : ℕ) (cs : List Clause) → v < 10000 → ClausesWithin v cs → length (clauses_text cs) ≤ 6 * length (stored cs)
unfolding clauses_text
clauses_few v [] h w = omega arith
clauses_few v (c ∷ cs) h w =
    omega (arith, clause_few v c h w.0, clauses_few v cs h w.1, length-append (clause_text c) (clauses_text cs), ap length (stored_next c cs), length-append (stored_clause c) (stored cs))

pub count_few : (cs : List Clause) → length cs ≤ length (stored cs)
count_few [] = omega arith
count_few (OR ls ∷ cs) = omega (arith, count_few cs, ap length (stored_next (OR ls) cs), length-append ls (stored cs))
count_few (XOR ls ∷ cs) = omega (arith, count_few cs, ap length (stored_next (XOR ls) cs), length-append ls (stored cs))

header_few : (v m : ℕ) → v < 10000 → m ≤ max_words → length (header_text v m) ≤ 17
header_few v m h l = omega (arith, header_long v m, decimal_few 3 v h, decimal_few 4 m (omega arith), decimal_few 0 0 (omega arith))

-- ---- what a verdict says

-- so few variables and words, or so small numbers
abbrev Small : FileOutcome Formula → Type 0
Small (answered f) = (f.variables < 10000) × (ClausesWithin f.variables f.clauses) × (length (stored f.clauses) ≤ max_words)
Small (refused_at number file place) = (number < 100) × (file < 10) × (place < 100000)

small_text : (v : FileOutcome Formula) → Small v → length (verdict_text v) ≤ max_text
unfolding dimacs_of
small_text (answered f) (a, b, c) =
    let cs : List Clause = f.clauses in
    omega (arith, header_few f.variables (length cs) a (omega (arith, count_few cs)), clauses_few f.variables cs a b, length-append (header_text f.variables (length cs)) (clauses_text cs))
small_text (refused_at number file place) (a, b, c) =
    omega (arith, refusal_few number file place a b c)

-- ---- the numbers and places of refused files

header_number : (l : Line) (number : ℕ) → CountOffence l number → number < 100
header_number l _ (no_lines _) = omega arith
header_number l _ (no_number _ _ _ _) = omega arith
header_number l _ (outside _ _ _ _ _ _) = omega arith
header_number l _ (laws.CountOffence.no_end _ _ _ _ _ _ _ _) = omega arith

mark_number : (constant : Bool) (n mask : ℕ) (l : Line) (number : ℕ) → MarkOffence constant n mask l number → number < 100
mark_number constant n mask l _ (no_mark_line _ _ _ _) = omega arith
mark_number constant n mask l _ (beyond _ _ _ _ _ _) = omega arith
mark_number constant n mask l _ (mark_not_rising _ _ _ _ _ _ _ _ _) = omega arith
mark_number constant n mask l _ (mark_no_end _ _ _ _ _ _ _ _) = omega arith

controls_number : (n : ℕ) (fs : List (List ℕ)) (number : ℕ) → ControlsOffence n fs number → number < 100
controls_number n _ _ (form _ _ _) = omega arith
controls_number n _ _ (value _ _ _ _ _) = omega arith
controls_number n _ number (later _ fs _ _ _ _ o) = controls_number n fs number o

line_number : (n i count : ℕ) (l : Line) (number : ℕ) → LineOffence n i count l number → number < 100
line_number n i count l _ (no_gate_line _ _) = omega arith
line_number n i count l _ (many _ _ _ _) = omega arith
line_number n i count l _ (target_form _ _ _ _ _) = omega arith
line_number n i count l _ (target_value _ _ _ _ _ _ _) = omega arith
line_number n i count l number (controls _ fs _ _ _ _ _ _ o) = controls_number n fs number o
line_number n i count l _ (laws.LineOffence.no_end _ _ _ _ _) = omega arith
line_number n i count l _ (controlled _ _ _ _ _ _) = omega arith
line_number n i count l _ (controls_not_rising _ _ _ _ _ _ _) = omega arith

pub refused_small : (text : List ℕ) (number place : ℕ) → FileRefused text number place → (number < 100) × (place < 100000)
refused_small text _ _ (on_count_line number o) = (header_number _ number o, omega arith)
refused_small text _ _ (on_mark_line h rest good starts constant opened number o) =
    (mark_number constant h.lines _ _ number o, omega (arith, good.lines_high, mark_lines_few h good.marks))
refused_small text _ _ (later_line h gs rest good starts closed number o) =
    (line_number h.lines _ _ _ number o, omega (arith, good.few, good.lines_high, mark_lines_few h good.marks))

-- the number and place of the one thing that is wrong
failed_is : {Bad : Type 0} (m p number place : ℕ) → Fails Bad m p number place → (number ≡ m) × (place ≡ p)
failed_is m p _ _ (fails b) = (refl, refl)

within_few : (most : ℕ) (text : List ℕ) (number place : ℕ) → WithinRefused most text number place → (number < 100) × (place < 100000)
within_few most text number place (before f) = refused_small text number place f
within_few most text number place (then c read w) = let (a, b) = failed_is no_room 0 number place w in (omega arith, omega arith)

pub whole_few : (most : ℕ) (text : List ℕ) (number place : ℕ) → WholeRefused most text number place → (number < 100) × (place < 100000)
whole_few most text number place (before f) = within_few most text number place f
whole_few most text number place (then c starts w) =
    let (a, b) = failed_is wrong_form (line_after_end c) number place w in
    let g = starts.read.good in
    (omega arith, omega (arith, g.few, g.lines_high, mark_lines_few c.header g.marks))

-- ---- every verdict

list_small : (h : Header) (a b : List Gate) → Listable h a b → length a ≤ max_input_gates → length b ≤ max_input_gates → Small (list_verdict h a b)
unfolding list_verdict
list_small h a b l few few-2 =
    either (leb (length (stored (pair_clauses h a b))) max_words)
    (λ t.
    subst Small (sym (both_met (leb (length (stored (pair_clauses h a b))) max_words) _ _ t))
    (omega (arith, pair_variables_few h a b l.lines, l.lines, few, few-2), list_within h a b l, leb-true _ _ t))
    (λ t. subst Small (sym (both_failed (leb (length (stored (pair_clauses h a b))) max_words) _ _ t)) (omega arith, omega arith, omega arith))

pair_small : (h : Header) (a : List Gate) (k : Header) (b : List Gate) → FileWithin max_input_gates h a → FileWithin max_input_gates k b → Small (pair_verdict h a k b)
unfolding pair_verdict
pair_small h a k b x y =
    by_headers h k
    (λ s. subst Small (sym (headers_met h k _ s)) (list_small h a b (listable h a b x (subst (λ (z : Header). FileWithin max_input_gates z b) (sym s) y)) x.few y.few))
    (λ l. subst Small (sym (lines_apart h k _ l)) (omega arith, omega arith, omega arith))
    (λ l m. subst Small (sym (marks_apart h k _ l m)) (omega arith, omega arith, omega arith))

-- a file's refusal is small, and so is what follows
file_small : (file : ℕ) (text : List ℕ) (more : Reading → FileOutcome Formula) → file < 10 → ((c : Reading) → FileWithin max_input_gates c.header c.gates → Small (more c))
    → (o : Outcome Reading) → file_within max_input_gates text ≡ o → Small (of_file file o more)
file_small file text more h f (served c) e = f c (within_text max_input_gates text c e).0
file_small file text more h f (refused number place) e =
    let (a, b) = within_few max_input_gates text number place ((within_refused max_input_gates text number place).0 e) in (a, h, b)

second_small : (h : Header) (gs : List Gate) (text : List ℕ) → FileWithin max_input_gates h gs → Small (second_verdict h gs text)
unfolding second_verdict
second_small h gs text x = by (whole_file max_input_gates text) (whole_judged max_input_gates text)
  where
    by : (o : Outcome Reading) → WholeJudged max_input_gates text o → Small (of_file 2 o (λ c. pair_verdict h gs c.header c.gates))
    by (served c) w = pair_small h gs c.header c.gates x w.0
    by (refused number place) w = let (a, b) = whole_few max_input_gates text number place w in (a, omega arith, b)

verdict_small : (input : List ℕ) → Small (verdict input)
unfolding verdict
verdict_small input =
    either (leb (length input) max_input)
    (λ t.
    subst Small (sym (both_met (leb (length input) max_input) _ _ t))
    (file_small 1 input _ (omega arith) (λ c x. second_small c.header c.gates (drop c.taken input) x) (file_within max_input_gates input) refl))
    (λ t. subst Small (sym (both_failed (leb (length input) max_input) _ _ t)) (omega arith, omega arith, omega arith))

pub text_fits : (input : List ℕ) → length (tomiter_text input) ≤ max_text
unfolding tomiter_text
text_fits input = small_text (verdict input) (verdict_small input)

-- so a buffer of that length always suffices
pub room_enough : (input : List ℕ) (room : ℕ) → max_text ≤ room → tomiter_outcome input room ≡ served (length (tomiter_text input))
room_enough input room h = fit_fits (tomiter_text input) room (le_trans (text_fits input) h)

-- Stand-ins for the program do not have its laws. Assumes nothing.
use mathlib.Core.Path.{◌≡◌, refl, sym, ap, subst, ◌∙◌}
use mathlib.Core.Bool.{Bool, true, false, false≢true}
use mathlib.Core.List.{List, [], ◌∷◌, ◌++◌}
use mathlib.Core.Option.{some}
use Prim.Native.Nat.{ℕ, zero, suc, ◌≤◌, ◌<◌}
use native.Mathlib.Omega.{arith}
use lib.Dec.{leb}
use lib.ListN.{length, drop}
use borrow.Author.Tests.{leb-true}
use Rattle.bits.specs.Digits.{bit, lines_in}
use Rattle.bits.specs.Lists.{fold}
use Rattle.circuit.specs.declared.gate.Gate.{Gate}
use Rattle.circuit.specs.declared.header.Header.{Header}
use Rattle.circuit.specs.Gate.{not_gate, valid, fires, inverted, apply, controls_below}
use Rattle.circuit.specs.Words.{all_valid}
use Rattle.circuit.specs.Run.{run, EqualFor}
use Rattle.circuit.specs.Text.{number_text, controls_text, gate_lines, text_of}
use Rattle.circuit.specs.FileLaws.{FileCascade}
use Rattle.circuit.specs.Header.{unmarked, marks_good}
use Rattle.circuit.proofs.Promises.{run_none, unmarked_good, unmarked_equal}
use Rattle.checking.specs.Clauses.{Clause, OR, up_from, moved, gates_clauses, used_after, current_after, targeted, difference_clauses, clauses_of, variables_of}
use Rattle.checking.specs.FaultLaws.{without_constants, all_counted}
use Rattle.checking.specs.Pair.{without_junk, side_by_side, pair_clauses, pair_variables}
use Rattle.checking.specs.PairTold.{TellsFor}
use Rattle.checking.specs.Satisfaction.{ClausesWithin, holds, satisfies, Satisfying}
use Rattle.checking.specs.Stored.{stored}
use Rattle.text.specs.Dimacs.{Dimacs, dimacs_of, dimacs_read}
use Rattle.text.specs.Formula.{Formula}
use Rattle.text.specs.Compare.{max_file}
use Rattle.text.specs.FileOutcome.{refusal_text, answer_text}
use Rattle.text.specs.Tomiter.{max_input, max_words}
use Rattle.text.specs.WholeFile.{FileWithin}
use Rattle.text.specs.TwoFiles.{TwoFiles}
use Rattle.text.specs.BytesTell.{max_input_gates, StartsProblem, TextTells}
use Rattle.text.specs.TextLaws.{Fitting, ProgramLaws, contradiction, without_first}
use Rattle.text.proofs.Reading.{text_back}
use Rattle.text.proofs.Pairs.{listable, list_within}
use Rattle.text.proofs.Telling.{fitting_verdict, refusal_starts}

-- the cascades NOT and nothing on one line
abbrev pub once : List Gate
once = not_gate 0 ∷ []

pub once_runs : run once 0 ≡ 1
unfolding fold apply valid inverted fires
once_runs = refl

-- without marks
abbrev pub plain : Header
plain = unmarked 1

pub none_good : FileCascade plain []
unfolding all_valid
none_good = record { lines_low = omega arith; lines_high = omega arith; marks = unmarked_good 1; few = omega arith; gates = refl }

pub once_good : FileCascade plain once
unfolding all_valid valid
once_good = record { lines_low = omega arith; lines_high = omega arith; marks = unmarked_good 1; few = omega arith; gates = refl }

-- of at most so many gates
pub none_within : (most : ℕ) → FileWithin most plain []
none_within most = record { cascade = none_good; few = omega arith }

pub once_within : (most : ℕ) → 1 ≤ most → FileWithin most plain once
once_within most l = record { cascade = once_good; few = omega (arith, l) }

-- which differ on state 0
pub once_differs : EqualFor plain once [] → ⊥
once_differs e =
    let f : run once 0 ≡ 0 = (unmarked_equal 1 once [] once_good.gates none_good.gates).0 e 0 (omega arith) ∙ run_none 0 in
    let z : ◌≡◌ {A = ℕ} 0 1 = sym f ∙ once_runs in
    omega arith

-- their files
abbrev pub first : List ℕ
first = text_of plain once

abbrev pub second : List ℕ
second = text_of plain []

pub first_bytes : length first ≤ max_file
unfolding number_text controls_text gate_lines controls_below lines_in bit
first_bytes = leb-true (length first) max_file refl

pub second_bytes : length second ≤ max_file
unfolding number_text controls_text gate_lines controls_below lines_in bit
second_bytes = leb-true (length second) max_file refl

-- ---- with marks

-- one line, which is junk: any two cascades are equal
abbrev pub junk_line : Header
junk_line = record { lines = 1; constants = 0; values = 0; junk = 1 }

pub junk_equal : (a b : List Gate) → EqualFor junk_line a b
unfolding bit
junk_equal a b x p zero c = absurd (false≢true (sym c.kept))
junk_equal a b x p (suc k) c = let l = c.below in absurd (omega arith)

-- two lines, of which line 0 is the constant 0: a gate that it controls does nothing
abbrev pub constant_line : Header
constant_line = record { lines = 2; constants = 1; values = 0; junk = 0 }

abbrev pub controlled : List Gate
controlled = record { positive = 1; negative = 0; target = 1 } ∷ []

idle : (x : ℕ) → x < 4 → bit x 0 ≡ false → run controlled x ≡ run [] x
unfolding bit fold apply valid inverted fires
idle zero l e = refl
idle (suc zero) l e = absurd (false≢true (sym e))
idle (suc (suc zero)) l e = refl
idle (suc (suc (suc zero))) l e = absurd (false≢true (sym e))
idle (suc (suc (suc (suc x)))) l e = absurd (omega arith)

pub constant_equal : EqualFor constant_line controlled []
unfolding bit
constant_equal x p k c = ap (λ (y : ℕ). bit y k) (idle x p.state (p.constants 0 refl))

-- and does something without the constant
pub controlled_acts : EqualFor (unmarked 2) controlled [] → ⊥
unfolding fold apply valid inverted fires all_valid
controlled_acts e =
    let f : run controlled 1 ≡ run [] 1 = (unmarked_equal 2 controlled [] refl refl).0 e 1 (omega arith) in
    let z : ◌≡◌ {A = ℕ} 3 1 = f in
    omega arith

-- the files of two cascades of one gate at most
files_of_two : (h : Header) (a b : List Gate) → length a ≤ 1 → length b ≤ 1 → FileCascade h a → FileCascade h b → leb (length (text_of h a)) max_file ≡ true
    → leb (length (text_of h b)) max_file ≡ true → TwoFiles (text_of h a) (text_of h b) h a b
files_of_two h a b i j x y l m =
    record {
      first_good = record { cascade = x; few = omega (arith, i) };
      second_good = record { cascade = y; few = omega (arith, j) };
      first_text = refl;
      second_text = refl;
      first_bytes = leb-true _ _ l;
      second_bytes = leb-true _ _ m;
    }

pub junk_files : TwoFiles (text_of junk_line once) (text_of junk_line []) junk_line once []
unfolding marks_good all_valid valid number_text controls_text gate_lines controls_below lines_in bit
junk_files =
    files_of_two junk_line once [] (omega arith) (omega arith)
    (record { lines_low = omega arith; lines_high = omega arith; marks = refl; few = omega arith; gates = refl })
    (record { lines_low = omega arith; lines_high = omega arith; marks = refl; few = omega arith; gates = refl }) refl refl

pub constant_files : TwoFiles (text_of constant_line controlled) (text_of constant_line []) constant_line controlled []
unfolding marks_good all_valid valid number_text controls_text gate_lines controls_below lines_in bit
constant_files =
    files_of_two constant_line controlled [] (omega arith) (omega arith)
    (record { lines_low = omega arith; lines_high = omega arith; marks = refl; few = omega arith; gates = refl })
    (record { lines_low = omega arith; lines_high = omega arith; marks = refl; few = omega arith; gates = refl }) refl refl

pub two_files : TwoFiles (text_of (unmarked 2) controlled) (text_of (unmarked 2) []) (unmarked 2) controlled []
unfolding marks_good all_valid valid number_text controls_text gate_lines controls_below lines_in bit
two_files =
    files_of_two (unmarked 2) controlled [] (omega arith) (omega arith)
    (record { lines_low = omega arith; lines_high = omega arith; marks = refl; few = omega arith; gates = refl })
    (record { lines_low = omega arith; lines_high = omega arith; marks = refl; few = omega arith; gates = refl }) refl refl

-- ---- stand-ins for tomiter

-- NOT against nothing, and against NOT
abbrev differing : List ℕ
differing = text_of plain once ++ text_of plain []

abbrev equal : List ℕ
equal = text_of plain once ++ text_of plain once

differing_bytes : length differing ≤ max_input
unfolding number_text controls_text gate_lines controls_below lines_in bit
differing_bytes = leb-true (length differing) max_input refl

equal_bytes : length equal ≤ max_input
unfolding number_text controls_text gate_lines controls_below lines_in bit
equal_bytes = leb-true (length equal) max_input refl

differing_words : length (stored (pair_clauses plain once [])) ≤ max_words
unfolding stored pair_clauses clauses_of used_after current_after gates_clauses moved targeted difference_clauses up_from controls_below bit
differing_words = leb-true (length (stored (pair_clauses plain once []))) max_words refl

equal_words : length (stored (pair_clauses plain once once)) ≤ max_words
unfolding stored pair_clauses clauses_of used_after current_after gates_clauses moved targeted difference_clauses up_from controls_below bit
equal_words = leb-true (length (stored (pair_clauses plain once once))) max_words refl

differing_fits : Fitting differing plain once []
differing_fits = record { first = once_within max_input_gates (omega arith); second = none_within max_input_gates; files = refl; bytes = differing_bytes; words = differing_words }

equal_fits : Fitting equal plain once once
equal_fits = record { first = once_within max_input_gates (omega arith); second = once_within max_input_gates (omega arith); files = refl; bytes = equal_bytes; words = equal_words }

-- a text tells what its clauses tell
text_tells : (text : List ℕ) (h : Header) (a b : List Gate) (v : ℕ) (cs : List Clause) → text ≡ dimacs_of v cs → ClausesWithin v cs → TextTells text h a b → TellsFor h v cs a b
text_tells text h a b v cs e w t =
    let f : some t.read ≡ some (record { variables = v; count = length cs; clauses = cs }) = sym t.is_read ∙ ap dimacs_read e ∙ text_back v cs w in
    let g : t.read ≡ record { variables = v; count = length cs; clauses = cs } = cc in
    subst (λ (d : Dimacs). TellsFor h d.variables d.clauses a b) g t.tells

unsatisfied : (v : ℕ) (σ : List Bool) → Satisfying v (OR [] ∷ []) σ → ⊥
unfolding satisfies holds
unsatisfied v σ s = false≢true s.satisfied

-- a contradiction calls NOT and nothing equal
pub contradiction_fails : ProgramLaws contradiction → ⊥
unfolding contradiction fold
contradiction_fails laws =
    let e : contradiction differing ≡ dimacs_of _ (OR [] ∷ []) = ap (answer_text (λ (f : Formula). dimacs_of f.variables (OR [] ∷ []))) (fitting_verdict differing plain once [] differing_fits) in
    let t = text_tells (contradiction differing) plain once [] _ (OR [] ∷ []) e (tt, tt) (laws.told differing plain once [] differing_fits) in
    once_differs (t.equal.1 (unsatisfied _))

-- input 1, first w 1 where it should be 0, second w 0, d 1
abbrev free : List Bool
free = true ∷ true ∷ false ∷ true ∷ []

free_satisfies : Satisfying (pair_variables plain once once) (drop 1 (pair_clauses plain once once)) free
unfolding pair_variables pair_clauses variables_of clauses_of used_after current_after gates_clauses moved targeted difference_clauses up_from controls_below bit satisfies holds
free_satisfies = record { whole = refl; satisfied = refl }

within_later : (v : ℕ) (cs : List Clause) → ClausesWithin v cs → ClausesWithin v (drop 1 cs)
within_later v [] w = tt
within_later v (c ∷ cs) w = w.1

-- without the first clause, NOT and NOT are called different
pub without_first_fails : ProgramLaws without_first → ⊥
unfolding without_first
without_first_fails laws =
    let e : without_first equal ≡ dimacs_of (pair_variables plain once once) (drop 1 (pair_clauses plain once once)) =
    ap (answer_text (λ (f : Formula). dimacs_of f.variables (drop 1 f.clauses))) (fitting_verdict equal plain once once equal_fits) in
    let t = text_tells (without_first equal) plain once once _ _ e (within_later (pair_variables plain once once) (pair_clauses plain once once) (list_within plain once once (listable plain once once equal_fits.first equal_fits.second))) (laws.told equal plain once once equal_fits) in
    t.equal.0 (λ x p k c. refl) free free_satisfies

-- a program that refuses all
pub refuses_all : (program : List ℕ → List ℕ) → ((input : List ℕ) → (number : ℕ) × (file : ℕ) × (place : ℕ) × (program input ≡ refusal_text number file place)) → ProgramLaws program → ⊥
refuses_all program all laws =
    let (number, file, place, e) = all differing in
    refusal_starts number file place (subst StartsProblem e (laws.problem differing plain once [] differing_fits))

-- ---- and with marks that are passed over

-- two good files and the words of their clause list, by their lengths
fits_of_two : (h : Header) (a b : List Gate) → length a ≤ 1 → length b ≤ 1 → TwoFiles (text_of h a) (text_of h b) h a b → leb (length (text_of h a ++ text_of h b)) max_input ≡ true → leb (length (stored (pair_clauses h a b))) max_words ≡ true
    → Fitting (text_of h a ++ text_of h b) h a b
fits_of_two h a b i j t l m =
    record {
      first = record { cascade = t.first_good.cascade; few = omega (arith, i) };
      second = record { cascade = t.second_good.cascade; few = omega (arith, j) };
      files = refl;
      bytes = leb-true _ _ l;
      words = leb-true _ _ m;
    }

junk_fits : Fitting (text_of junk_line once ++ text_of junk_line []) junk_line once []
unfolding number_text controls_text gate_lines stored pair_clauses side_by_side without_junk used_after current_after gates_clauses moved targeted difference_clauses up_from controls_below lines_in bit
junk_fits = fits_of_two junk_line once [] (omega arith) (omega arith) junk_files refl refl

constant_fits : Fitting (text_of constant_line controlled ++ text_of constant_line []) constant_line controlled []
unfolding number_text controls_text gate_lines stored pair_clauses side_by_side without_junk used_after current_after gates_clauses moved targeted difference_clauses up_from controls_below lines_in bit
constant_fits = fits_of_two constant_line controlled [] (omega arith) (omega arith) constant_files refl refl

two_fit : Fitting (text_of (unmarked 2) controlled ++ text_of (unmarked 2) []) (unmarked 2) controlled []
unfolding number_text controls_text gate_lines stored pair_clauses clauses_of used_after current_after gates_clauses moved targeted difference_clauses up_from controls_below lines_in bit
two_fit = fits_of_two (unmarked 2) controlled [] (omega arith) (omega arith) two_files refl refl

-- the same text does not tell of two headers where only one calls two cascades equal
module _ (program : List ℕ → List ℕ) (laws : ProgramLaws program) (h k : Header) (a b : List Gate) where
  same_equal : (text : List ℕ) → TextTells text h a b → TextTells text k a b → EqualFor h a b → EqualFor k a b
  same_equal text t u e =
      let f : some t.read ≡ some u.read = sym t.is_read ∙ u.is_read in
      let g : t.read ≡ u.read = cc in
      u.tells.equal.1 (subst (λ (d : Dimacs). (σ : List Bool) → Satisfying d.variables d.clauses σ → ⊥) g (t.tells.equal.0 e))

  no_notice : Fitting (text_of h a ++ text_of h b) h a b → Fitting (text_of k a ++ text_of k b) k a b → EqualFor h a b → (EqualFor k a b → ⊥)
      → program (text_of h a ++ text_of h b) ≡ program (text_of k a ++ text_of k b) → ⊥
  no_notice f g equal apart e =
      apart (same_equal (program (text_of k a ++ text_of k b)) (subst (λ (text : List ℕ). TextTells text h a b) e (laws.told _ h a b f)) (laws.told _ k a b g) equal)

pub junk_counted : (program : List ℕ → List ℕ) → ((h : Header) (a b : List Gate) → program (text_of h a ++ text_of h b) ≡ program (text_of (all_counted h) a ++ text_of (all_counted h) b)) → ProgramLaws program → ⊥
junk_counted program passes laws = no_notice program laws junk_line plain once [] junk_fits differing_fits (junk_equal once []) once_differs (passes junk_line once [])

pub constants_ignored : (program : List ℕ → List ℕ)
    → ((h : Header) (a b : List Gate) → program (text_of h a ++ text_of h b) ≡ program (text_of (without_constants h) a ++ text_of (without_constants h) b)) → ProgramLaws program → ⊥
constants_ignored program passes laws = no_notice program laws constant_line (unmarked 2) controlled [] constant_fits two_fit constant_equal controlled_acts (passes constant_line controlled [])

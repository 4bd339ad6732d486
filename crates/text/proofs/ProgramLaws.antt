-- What the program writes: clauses or a refusal, each told by its bytes. Assumes nothing.
use mathlib.Core.Path.{◌≡◌, refl, sym, ap, subst, ◌∙◌}
use mathlib.Core.List.{List, ◌++◌}
use Prim.Native.Nat.{ℕ, ◌≤◌, ◌<◌}
use native.Mathlib.Omega.{arith}
use lib.Dec.{leb}
use lib.ListN.{length, take}
use lib.Seq.{take_at}
use borrow.Author.Tests.{leb-true, le-leb}
use Rattle.circuit.specs.declared.gate.Gate.{Gate}
use Rattle.circuit.specs.declared.header.Header.{Header}
use Rattle.circuit.specs.Outcome.{Outcome, served, before, Yields}
use Rattle.circuit.specs.Text.{text_of}
use Rattle.circuit.specs.FileLaws.{FileCascade}
use Rattle.circuit.proofs.Promises.{never, demanded}
use Rattle.circuit.specs.Refusal.{no_room}
use Rattle.text.specs.Answers.{fit_outcome, fit_buffer, WritesWhere}
use Rattle.text.specs.Formula.{Formula}
use Rattle.text.specs.FileOutcome.{FileOutcome, answered, refused_at, refusal_text}
use Rattle.text.specs.WholeFile.{FileWithin, WithinRefused}
use Rattle.text.specs.Tomiter.{max_input, verdict, verdict_text, tomiter_text, tomiter_outcome, tomiter_buffer, WritesText}
use Rattle.text.specs.BytesTell.{max_input_gates, StartsProblem, TextTells, BytesTell}
use Rattle.text.specs.TextLaws.{ProgramRefused, too_long, first_file, in_second_file, lines_differ, other_marks, list_long, RightText, clauses, refusal, ProgramLaws, AsBuilt}
use Rattle.text.proofs.Fields.{refusal_apart}
use Rattle.text.proofs.Telling.{refusal_starts, listed_fits, text_starts, text_fitting, text_told, as_built, dimacs_starts}
use Rattle.text.proofs.Refusals.{refused_exactly}
use Rattle.text.proofs.WholeFile.{within_refused, starts_as, large_refused}
use Rattle.text.proofs.Writes.{writes_where}

-- ---- the program

text_refused : (input : List ℕ) (number file place : ℕ) → tomiter_text input ≡ refusal_text number file place → ProgramRefused input number file place
unfolding tomiter_text
text_refused input number file place e = (refused_exactly input number file place).0 (go (verdict input) refl)
  where
    go : (w : FileOutcome Formula) → verdict input ≡ w → verdict input ≡ refused_at number file place
    go (answered f) q = absurd (refusal_starts number file place (subst StartsProblem (sym (ap verdict_text q) ∙ e) (dimacs_starts f.variables f.clauses)))
    go (refused_at k f p) q =
        let (a, b, c) = refusal_apart k f p number file place (sym (ap verdict_text q) ∙ e) in
        q ∙ ap (λ (x : ℕ). refused_at x f p) a ∙ ap (λ (x : ℕ). refused_at number x p) b ∙ ap (refused_at number file) c

refused_text : (input : List ℕ) (number file place : ℕ) → ProgramRefused input number file place → tomiter_text input ≡ refusal_text number file place
unfolding tomiter_text
refused_text input number file place f = ap verdict_text ((refused_exactly input number file place).1 f)

text_written : (input : List ℕ) → RightText input (tomiter_text input)
text_written input = go (verdict input) refl
  where
    go : (w : FileOutcome Formula) → verdict input ≡ w → RightText input (tomiter_text input)
    go (answered l) e = let (h, a, b, f) = listed_fits input l e in clauses h a b f (text_starts input h a b f) (text_told input h a b f)
    go (refused_at number file place) e =
        let f = (refused_exactly input number file place).0 e in
        refusal number file place f (refused_text input number file place f)

pub program_laws : ProgramLaws tomiter_text
program_laws =
    record {
      writes = text_written;
      problem = text_starts;
      fitting = text_fitting;
      told = text_told;
      refused = λ input number file place. (text_refused input number file place, refused_text input number file place);
    }

-- a file of more than 1,024 gates, whatever follows its `end`
pub first_large : (program : List ℕ → List ℕ) → ProgramLaws program → (h : Header) (a : List Gate) (rest : List ℕ) → FileCascade h a → max_input_gates < length a
    → length (text_of h a ++ rest) ≤ max_input → program (text_of h a ++ rest) ≡ refusal_text no_room 1 0
first_large program laws h a rest good more short =
    (laws.refused _ no_room 1 0).1 (first_file no_room 0 short (large_refused max_input_gates h a rest good more))

pub second_large : (program : List ℕ → List ℕ) → ProgramLaws program → (h k : Header) (a b : List Gate) (rest : List ℕ) → FileWithin max_input_gates h a → FileCascade k b → max_input_gates < length b
    → length (text_of h a ++ (text_of k b ++ rest)) ≤ max_input → program (text_of h a ++ (text_of k b ++ rest)) ≡ refusal_text no_room 2 0
second_large program laws h k a b rest good-a good more short =
    (laws.refused _ no_room 2 0).1 (in_second_file h a (text_of k b ++ rest) no_room 0 short good-a refl (before (large_refused max_input_gates k b rest good more)))

-- what is said of the first file is wrong with it
of_first : (input : List ℕ) (number file place : ℕ) → ProgramRefused input number file place → file ≡ 1 → WithinRefused max_input_gates input number place
of_first input _ _ _ (too_long h) e = absurd (omega arith)
of_first input _ _ _ (first_file number place s f) e = f
of_first input _ _ _ (in_second_file h a rest number place s good is w) e = absurd (omega arith)
of_first input _ _ _ (lines_differ h a k b s good-a good-b is l) e = absurd (omega arith)
of_first input _ _ _ (other_marks h a k b s good-a good-b is l m) e = absurd (omega arith)
of_first input _ _ _ (list_long h a b s good-a good-b is l) e = absurd (omega arith)

pub first_held : (program : List ℕ → List ℕ) → ProgramLaws program → (h : Header) (a : List Gate) (rest : List ℕ) (number place : ℕ) → FileCascade h a → length a ≤ max_input_gates
    → program (text_of h a ++ rest) ≡ refusal_text number 1 place → ⊥
first_held program laws h a rest number place good few e =
    let w = of_first _ number 1 place ((laws.refused _ number 1 place).0 e) refl in
    never (starts_as max_input_gates h a rest (record { cascade = good; few = few })) ((within_refused max_input_gates _ number place).1 w)

-- every such program writes this text
pub program_only : (program : List ℕ → List ℕ) → ProgramLaws program → AsBuilt program → (input : List ℕ) → program input ≡ tomiter_text input
program_only program laws built input = go (laws.writes input)
  where
    go : RightText input (program input) → program input ≡ tomiter_text input
    go (clauses h a b f s t) = built input h a b f ∙ sym (as_built input h a b f)
    go (refusal number file place f e) = e ∙ sym (refused_text input number file place f)

-- ---- the call

pub call : (input out : List ℕ) → WritesWhere (length (tomiter_text input) ≤ length out) (tomiter_outcome input (length out)) (tomiter_text input) out (tomiter_buffer input out)
unfolding fit_outcome fit_buffer
call input out =
    writes_where (length (tomiter_text input) ≤ length out) (leb (length (tomiter_text input)) (length out)) (leb-true _ _) (le-leb _ _) _ (tomiter_text input) out refl

-- what the bytes of a served call tell
pub bytes_tell : (input out : List ℕ) (told : Outcome ℕ) (last : List ℕ) → told ≡ tomiter_outcome input (length out) → last ≡ tomiter_buffer input out → BytesTell input told last
unfolding fit_outcome
bytes_tell input out told last e l k s starts =
    let (t, q) = demanded (leb (length (tomiter_text input)) (length out)) no_room 0 (served (length (tomiter_text input))) k (sym e ∙ s) in
    let long : length (tomiter_text input) ≡ k = cc in
    let same : take k last ≡ tomiter_text input = ap (take k) (l ∙ (call input out).leaves k (sym e ∙ s)) ∙ take_at (tomiter_text input) _ k long in
    let (h, a, b, f) = text_fitting input (subst StartsProblem same starts) in
    record {
      header = h;
      first = a;
      second = b;
      first_good = f.first;
      second_good = f.second;
      files = f.files;
      told = subst (λ (text : List ℕ). TextTells text h a b) (sym same) (text_told input h a b f);
    }

pub answers : (input out : List ℕ) (told : Outcome ℕ) (last : List ℕ) → Yields told last (tomiter_outcome input (length out)) (tomiter_buffer input out) → WritesText input out told last
answers input out told last y = record { answer = y.answer; buffer = y.buffer; tells = bytes_tell input out told last y.answer y.buffer }

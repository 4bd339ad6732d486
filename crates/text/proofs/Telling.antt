-- The program's text tells on which states the cascades of two files differ. Assumes nothing.
use mathlib.Core.Path.{◌≡◌, refl, sym, ap, ap₂, subst, ◌∙◌}
use mathlib.Core.List.{List, ◌++◌}
use Prim.Native.Nat.{ℕ, ◌≤◌}
use native.Mathlib.Omega.{arith}
use lib.Dec.{leb}
use lib.ListN.{length, drop, take-append-drop}
use lib.Seq.{drop-append_seam}
use borrow.Author.Tests.{le-leb, leb-true}
use Rattle.circuit.specs.declared.gate.Gate.{Gate}
use Rattle.circuit.specs.declared.header.Header.{Header}
use Rattle.circuit.specs.Text.{text_of}
use Rattle.circuit.specs.Header.{unmarked}
use Rattle.checking.specs.Miter.{miter_gates}
use Rattle.checking.specs.Clauses.{Clause, clauses_of, variables_of}
use Rattle.checking.specs.Pair.{pair_clauses, pair_variables}
use Rattle.checking.specs.Stored.{stored}
use Rattle.checking.proofs.Promises.{unmarked_clauses, unmarked_variables}
use Rattle.text.specs.Dimacs.{header_text, dimacs_of, dimacs_read}
use Rattle.text.specs.Formula.{Formula, pair_formula}
use Rattle.text.specs.FileOutcome.{FileOutcome, answered, refused_at, refusal_text}
use Rattle.text.specs.Tomiter.{max_input, max_words, list_verdict, pair_verdict, second_verdict, verdict, verdict_text, tomiter_text}
use Rattle.text.specs.BytesTell.{max_input_gates, StartsProblem, TextTells}
use Rattle.text.specs.WholeFile.{FileWithin, file_within, whole_file}
use Rattle.text.specs.TextLaws.{Fitting}
use Rattle.text.proofs.FileOutcome.{both_met, both_passed, file_passed}
use Rattle.text.proofs.Pairs.{headers_met, headers_passed, listable, list_tells}
use Rattle.text.proofs.Reading.{text_back}
use Rattle.text.proofs.WholeFile.{starts_as, within_text, WholeJudged, whole_judged, whole_is}
use Rattle.text.proofs.list.Laws.{first_good, verdict_served}

-- ---- good files

-- after a good first file comes the second one
pub after_first : (input : List ℕ) (h : Header) (a : List Gate) (rest : List ℕ) → length input ≤ max_input → FileWithin max_input_gates h a → input ≡ text_of h a ++ rest
    → verdict input ≡ second_verdict h a rest
after_first input h a rest short good e =
    first_good input short _ (ap (file_within max_input_gates) e ∙ starts_as max_input_gates h a rest good)
    ∙ ap (second_verdict h a) (ap (drop (length (text_of h a))) e ∙ drop-append_seam (text_of h a) rest)

-- and after a good second one, to its last byte, the pair
pub after_second : (h : Header) (a : List Gate) (k : Header) (b : List Gate) → FileWithin max_input_gates k b → second_verdict h a (text_of k b) ≡ pair_verdict h a k b
after_second h a k b good =
    verdict_served h a (text_of k b) _ (whole_is max_input_gates (text_of k b) k b good refl)

-- ---- an input that fits

pub fitting_verdict : (input : List ℕ) (h : Header) (a b : List Gate) → Fitting input h a b → verdict input ≡ answered (pair_formula h a b)
unfolding pair_verdict list_verdict
fitting_verdict input h a b f =
    after_first input h a (text_of h b) f.bytes f.first f.files
    ∙ after_second h a h b f.second
    ∙ headers_met h h _ refl
    ∙ both_met (leb (length (stored (pair_clauses h a b))) max_words) _ _ (le-leb _ _ f.words)

-- ---- a text that starts `p cnf`

pub dimacs_starts : (v : ℕ) (cs : List Clause) → StartsProblem (dimacs_of v cs)
unfolding dimacs_of header_text
dimacs_starts v cs = refl

pub refusal_starts : (number file place : ℕ) → StartsProblem (refusal_text number file place) → ⊥
unfolding refusal_text
refusal_starts number file place e = let z : ◌≡◌ {A = ℕ} 114 112 = cc in omega arith

-- what a verdict that lists clauses says of the tests before it
module _ (input : List ℕ) (f : Formula) (e : verdict input ≡ answered f) where
  pub listed_fits : (h : Header) × (a : List Gate) × (b : List Gate) × Fitting input h a b
  unfolding verdict second_verdict pair_verdict list_verdict
  listed_fits =
      let (short, e1) = both_passed (leb (length input) max_input) _ _ f e in
      let (c, first, e2) = file_passed 1 (file_within max_input_gates input) _ f e1 in
      let rest : List ℕ = drop c.taken input in
      let (d, second, e4) = file_passed 2 (whole_file max_input_gates rest) _ f e2 in
      let (same, e5) = headers_passed c.header d.header _ f e4 in
      let (words, e6) = both_passed (leb (length (stored (pair_clauses c.header c.gates d.gates))) max_words) _ _ f e5 in
      let (good-a, text-a) = within_text max_input_gates input c first in
      let (good-b, text-b) = subst (WholeJudged max_input_gates rest) second (whole_judged max_input_gates rest) in
      let whole : rest ≡ text_of c.header d.gates = text-b ∙ ap (λ (h : Header). text_of h d.gates) (sym same) in (
        c.header,
        c.gates,
        d.gates,
        record {
          first = good-a;
          second = subst (λ (h : Header). FileWithin max_input_gates h d.gates) (sym same) good-b;
          files = sym (take-append-drop c.taken input) ∙ ap₂ ◌++◌ text-a whole;
          bytes = leb-true (length input) max_input short;
          words = leb-true (length (stored (pair_clauses c.header c.gates d.gates))) max_words words;
        },
      )

-- ---- what the program writes

pub as_built : (input : List ℕ) (h : Header) (a b : List Gate) → Fitting input h a b → tomiter_text input ≡ dimacs_of (pair_variables h a b) (pair_clauses h a b)
unfolding tomiter_text
as_built input h a b f = ap verdict_text (fitting_verdict input h a b f)

-- without marks, the text of the miter's clauses
pub unmarked_text : (input : List ℕ) (n : ℕ) (a b : List Gate) → Fitting input (unmarked n) a b
    → tomiter_text input ≡ dimacs_of (variables_of n (miter_gates a b)) (clauses_of n (miter_gates a b))
unmarked_text input n a b f = as_built input (unmarked n) a b f ∙ ap₂ dimacs_of (unmarked_variables (unmarked n) a b refl) (unmarked_clauses (unmarked n) a b refl)

pub text_starts : (input : List ℕ) (h : Header) (a b : List Gate) → Fitting input h a b → StartsProblem (tomiter_text input)
unfolding tomiter_text
text_starts input h a b f = subst (λ (w : FileOutcome Formula). StartsProblem (verdict_text w)) (sym (fitting_verdict input h a b f)) (dimacs_starts _ _)

pub text_fitting : (input : List ℕ) → StartsProblem (tomiter_text input) → (h : Header) × (a : List Gate) × (b : List Gate) × Fitting input h a b
unfolding tomiter_text
text_fitting input s = go (verdict input) refl s
  where
    go : (w : FileOutcome Formula) → verdict input ≡ w → StartsProblem (verdict_text w) → (h : Header) × (a : List Gate) × (b : List Gate) × Fitting input h a b
    go (answered f) e t = listed_fits input f e
    go (refused_at number file place) e t = absurd (refusal_starts number file place t)

pub text_told : (input : List ℕ) (h : Header) (a b : List Gate) → Fitting input h a b → TextTells (tomiter_text input) h a b
text_told input h a b f =
    let t = list_tells h a b (listable h a b f.first f.second) in
    record {
      read = record { variables = pair_variables h a b; count = length (pair_clauses h a b); clauses = pair_clauses h a b };
      is_read = ap dimacs_read (as_built input h a b f) ∙ text_back (pair_variables h a b) (pair_clauses h a b) t.within;
      counted = refl;
      tells = t;
    }

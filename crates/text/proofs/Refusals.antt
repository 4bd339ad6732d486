-- An input is refused exactly for what is wrong with it first. Assumes nothing.
use mathlib.Core.Path.{◌≡◌, refl, sym, ap, subst, ◌∙◌}
use mathlib.Core.Logic.{◌↔◌}
use mathlib.Core.List.{List, ◌++◌}
use Prim.Native.Nat.{ℕ, ◌≤◌, ◌<◌}
use lib.Dec.{leb}
use lib.ListN.{length, drop, take-append-drop}
use borrow.Author.Tests.{leb-true, leb-false, lt-leb}
use Rattle.bits.proofs.Bools.{either}
use Rattle.circuit.specs.declared.gate.Gate.{Gate}
use Rattle.circuit.specs.declared.header.Header.{Header}
use Rattle.circuit.specs.Outcome.{Outcome, served, refused}
use Rattle.circuit.specs.Text.{text_of}
use Rattle.circuit.specs.File.{Reading}
use Rattle.checking.specs.Pair.{pair_clauses}
use Rattle.checking.specs.Stored.{stored}
use Rattle.text.specs.FileOutcome.{refused_at}
use Rattle.text.specs.BytesTell.{max_input_gates}
use Rattle.text.specs.Tomiter.{max_input, max_words, list_verdict, pair_verdict, second_verdict, verdict}
use Rattle.text.specs.WholeFile.{FileWithin, file_within, whole_file}
use Rattle.text.specs.TextLaws.{ProgramRefused, too_long, first_file, in_second_file, lines_differ, other_marks, list_long}
use Rattle.text.proofs.FileOutcome.{not_refused, same_at, both_met, both_failed}
use Rattle.text.proofs.Pairs.{by_headers, headers_met, lines_apart, marks_apart}
use Rattle.text.proofs.Telling.{after_first, after_second}
use Rattle.text.proofs.WholeFile.{within_refused, within_text, WholeJudged, whole_judged, whole_refused}
use Rattle.text.proofs.list.Laws.{input_long, first_bad, first_good, verdict_refused, verdict_served}

-- ---- what is wrong is told

told : (input : List ℕ) (number file place : ℕ) → ProgramRefused input number file place → verdict input ≡ refused_at number file place
unfolding pair_verdict list_verdict
told input _ _ _ (too_long h) = input_long input h
told input _ _ _ (first_file number place h f) = first_bad input h number place ((within_refused max_input_gates input number place).1 f)
told input _ _ _ (in_second_file h a rest number place s good e w) =
    after_first input h a rest s good e ∙ verdict_refused h a rest number place ((whole_refused max_input_gates rest number place).1 w)
told input _ _ _ (lines_differ h a k b s good-a good-b e l) =
    after_first input h a (text_of k b) s good-a e ∙ after_second h a k b good-b ∙ lines_apart h k _ l
told input _ _ _ (other_marks h a k b s good-a good-b e l m) =
    after_first input h a (text_of k b) s good-a e ∙ after_second h a k b good-b ∙ marks_apart h k _ l m
told input _ _ _ (list_long h a b s good-a good-b e l) =
    after_first input h a (text_of h b) s good-a e
    ∙ after_second h a h b good-b
    ∙ headers_met h h _ refl
    ∙ both_failed (leb (length (stored (pair_clauses h a b))) max_words) _ _ (lt-leb _ _ l)

-- ---- and only that

module _ (input : List ℕ) (number file place : ℕ) (short : length input ≤ max_input) where
  module _ (h : Header) (a : List Gate) (good-a : FileWithin max_input_gates h a) where
    list_found : (b : List Gate) → FileWithin max_input_gates h b → input ≡ text_of h a ++ text_of h b → list_verdict h a b ≡ refused_at number file place
        → ProgramRefused input number file place
    unfolding list_verdict
    list_found b good-b e v =
        either (leb (length (stored (pair_clauses h a b))) max_words)
        (λ t. absurd (not_refused (sym v ∙ both_met (leb (length (stored (pair_clauses h a b))) max_words) _ _ t)))
        (λ t.
        same_at (ProgramRefused input) (sym (both_failed (leb (length (stored (pair_clauses h a b))) max_words) _ _ t) ∙ v)
        (list_long h a b short good-a good-b e (leb-false _ _ t)))

    pair_found : (k : Header) (b : List Gate) → FileWithin max_input_gates k b → input ≡ text_of h a ++ text_of k b → pair_verdict h a k b ≡ refused_at number file place
        → ProgramRefused input number file place
    unfolding pair_verdict
    pair_found k b good-b e v =
        by_headers h k
        (λ s.
        list_found b (subst (λ (x : Header). FileWithin max_input_gates x b) (sym s) good-b) (e ∙ ap (λ (x : Header). text_of h a ++ text_of x b) (sym s)) (sym (headers_met h k _ s) ∙ v))
        (λ l. same_at (ProgramRefused input) (sym (lines_apart h k _ l) ∙ v) (lines_differ h a k b short good-a good-b e l))
        (λ l m. same_at (ProgramRefused input) (sym (marks_apart h k _ l m) ∙ v) (other_marks h a k b short good-a good-b e l m))

    second_found : (rest : List ℕ) → input ≡ text_of h a ++ rest → (o : Outcome Reading) → whole_file max_input_gates rest ≡ o → WholeJudged max_input_gates rest o → second_verdict h a rest ≡ refused_at number file place
        → ProgramRefused input number file place
    second_found rest e (refused k p) r w v =
        same_at (ProgramRefused input) (sym (verdict_refused h a rest k p r) ∙ v) (in_second_file h a rest k p short good-a e w)
    second_found rest e (served d) r (good-b, text-b) v =
        pair_found d.header d.gates good-b (e ∙ ap (λ (l : List ℕ). text_of h a ++ l) text-b) (sym (verdict_served h a rest d r) ∙ v)

  first_found : (o : Outcome Reading) → file_within max_input_gates input ≡ o → verdict input ≡ refused_at number file place → ProgramRefused input number file place
  first_found (refused k p) r v =
      same_at (ProgramRefused input) (sym (first_bad input short k p r) ∙ v) (first_file k p short ((within_refused max_input_gates input k p).0 r))
  first_found (served c) r v =
      let (good, text) = within_text max_input_gates input c r in
      let rest : List ℕ = drop c.taken input in
      second_found c.header c.gates good rest (sym (take-append-drop c.taken input) ∙ ap (λ (l : List ℕ). l ++ rest) text) (whole_file max_input_gates rest) refl (whole_judged max_input_gates rest)
      (sym (first_good input short c r) ∙ v)

found : (input : List ℕ) (number file place : ℕ) → verdict input ≡ refused_at number file place → ProgramRefused input number file place
found input number file place v =
    either (leb (length input) max_input)
    (λ t. first_found input number file place (leb-true _ _ t) (file_within max_input_gates input) refl v)
    (λ t. let h : max_input < length input = leb-false _ _ t in same_at (ProgramRefused input) (sym (input_long input h) ∙ v) (too_long h))

pub refused_exactly : (input : List ℕ) (number file place : ℕ) → (verdict input ≡ refused_at number file place) ↔ ProgramRefused input number file place
refused_exactly input number file place = (found input number file place, told input number file place)

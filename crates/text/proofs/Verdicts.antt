-- What is said of two files is true of them, and nothing else is said. Assumes nothing.
use mathlib.Core.Path.{◌≡◌, refl, sym, ap, subst, ◌∙◌}
use mathlib.Core.List.{List}
use Prim.Native.Nat.{ℕ, ◌≤◌}
use lib.Dec.{leb}
use lib.ListN.{length}
use borrow.Author.Tests.{leb-true, leb-false}
use Rattle.bits.proofs.Bools.{either}
use Rattle.circuit.specs.declared.gate.Gate.{Gate}
use Rattle.circuit.specs.declared.header.Header.{Header}
use Rattle.circuit.specs.Outcome.{Outcome, served, refused}
use Rattle.circuit.specs.Text.{text_of}
use Rattle.circuit.specs.File.{Reading}
use Rattle.text.specs.FileOutcome.{FileOutcome, answered, refused_at}
use Rattle.text.specs.Compare.{max_file, max_file_gates, CascadePair, second_file, files_of}
use Rattle.text.specs.WholeFile.{FileWithin, whole_file}
use Rattle.text.specs.TwoFiles.{TwoFiles, FilesRefused, first_long, second_long, first_file, in_second_file, lines_differ, other_marks}
use Rattle.text.proofs.Pairs.{by_headers}
use Rattle.text.proofs.WholeFile.{WholeJudged, whole_judged, whole_is, whole_refused}
use Rattle.text.proofs.pair.Laws as pair

module _ (first second : List ℕ) where
  abbrev pub Judged : FileOutcome CascadePair → Type 0
  Judged (answered p) = TwoFiles first second p.header p.first p.second
  Judged (refused_at number file place) = FilesRefused first second number file place

  module _ (short : length first ≤ max_file) (short-2 : length second ≤ max_file) where
    module _ (h : Header) (a : List Gate) (good : FileWithin max_file_gates h a) (is : first ≡ text_of h a) where
      second_by : (o : Outcome Reading) → whole_file max_file_gates second ≡ o → WholeJudged max_file_gates second o → Judged (second_file h a second)
      second_by (refused k p) e w = subst Judged (sym (pair.second_refused h a second k p e)) (in_second_file h a k p short short-2 good is w)
      second_by (served d) e w =
          by_headers h d.header
          (λ s.
          subst Judged (sym (pair.second_same h a second d e s))
          (record {
            first_good = good;
            second_good = subst (λ (k : Header). FileWithin max_file_gates k d.gates) (sym s) w.0;
            first_text = is;
            second_text = w.1 ∙ ap (λ (k : Header). text_of k d.gates) (sym s);
            first_bytes = short;
            second_bytes = short-2;
          }))
          (λ l. subst Judged (sym (pair.second_lines h a second d e l)) (lines_differ h a d.header d.gates short short-2 good is w.0 w.1 l))
          (λ l m. subst Judged (sym (pair.second_marks h a second d e l m)) (other_marks h a d.header d.gates short short-2 good is w.0 w.1 l m))

    first_by : (o : Outcome Reading) → whole_file max_file_gates first ≡ o → WholeJudged max_file_gates first o → Judged (files_of first second)
    first_by (refused k p) e w = subst Judged (sym (pair.first_refused first second short short-2 k p e)) (first_file k p short short-2 w)
    first_by (served c) e w =
        subst Judged (sym (pair.first_served first second short short-2 c e))
        (second_by c.header c.gates w.0 w.1 (whole_file max_file_gates second) refl (whole_judged max_file_gates second))

  pub judged : Judged (files_of first second)
  judged =
      either (leb (length first) max_file)
      (λ t.
      let short = leb-true (length first) max_file t in
      either (leb (length second) max_file)
      (λ u. first_by short (leb-true (length second) max_file u) (whole_file max_file_gates first) refl (whole_judged max_file_gates first))
      (λ u.
      let long = leb-false (length second) max_file u in
      subst Judged (sym (pair.second_long first second short long)) (second_long short long)))
      (λ t. let long = leb-false (length first) max_file t in subst Judged (sym (pair.first_long first second long)) (first_long long))

  -- and the files are what is said of them
  module _ (short : length first ≤ max_file) (short-2 : length second ≤ max_file) where
    first_is : (h : Header) (a : List Gate) → FileWithin max_file_gates h a → first ≡ text_of h a → files_of first second ≡ second_file h a second
    first_is h a good e = pair.first_served first second short short-2 _ (whole_is max_file_gates first h a good e)

  pub judged_is : (f : FileOutcome CascadePair) → Judged f → files_of first second ≡ f
  judged_is (answered p) t =
      first_is t.first_bytes t.second_bytes p.header p.first t.first_good t.first_text
      ∙ pair.second_same p.header p.first second _ (whole_is max_file_gates second p.header p.second t.second_good t.second_text) refl
  judged_is (refused_at _ _ _) (first_long l) = pair.first_long first second l
  judged_is (refused_at _ _ _) (second_long s l) = pair.second_long first second s l
  judged_is (refused_at _ _ _) (first_file number place s s2 w) = pair.first_refused first second s s2 number place ((whole_refused max_file_gates first number place).1 w)
  judged_is (refused_at _ _ _) (in_second_file h a number place s s2 good e w) =
      first_is s s2 h a good e ∙ pair.second_refused h a second number place ((whole_refused max_file_gates second number place).1 w)
  judged_is (refused_at _ _ _) (lines_differ h a k b s s2 good e good-b e-b l) =
      first_is s s2 h a good e ∙ pair.second_lines h a second _ (whole_is max_file_gates second k b good-b e-b) l
  judged_is (refused_at _ _ _) (other_marks h a k b s s2 good e good-b e-b l m) =
      first_is s s2 h a good e ∙ pair.second_marks h a second _ (whole_is max_file_gates second k b good-b e-b) l m

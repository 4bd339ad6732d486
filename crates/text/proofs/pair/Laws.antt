-- What a file and two files say, case by case. Assumes nothing.
use mathlib.Core.Path.{◌≡◌, ◌∙◌}
use mathlib.Core.List.{List}
use Prim.Native.Nat.{ℕ, ◌≤◌, ◌<◌}
use lib.Dec.{leb}
use lib.ListN.{length}
use borrow.Author.Tests.{le-leb, lt-leb}
use Rattle.circuit.specs.declared.gate.Gate.{Gate}
use Rattle.circuit.specs.declared.header.Header.{Header}
use Rattle.circuit.specs.Outcome.{served, refused}
use Rattle.circuit.specs.Refusal.{line_counts_differ, marks_differ, no_room}
use Rattle.circuit.specs.File.{Reading}
use Rattle.text.specs.WholeFile.{whole_file}
use Rattle.text.specs.FileOutcome.{answered, refused_at}
use Rattle.text.specs.Compare.{max_file, max_file_gates, cascades, second_file, files_of}
use Rattle.text.proofs.FileOutcome.{that_met, that_failed, file_served, file_refused}
use Rattle.text.proofs.Pairs.{headers_met, lines_apart, marks_apart}

-- ---- the second file

module _ (h : Header) (gs : List Gate) (second : List ℕ) where
  pub second_refused : (number place : ℕ) → whole_file max_file_gates second ≡ refused number place → second_file h gs second ≡ refused_at number 2 place
  unfolding second_file
  second_refused number place e = file_refused 2 (whole_file max_file_gates second) _ number place e

  module _ (d : Reading) (e : whole_file max_file_gates second ≡ served d) where
    pub second_lines : (h.lines ≡ d.header.lines → ⊥) → second_file h gs second ≡ refused_at line_counts_differ 0 0
    unfolding second_file
    second_lines l = file_served 2 (whole_file max_file_gates second) _ d e ∙ lines_apart h d.header _ l

    pub second_marks : h.lines ≡ d.header.lines → (h ≡ d.header → ⊥) → second_file h gs second ≡ refused_at marks_differ 0 0
    unfolding second_file
    second_marks l m = file_served 2 (whole_file max_file_gates second) _ d e ∙ marks_apart h d.header _ l m

    pub second_same : h ≡ d.header → second_file h gs second ≡ answered (cascades h gs d.gates)
    unfolding second_file
    second_same s = file_served 2 (whole_file max_file_gates second) _ d e ∙ headers_met h d.header _ s

-- ---- both

module _ (first second : List ℕ) where
  pub first_long : max_file < length first → files_of first second ≡ refused_at no_room 1 0
  unfolding files_of
  first_long h = that_failed 1 (leb (length first) max_file) _ _ (lt-leb (length first) max_file h)

  module _ (short : length first ≤ max_file) where
    pub second_long : max_file < length second → files_of first second ≡ refused_at no_room 2 0
    unfolding files_of
    second_long h =
        that_met 1 (leb (length first) max_file) _ _ (le-leb (length first) max_file short) ∙ that_failed 2 (leb (length second) max_file) _ _ (lt-leb (length second) max_file h)

    module _ (short-2 : length second ≤ max_file) where
      pub first_refused : (number place : ℕ) → whole_file max_file_gates first ≡ refused number place → files_of first second ≡ refused_at number 1 place
      unfolding files_of
      first_refused number place e =
          that_met 1 (leb (length first) max_file) _ _ (le-leb (length first) max_file short)
          ∙ that_met 2 (leb (length second) max_file) _ _ (le-leb (length second) max_file short-2)
          ∙ file_refused 1 (whole_file max_file_gates first) _ number place e

      pub first_served : (c : Reading) → whole_file max_file_gates first ≡ served c → files_of first second ≡ second_file c.header c.gates second
      unfolding files_of
      first_served c e =
          that_met 1 (leb (length first) max_file) _ _ (le-leb (length first) max_file short)
          ∙ that_met 2 (leb (length second) max_file) _ _ (le-leb (length second) max_file short-2)
          ∙ file_served 1 (whole_file max_file_gates first) _ c e

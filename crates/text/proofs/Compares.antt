-- The claim of the text that is written for two files: which verdict it says is true of them. Assumes nothing.
use mathlib.Core.Path.{◌≡◌, refl, sym, ap, subst, ◌∙◌}
use mathlib.Core.Bool.{false}
use mathlib.Core.List.{List, []}
use Prim.Native.Nat.{ℕ, ◌^◌, ◌≤◌, ◌<◌}
use lib.Dec.{eqb, leb}
use lib.ListN.{length}
use borrow.Author.Tests.{eqb-true, eqb-false, eq-eqb, ne_eqb, leb-true, leb-false, le-leb, lt-leb}
use Rattle.bits.proofs.Bools.{either, cond-true, cond-false}
use Rattle.bits.proofs.Lists.{empty}
use Rattle.circuit.specs.declared.gate.Gate.{Gate}
use Rattle.circuit.specs.declared.header.Header.{Header}
use Rattle.circuit.specs.Outcome.{served}
use Rattle.circuit.specs.Refusal.{no_room}
use Rattle.checking.specs.Compare.{max_sweep_lines, Difference, none, lowest, lowest_from}
use Rattle.checking.specs.Compare as sweep
use Rattle.checking.specs.PairTold.{TellsFor}
use Rattle.checking.specs.Stored.{stored}
use Rattle.text.specs.Dimacs.{dimacs_of}
use Rattle.text.specs.Formula.{Formula}
use Rattle.text.specs.Plain.{plain_clauses}
use Rattle.text.specs.BytesTell.{TextTells}
use Rattle.text.specs.FileOutcome.{FileOutcome, answered, refused_at}
use Rattle.text.specs.Compare.{max_list, CascadePair, files_of, Comparison, reduced, unsolved, gates_left, left_formula, swept_as, list_as, compared, compared_files, comparison, comparison_text, compared_text, compare_text}
use Rattle.text.specs.TwoFiles.{TwoFiles}
use Rattle.text.proofs.FileOutcome.{both_met, both_failed}
use Rattle.text.specs.CompareLaws.{MayWrite, refuses, overflows, reduces, sweeps, differs, asks, Compares}
use Rattle.text.proofs.Reading.{text_back}
use Rattle.text.proofs.PlainClauses.{plain_or, plain_tells}
use Rattle.text.proofs.Verdicts.{Judged, judged}
use Rattle.text.proofs.Pairs.{listable}
use Rattle.text.proofs.Reduced.{none_equal, found, left_tells}

-- ---- what is decided of two cascades, by cases

module _ (h : Header) (a b : List Gate) where
  pub by_none : gates_left a b ≡ [] → compared h a b ≡ answered reduced
  unfolding compared
  by_none e = cond-true (eqb (length (gates_left a b)) 0) _ _ (eq-eqb _ _ (ap length e))

  module _ (more : gates_left a b ≡ [] → ⊥) where
    some : eqb (length (gates_left a b)) 0 ≡ false
    some = ne_eqb _ _ (λ z. more (empty (gates_left a b) z))

    pub by_sweep : h.lines ≤ max_sweep_lines → compared h a b ≡ answered (swept_as a b (lowest_from h a b 0 (2 ^ h.lines)))
    unfolding compared
    by_sweep l = cond-false (eqb (length (gates_left a b)) 0) _ _ some ∙ cond-true (leb h.lines max_sweep_lines) _ _ (le-leb h.lines max_sweep_lines l)

    pub by_clauses : max_sweep_lines < h.lines → compared h a b ≡ list_as (left_formula h a b)
    unfolding compared
    by_clauses l = cond-false (eqb (length (gates_left a b)) 0) _ _ some ∙ cond-false (leb h.lines max_sweep_lines) _ _ (lt-leb h.lines max_sweep_lines l)

module _ (f : Formula) where
  pub list_fits : length (stored f.clauses) ≤ max_list → list_as f ≡ answered (unsolved f)
  unfolding list_as
  list_fits l = both_met (leb (length (stored f.clauses)) max_list) _ _ (le-leb (length (stored f.clauses)) max_list l)

  pub list_long : max_list < length (stored f.clauses) → list_as f ≡ refused_at no_room 0 0
  unfolding list_as
  list_long l = both_failed (leb (length (stored f.clauses)) max_list) _ _ (lt-leb (length (stored f.clauses)) max_list l)

-- each case of the two
pub by_cases : (P : FileOutcome Comparison → Type 0) (h : Header) (a b : List Gate)
    → (gates_left a b ≡ [] → P (answered reduced))
    → ((gates_left a b ≡ [] → ⊥) → h.lines ≤ max_sweep_lines → P (answered (swept_as a b (lowest_from h a b 0 (2 ^ h.lines)))))
    → ((gates_left a b ≡ [] → ⊥) → max_sweep_lines < h.lines → length (stored (left_formula h a b).clauses) ≤ max_list → P (answered (unsolved (left_formula h a b))))
    → ((gates_left a b ≡ [] → ⊥) → max_sweep_lines < h.lines → max_list < length (stored (left_formula h a b).clauses) → P (refused_at no_room 0 0))
    → P (compared h a b)
by_cases P h a b reducing sweeping listing overflowing =
    either (eqb (length (gates_left a b)) 0)
    (λ u.
    let e : gates_left a b ≡ [] = empty (gates_left a b) (eqb-true (length (gates_left a b)) 0 u) in
    subst P (sym (by_none h a b e)) (reducing e))
    (λ u.
    let more : gates_left a b ≡ [] → ⊥ = λ e. eqb-false (length (gates_left a b)) 0 u (ap length e) in
    either (leb h.lines max_sweep_lines)
    (λ v. let l = leb-true h.lines max_sweep_lines v in subst P (sym (by_sweep h a b more l)) (sweeping more l))
    (λ v.
    let l = leb-false h.lines max_sweep_lines v in
    let f = left_formula h a b in
    either (leb (length (stored f.clauses)) max_list)
    (λ w. let few = leb-true _ _ w in subst P (sym (by_clauses h a b more l ∙ list_fits f few)) (listing more l few))
    (λ w. let long = leb-false _ _ w in subst P (sym (by_clauses h a b more l ∙ list_long f long)) (overflowing more l long))))

-- ---- two cascades of good files

module _ (first second : List ℕ) (h : Header) (a b : List Gate) (t : TwoFiles first second h a b) where
  abbrev f : Formula
  f = left_formula h a b

  abbrev text : List ℕ
  text = dimacs_of f.variables (plain_clauses f.clauses)

  tells : TellsFor h f.variables (plain_clauses f.clauses) a b
  tells = plain_tells h f.variables f.clauses a b (left_tells h a b (listable h a b t.first_good t.second_good))

  text_tells : TextTells text h a b
  text_tells =
      record {
        read = record { variables = f.variables; count = length (plain_clauses f.clauses); clauses = plain_clauses f.clauses };
        is_read = text_back f.variables (plain_clauses f.clauses) tells.within;
        counted = refl;
        tells = tells;
      }

  -- the sweep found that the two are equal, or the lowest state on which they differ
  by_difference : (gates_left a b ≡ [] → ⊥) → h.lines ≤ max_sweep_lines → (d : Difference) → sweep.Says h a b (served d) → MayWrite first second (comparison_text (swept_as a b d))
  by_difference more l none s = sweeps h a b t refl more l s
  by_difference more l (lowest x) s = differs h a b t x refl more l s.0 (λ y below d. d.outputs (s.1 y below d.permitted d.line d.counts))

  pub compared_claim : MayWrite first second (compared_text (compared h a b))
  unfolding text_tells
  compared_claim =
      by_cases (λ c. MayWrite first second (compared_text c)) h a b
      (λ e. reduces h a b t refl e (none_equal h a b (listable h a b t.first_good t.second_good) e))
      (λ more l. by_difference more l (lowest_from h a b 0 (2 ^ h.lines)) (found h a b (listable h a b t.first_good t.second_good)))
      (λ more l few. asks h a b t refl text_tells (plain_or f.clauses) more l few)
      (λ more l long. overflows h a b t refl more l long)

-- ---- the claim

said : (first second : List ℕ) (f : FileOutcome CascadePair) → Judged first second f → MayWrite first second (compared_text (compared_files f))
said first second (answered p) t = compared_claim first second p.header p.first p.second t
said first second (refused_at number file place) f = refuses number file place refl f

pub compares : Compares compare_text
unfolding compare_text comparison
compares first second = said first second (files_of first second) (judged first second)

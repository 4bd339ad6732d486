-- The cascades of two files: their headers compared, and their clause list. Assumes nothing.
use mathlib.Core.Path.{◌≡◌, ap, ◌∙◌}
use mathlib.Core.Bool.{true}
use mathlib.Core.List.{List}
use Prim.Native.Nat.{ℕ, ◌+◌, ◌≤◌}
use native.Mathlib.Omega.{arith}
use lib.Dec.{eqb}
use lib.ListN.{length, length-append}
use borrow.Author.Tests.{eqb-true, eqb-false, ne_eqb, eq-eqb}
use Rattle.bits.proofs.Bools.{either, not_held, refuted}
use Rattle.circuit.specs.declared.gate.Gate.{Gate}
use Rattle.circuit.specs.declared.header.Header.{Header}
use Rattle.circuit.specs.Gate.{max_lines, max_miter_gates}
use Rattle.circuit.specs.Header.{marks_good, same_marks}
use Rattle.circuit.specs.Refusal.{line_counts_differ, marks_differ}
use Rattle.circuit.specs.Words.{all_valid}
use Rattle.circuit.specs.Inverse.{inverse}
use Rattle.circuit.proofs.Promises.{valid_append, inverse_length, inverse_valid, same_header, header_same}
use Rattle.checking.specs.Miter.{miter_gates}
use Rattle.checking.specs.Clauses.{max_variables}
use Rattle.checking.specs.Pair.{pair_clauses, pair_variables}
use Rattle.checking.specs.PairTold.{TellsFor}
use Rattle.checking.specs.Satisfaction.{ClausesWithin}
use Rattle.checking.proofs.Promises.{pair_tells, pair_within, pair_variables_few}
use Rattle.text.specs.WholeFile.{FileWithin}
use Rattle.text.specs.FileOutcome.{FileOutcome, answered, refused_at, of_both}
use Rattle.text.proofs.FileOutcome.{both_met, both_failed, both_passed}
use Rattle.text.proofs.plain.Short.{within_more}

-- ---- two headers

-- they are the same, or differ in their lines, or in their marks alone
pub by_headers : {C : Type 0} (h k : Header) → (h ≡ k → C) → ((h.lines ≡ k.lines → ⊥) → C) → (h.lines ≡ k.lines → (h ≡ k → ⊥) → C) → C
by_headers h k same lines marks =
    either (eqb h.lines k.lines)
    (λ t.
    let e = eqb-true h.lines k.lines t in
    either (same_marks h k)
    (λ m. same (same_header h k e m))
    (λ m. marks e (λ s. refuted m (header_same h k s))))
    (λ t. lines (eqb-false h.lines k.lines t))

-- 8, then 15
module _ {A : Type 0} (h k : Header) (more : FileOutcome A) where
  abbrev pub with_headers : FileOutcome A
  with_headers = of_both (eqb h.lines k.lines) line_counts_differ (of_both (same_marks h k) marks_differ more)

  pub headers_met : h ≡ k → with_headers ≡ more
  headers_met e =
      both_met (eqb h.lines k.lines) _ _ (eq-eqb _ _ (ap (λ (x : Header). x.lines) e)) ∙ both_met (same_marks h k) _ _ (header_same h k e)

  pub lines_apart : (h.lines ≡ k.lines → ⊥) → with_headers ≡ refused_at line_counts_differ 0 0
  lines_apart d = both_failed (eqb h.lines k.lines) _ _ (ne_eqb _ _ d)

  pub marks_apart : h.lines ≡ k.lines → (h ≡ k → ⊥) → with_headers ≡ refused_at marks_differ 0 0
  marks_apart e d =
      both_met (eqb h.lines k.lines) _ _ (eq-eqb _ _ e) ∙ both_failed (same_marks h k) _ _ (not_held _ (λ m. d (same_header h k e m)))

-- they were passed
pub headers_passed : {A : Type 0} (h k : Header) (more : FileOutcome A) (a : A) → with_headers h k more ≡ answered a → (h ≡ k) × (more ≡ answered a)
headers_passed h k more a e =
    let (l, f) = both_passed (eqb h.lines k.lines) line_counts_differ _ a e in
    let (m, g) = both_passed (same_marks h k) marks_differ _ a f in
    (same_header h k (eqb-true _ _ l) m, g)

-- ---- their clause list

-- two cascades with the header h that a clause list is made of
pub record Listable (h : Header) (a b : List Gate) : Type 0 where
  pub lines : h.lines ≤ max_lines
  pub marks : marks_good h ≡ true
  pub few : length a + length b ≤ max_miter_gates
  pub first : all_valid h.lines a ≡ true
  pub second : all_valid h.lines b ≡ true

pub listable : {most : ℕ} (h : Header) (a b : List Gate) → FileWithin most h a → FileWithin most h b → Listable h a b
listable h a b x y =
    let c = x.cascade in
    let d = y.cascade in
    record { lines = c.lines_high; marks = c.marks; few = omega (arith, c.few, d.few); first = c.gates; second = d.gates }

-- how many gates their miter has
pub miter_length : (a b : List Gate) → length (miter_gates a b) ≡ length a + length b
miter_length a b = length-append a (inverse b) ∙ ap (λ (k : ℕ). length a + k) (inverse_length b)

module _ (h : Header) (a b : List Gate) (l : Listable h a b) where
  pub list_tells : TellsFor h (pair_variables h a b) (pair_clauses h a b) a b
  list_tells = pair_tells h a b l.marks l.lines l.first l.second

  pub list_within : ClausesWithin (pair_variables h a b) (pair_clauses h a b)
  list_within = pair_within h a b l.lines l.first l.second

  pub variables_few : pair_variables h a b ≤ max_variables
  variables_few = omega (arith, pair_variables_few h a b l.lines, l.lines, l.few)

  pub list_below : ClausesWithin max_variables (pair_clauses h a b)
  list_below = within_more (pair_variables h a b) max_variables (pair_clauses h a b) variables_few list_within

  pub miter_few : length (miter_gates a b) ≤ max_miter_gates
  miter_few = omega (arith, l.few, miter_length a b)

  pub miter_valid : all_valid h.lines (miter_gates a b) ≡ true
  miter_valid = valid_append h.lines a (inverse b) l.first (inverse_valid h.lines b l.second)

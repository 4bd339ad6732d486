-- What the full reduction leaves of the miter of two cascades, or of each alone, and what its clauses tell of the two. Assumes nothing.
use mathlib.Core.Path.{◌≡◌, refl, sym, ap, subst, ◌∙◌}
use mathlib.Core.Logic.{◌↔◌}
use mathlib.Core.Bool.{true, false}
use mathlib.Core.List.{List, []}
use Prim.Native.Nat.{ℕ, ◌+◌, ◌^◌, ◌≤◌}
use native.Mathlib.Omega.{arith}
use lib.ListN.{length}
use Rattle.bits.specs.Digits.{bit}
use Rattle.bits.proofs.Bools.{either, cond-true, cond-false}
use Rattle.circuit.specs.declared.gate.Gate.{Gate}
use Rattle.circuit.specs.declared.header.Header.{Header}
use Rattle.circuit.specs.Gate.{max_lines}
use Rattle.circuit.specs.Header.{marked}
use Rattle.circuit.specs.Outcome.{served}
use Rattle.circuit.specs.Words.{all_valid}
use Rattle.circuit.specs.Run.{run, EqualFor, DiffersFor}
use Rattle.circuit.proofs.Promises.{valid_all_more, run_none, unmarked_header}
use Rattle.checking.specs.Miter.{miter_gates}
use Rattle.checking.specs.StepLaws.{Keeps}
use Rattle.checking.specs.Reduce.{reduce_gates}
use Rattle.checking.specs.Compare.{lowest_from, Says}
use Rattle.checking.specs.ReduceLaws.{Reduces}
use Rattle.checking.specs.Clauses.{clauses_of, variables_of, max_variables}
use Rattle.checking.specs.Satisfaction.{ClausesWithin}
use Rattle.checking.specs.PairTold.{TellsFor}
use Rattle.checking.proofs.Promises.{miter_laws, reduce_laws, sweep_says, clause_laws, tells_same, tells_unmarked, differs_for_same, tells_for_same}
use Rattle.text.specs.Formula.{Formula, formula_of, pair_formula}
use Rattle.text.specs.Compare.{gates_left, alone, left_formula}
use Rattle.text.specs.private.Words.{AllShort}
use Rattle.text.proofs.Pairs.{Listable, list_tells, variables_few, miter_length, miter_few, miter_valid}
use Rattle.text.proofs.plain.Short.{list_short, pair_short, within_more}
use Rattle.text.proofs.plain.Xors.{xors, list_xors, pair_xors}

-- ---- one list of gates

module _ (n : ℕ) (gs : List Gate) (lines : n ≤ max_lines) (valid : all_valid n gs ≡ true) where
  reduces_all : let r = reduce_gates gs in Reduces gs r.left r.pairs r.merges
  reduces_all = (reduce_laws.reduce_reduces gs (valid_all_more n max_lines gs lines valid) (reduce_gates gs)).0 refl

  -- the gates left run as before
  pub kept : Keeps n gs (alone gs)
  kept = reduce_laws.reduce_keeps n gs _ _ _ lines valid reduces_all

  -- and are no more
  pub no_more : length (alone gs) ≤ length gs
  no_more = omega (arith, reduce_laws.reduce_count gs _ _ _ reduces_all)

-- ---- the clauses for a solver

module _ (h : Header) (a b : List Gate) where
  pub left_marked : marked h ≡ true → left_formula h a b ≡ pair_formula h (alone a) (alone b)
  unfolding left_formula
  left_marked t = cond-true (marked h) _ _ t

  pub left_unmarked : marked h ≡ false → left_formula h a b ≡ formula_of h.lines (gates_left a b)
  unfolding left_formula
  left_unmarked t = cond-false (marked h) _ _ t

-- ---- two cascades

module _ (h : Header) (a b : List Gate) (l : Listable h a b) where
  abbrev gl : List Gate
  gl = gates_left a b

  valid : all_valid h.lines (miter_gates a b) ≡ true
  valid = miter_valid h a b l

  left_kept : Keeps h.lines (miter_gates a b) gl
  left_kept = kept h.lines (miter_gates a b) l.lines valid

  -- the gates left of the miter are the identity on a state exactly where the cascades agree
  identity : (x : ℕ) → (run gl x ≡ run [] x) ↔ (run a x ≡ run b x)
  identity x =
      let (f, g) = miter_laws.identity a b x in
      ((λ e. f (sym (left_kept.same x) ∙ e ∙ run_none x)), (λ e. left_kept.same x ∙ g e ∙ sym (run_none x)))

  -- where none is left, these are equal with any marks
  pub none_equal : gl ≡ [] → EqualFor h a b
  none_equal e x p k c = ap (λ (y : ℕ). bit y k) ((identity x).0 (ap (λ (gs : List Gate). run gs x) e))

  -- what the sweep finds
  pub found : Says h a b (served (lowest_from h a b 0 (2 ^ h.lines)))
  found = sweep_says h a b (record { marks = l.marks; first = l.first; second = l.second })

  kept_first : Keeps h.lines a (alone a)
  kept_first = kept h.lines a l.lines l.first

  kept_second : Keeps h.lines b (alone b)
  kept_second = kept h.lines b l.lines l.second

  -- the two, each reduced alone
  alone_listable : Listable h (alone a) (alone b)
  alone_listable =
      record {
        lines = l.lines;
        marks = l.marks;
        few = omega (arith, l.few, no_more h.lines a l.lines l.first, no_more h.lines b l.lines l.second);
        first = kept_first.good;
        second = kept_second.good;
      }

  alone_differs : (x : ℕ) → DiffersFor h (alone a) (alone b) x ↔ DiffersFor h a b x
  alone_differs x = (
    differs_for_same h (alone a) (alone b) a b kept_first.same kept_second.same x,
    differs_for_same h a b (alone a) (alone b) (λ y. sym (kept_first.same y)) (λ y. sym (kept_second.same y)) x,
  )

  abbrev Telling : Formula → Type 0
  Telling f = TellsFor h f.variables f.clauses a b

  alone_tells : Telling (pair_formula h (alone a) (alone b))
  alone_tells = tells_for_same h (alone a) (alone b) a b alone_differs _ _ (list_tells h (alone a) (alone b) alone_listable)

  miter_tells : marked h ≡ false → Telling (formula_of h.lines gl)
  miter_tells t =
      subst (λ (k : Header). TellsFor k (variables_of h.lines gl) (clauses_of h.lines gl) a b) (sym (unmarked_header h l.marks t))
      (tells_unmarked h.lines _ _ a b l.first l.second
      (tells_same h.lines _ _ gl [] a b identity (clause_laws.list_tells h.lines gl l.lines left_kept.good)))

  left_by : (P : Formula → Type 0) → P (pair_formula h (alone a) (alone b)) → (marked h ≡ false → P (formula_of h.lines gl)) → P (left_formula h a b)
  left_by P f g =
      either (marked h)
      (λ t. subst P (sym (left_marked h a b t)) f)
      (λ t. subst P (sym (left_unmarked h a b t)) (g t))

  -- the clauses for a solver tell on which states the two differ
  pub left_tells : Telling (left_formula h a b)
  left_tells = left_by Telling alone_tells miter_tells

  -- and can be written
  pub left_variables : (left_formula h a b).variables ≤ max_variables
  left_variables =
      left_by (λ f. f.variables ≤ max_variables)
      (variables_few h (alone a) (alone b) alone_listable)
      (λ t. omega (arith, clause_laws.variables_few h.lines gl, l.lines, no_more h.lines (miter_gates a b) l.lines valid, miter_few h a b l))

  pub left_short : AllShort (left_formula h a b).clauses
  left_short = left_by (λ f. AllShort f.clauses) (pair_short h (alone a) (alone b)) (λ t. list_short h.lines gl)

  pub left_within : ClausesWithin max_variables (left_formula h a b).clauses
  left_within = within_more (left_formula h a b).variables max_variables (left_formula h a b).clauses left_variables left_tells.within

  -- one XOR for each gate and each line at most
  pub left_xors : xors (left_formula h a b).clauses ≤ length a + length b + h.lines
  left_xors =
      left_by (λ f. xors f.clauses ≤ length a + length b + h.lines)
      (omega (arith, pair_xors h (alone a) (alone b), no_more h.lines a l.lines l.first, no_more h.lines b l.lines l.second))
      (λ t. omega (arith, list_xors h.lines gl, no_more h.lines (miter_gates a b) l.lines valid, miter_length a b))

-- The clauses of a clause list can be written as OR clauses alone. Assumes nothing.
use mathlib.Core.Path.{◌≡◌, sym, subst}
use mathlib.Core.Bool.{Bool, true, false}
use mathlib.Core.List.{List, [], ◌∷◌, map}
use Prim.Native.Nat.{ℕ, suc, ◌≤◌}
use native.Mathlib.Omega.{arith}
use lib.IntN.{ℤ}
use lib.ListN.{length}
use lib.Seq.{length-take-le}
use Rattle.bits.specs.Digits.{lines_in}
use Rattle.bits.proofs.Bools.{either}
use Rattle.bits.proofs.Lists.{all_append, all_implies}
use Rattle.circuit.specs.declared.gate.Gate.{Gate}
use Rattle.circuit.specs.declared.header.Header.{Header}
use Rattle.circuit.specs.Header.{marked}
use Rattle.circuit.specs.Gate.{controls_of, max_lines, max_miter_gates}
use Rattle.circuit.specs.Words.{all_valid}
use Rattle.checking.specs.declared.clauses.Totals.{Totals}
use Rattle.checking.specs.Clauses.{Clause, XOR, plus, minus, input_of, moved, used_by, literal_of, implied, gate_clauses, gates_clauses, used_after, current_after, targeted, up_from, difference_clause, difference_clauses, clauses_of, variables_of, max_variables}
use Rattle.checking.specs.Miter.{miter_gates}
use Rattle.checking.specs.Pair.{constant_clause, constant_clauses, counted_lines, either_targets, used_after_both, pair_clauses}
use Rattle.checking.specs.Satisfaction.{LiteralWithin, clause_literals, ClausesWithin}
use Rattle.checking.proofs.Promises.{clause_laws, clauses_none, clauses_next, differences_none, differences_next, list_parts, marked_parts, unmarked_clauses}
use Rattle.text.specs.Compare.{max_list}
use Rattle.text.specs.Formula.{Formula}
use Rattle.text.specs.private.Lists.{ListStands}
use Rattle.text.specs.private.Words.{ShortClause, AllShort, StoresList}

-- ---- every XOR of a clause list has two or three literals

implied_short : (p : ℕ) (ls : List ℤ) → AllShort (implied p ls)
implied_short p [] = tt
implied_short p (l ∷ ls) = (tt, implied_short p ls)

gate_short : (used v : ℕ) (ls : List ℤ) → AllShort (gate_clauses used v ls)
gate_short used v [] = (tt, tt)
gate_short used v (c ∷ []) = (tt, tt)
gate_short used v (c ∷ d ∷ ls) = (
  tt,
  let last : AllShort (XOR (minus (suc (suc used)) ∷ plus v ∷ plus (suc used) ∷ []) ∷ []) = (tt, tt) in
      all_append ShortClause (implied (suc used) (c ∷ d ∷ ls)) (XOR (minus (suc (suc used)) ∷ plus v ∷ plus (suc used) ∷ []) ∷ []) (implied_short (suc used) (c ∷ d ∷ ls)) last,
)

gates_short : (used : ℕ) (current : ℕ → ℕ) (gs : List Gate) → AllShort (gates_clauses used current gs)
gates_short used current [] = subst AllShort (sym (clauses_none used current)) tt
gates_short used current (g ∷ gs) =
    subst AllShort (sym (clauses_next used current g gs))
    (all_append ShortClause (gate_clauses used (current g.target) (map (literal_of current) (controls_of g))) (gates_clauses (used_by used g) (moved used current g) gs)
    (gate_short used (current g.target) (map (literal_of current) (controls_of g))) (gates_short (used_by used g) (moved used current g) gs))

line_short : (hit : Bool) (d a b : ℕ) → ShortClause (difference_clause hit d a b)
line_short true d a b = tt
line_short false d a b = tt

lines_short : (hit : ℕ → Bool) (left right : ℕ → ℕ) (used : ℕ) (lines : List ℕ) → AllShort (difference_clauses hit left right used lines)
lines_short hit left right used [] = subst AllShort (sym (differences_none hit left right used)) tt
lines_short hit left right used (line ∷ lines) =
    subst AllShort (sym (differences_next hit left right used line lines))
    (line_short (hit line) (suc used) (left line) (right line), lines_short hit left right (suc used) lines)

pub list_short : (n : ℕ) (gs : List Gate) → AllShort (clauses_of n gs)
list_short n gs =
    subst AllShort (sym (list_parts n gs))
    (all_append ShortClause (gates_clauses n input_of gs) _ (gates_short n input_of gs)
    (all_append ShortClause (difference_clauses (targeted gs) input_of (current_after n input_of gs) (used_after n gs) (up_from 0 n)) _
    (lines_short (targeted gs) input_of (current_after n input_of gs) (used_after n gs) (up_from 0 n)) (tt, tt)))

constants_short : (h : Header) (lines : List ℕ) → AllShort (map (constant_clause h) lines)
constants_short h [] = tt
constants_short h (line ∷ lines) = (tt, constants_short h lines)

pub pair_short : (h : Header) (a b : List Gate) → AllShort (pair_clauses h a b)
pair_short h a b =
    either (marked h)
    (λ t.
    subst AllShort (sym (marked_parts h a b t))
    (all_append ShortClause (constant_clauses h) _ (constants_short h (lines_in h.constants h.lines))
    (all_append ShortClause (gates_clauses h.lines input_of a) _ (gates_short h.lines input_of a)
    (all_append ShortClause (gates_clauses (used_after h.lines a) input_of b) _ (gates_short (used_after h.lines a) input_of b)
    (all_append ShortClause (difference_clauses (either_targets a b) (current_after h.lines input_of a) (current_after (used_after h.lines a) input_of b) (used_after_both h a b) (counted_lines h)) _
    (lines_short (either_targets a b) (current_after h.lines input_of a) (current_after (used_after h.lines a) input_of b) (used_after_both h a b) (counted_lines h)) (tt, tt))))))
    (λ t. subst AllShort (sym (unmarked_clauses h a b t)) (list_short h.lines (miter_gates a b)))

-- ---- and few variables

pub within_more : (m k : ℕ) (cs : List Clause) → m ≤ k → ClausesWithin m cs → ClausesWithin k cs
within_more m k cs h =
    all_implies _ _ (λ c. all_implies (LiteralWithin m) (LiteralWithin k) (λ l w. (w.0, omega (arith, w.1))) (clause_literals c)) cs

pub list_within : (n : ℕ) (gs : List Gate) → n ≤ max_lines → length gs ≤ max_miter_gates → all_valid n gs ≡ true → ClausesWithin max_variables (clauses_of n gs)
list_within n gs h l v = within_more (variables_of n gs) max_variables (clauses_of n gs) (omega (arith, clause_laws.variables_few n gs)) (clause_laws.list_tells n gs h v).within

-- ---- stored at the start of a buffer

pub stands_stored : (t : Totals) (buffer : List ℤ) (f : Formula) → ListStands t buffer f → t.words ≤ max_list → StoresList (lib.ListN.take t.words buffer)
stands_stored t buffer f s h =
    record { clauses = f.clauses; words = s.words; short = s.short; within = s.within; few = omega (arith, length-take-le t.words buffer s.inside) }

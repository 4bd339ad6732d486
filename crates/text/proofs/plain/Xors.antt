-- How many clauses of a clause list are XORs. Assumes nothing.
use mathlib.Core.Path.{◌≡◌, refl, ap, ◌∙◌}
use mathlib.Core.Bool.{Bool, true, false}
use mathlib.Core.List.{List, [], ◌∷◌, ◌++◌, map}
use Prim.Native.Nat.{ℕ, suc, ◌+◌, ◌≤◌}
use native.Mathlib.Omega.{arith}
use lib.IntN.{ℤ}
use lib.ListN.{length}
use Rattle.bits.specs.Digits.{lines_in}
use Rattle.bits.proofs.Bools.{either}
use Rattle.circuit.specs.declared.gate.Gate.{Gate}
use Rattle.circuit.specs.declared.header.Header.{Header}
use Rattle.circuit.specs.Header.{marked}
use Rattle.circuit.specs.Gate.{controls_of}
use Rattle.checking.specs.Clauses.{Clause, OR, XOR, plus, minus, input_of, moved, used_by, literal_of, implied, gate_clauses, gates_clauses, used_after, current_after, targeted, up_from, difference_clause, difference_clauses, clauses_of}
use Rattle.checking.specs.Miter.{miter_gates}
use Rattle.checking.specs.Pair.{constant_clause, constant_clauses, counted_lines, either_targets, used_after_both, pair_clauses}
use Rattle.checking.proofs.Promises.{clauses_none, clauses_next, differences_none, differences_next, list_parts, length_up_from, marked_parts, unmarked_clauses, counted_few}
use Rattle.text.proofs.Pairs.{miter_length}

abbrev pub xors : List Clause → ℕ
xors [] = 0
xors (OR ls ∷ cs) = xors cs
xors (XOR ls ∷ cs) = suc (xors cs)

pub xors_append : (cs ds : List Clause) → xors (cs ++ ds) ≡ xors cs + xors ds
xors_append [] ds = omega arith
xors_append (OR ls ∷ cs) ds = omega (arith, xors_append cs ds)
xors_append (XOR ls ∷ cs) ds = omega (arith, xors_append cs ds)

-- no more than clauses
pub xors_few : (cs : List Clause) → xors cs ≤ length cs
xors_few [] = omega arith
xors_few (OR ls ∷ cs) = omega (arith, xors_few cs)
xors_few (XOR ls ∷ cs) = omega (arith, xors_few cs)

-- ---- one a gate

implied_xors : (p : ℕ) (ls : List ℤ) → xors (implied p ls) ≡ 0
implied_xors p [] = refl
implied_xors p (l ∷ ls) = implied_xors p ls

gate_xors : (used v : ℕ) (ls : List ℤ) → xors (gate_clauses used v ls) ≡ 1
gate_xors used v [] = refl
gate_xors used v (c ∷ []) = refl
gate_xors used v (c ∷ d ∷ ls) =
    xors_append (implied (suc used) (c ∷ d ∷ ls)) (XOR (minus (suc (suc used)) ∷ plus v ∷ plus (suc used) ∷ []) ∷ []) ∙ omega (arith, implied_xors (suc used) (c ∷ d ∷ ls))

gates_xors : (used : ℕ) (current : ℕ → ℕ) (gs : List Gate) → xors (gates_clauses used current gs) ≡ length gs
gates_xors used current [] = ap xors (clauses_none used current)
gates_xors used current (g ∷ gs) =
    ap xors (clauses_next used current g gs)
    ∙ xors_append (gate_clauses used (current g.target) (map (literal_of current) (controls_of g))) (gates_clauses (used_by used g) (moved used current g) gs)
    ∙ omega (arith, gate_xors used (current g.target) (map (literal_of current) (controls_of g)), gates_xors (used_by used g) (moved used current g) gs)

-- ---- and one a line at most

line_xors : (hit : Bool) (d a b : ℕ) (cs : List Clause) → xors (difference_clause hit d a b ∷ cs) ≤ suc (xors cs)
line_xors true d a b cs = omega arith
line_xors false d a b cs = omega arith

lines_xors : (hit : ℕ → Bool) (left right : ℕ → ℕ) (used : ℕ) (lines : List ℕ) → xors (difference_clauses hit left right used lines) ≤ length lines
lines_xors hit left right used [] = omega (arith, ap xors (differences_none hit left right used))
lines_xors hit left right used (line ∷ lines) =
    omega (arith, ap xors (differences_next hit left right used line lines), line_xors (hit line) (suc used) (left line) (right line) (difference_clauses hit left right (suc used) lines), lines_xors hit left right (suc used) lines)

constants_xors : (h : Header) (lines : List ℕ) → xors (map (constant_clause h) lines) ≡ 0
constants_xors h [] = refl
constants_xors h (line ∷ lines) = constants_xors h lines

-- ---- of gates, and of two cascades

pub list_xors : (n : ℕ) (gs : List Gate) → xors (clauses_of n gs) ≤ length gs + n
list_xors n gs =
    let lines : List Clause = difference_clauses (targeted gs) input_of (current_after n input_of gs) (used_after n gs) (up_from 0 n) in
    let last : List Clause = OR (map plus (up_from (suc (used_after n gs)) n)) ∷ [] in
    omega (arith, ap xors (list_parts n gs), xors_append (gates_clauses n input_of gs) (lines ++ last), xors_append lines last, gates_xors n input_of gs, lines_xors (targeted gs) input_of (current_after n input_of gs) (used_after n gs) (up_from 0 n), length_up_from 0 n)

pub pair_xors : (h : Header) (a b : List Gate) → xors (pair_clauses h a b) ≤ length a + length b + h.lines
pair_xors h a b = either (marked h) both one
  where
    both : marked h ≡ true → xors (pair_clauses h a b) ≤ length a + length b + h.lines
    both t =
        let middle : ℕ = used_after h.lines a in
        let first : List Clause = gates_clauses h.lines input_of a in
        let second : List Clause = gates_clauses middle input_of b in
        let lines : List Clause = difference_clauses (either_targets a b) (current_after h.lines input_of a) (current_after middle input_of b) (used_after_both h a b) (counted_lines h) in
        let last : List Clause = OR (map plus (up_from (suc (used_after_both h a b)) (length (counted_lines h)))) ∷ [] in
        omega (
          arith,
          ap xors (marked_parts h a b t),
          xors_append (constant_clauses h) (first ++ (second ++ (lines ++ last))),
          xors_append first (second ++ (lines ++ last)),
          xors_append second (lines ++ last),
          xors_append lines last,
          constants_xors h (lines_in h.constants h.lines),
          gates_xors h.lines input_of a,
          gates_xors middle input_of b,
          lines_xors (either_targets a b) (current_after h.lines input_of a) (current_after middle input_of b) (used_after_both h a b) (counted_lines h),
          counted_few h,
        )

    one : marked h ≡ false → xors (pair_clauses h a b) ≤ length a + length b + h.lines
    one t =
        omega (arith, ap xors (unmarked_clauses h a b t), list_xors h.lines (miter_gates a b), miter_length a b)

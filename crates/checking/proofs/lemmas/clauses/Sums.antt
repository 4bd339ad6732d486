-- The sums gate by gate are the variables, clauses and words of the list. Assumes nothing.
use Rattle.std.proofs.Common.{◌≡◌, ℕ, zero, suc, ◌+◌, ◌*◌, ◌≤◌, Bool, true, false, List, [], ◌∷◌, ◌++◌, map, length, ℤ, neg_ℤ, sym, refl, ap, ◌∙◌, ap₂, append-nil, arith, length-append}
use lib.ListN.{length-map}
use Rattle.circuit.specs.declared.gate.Gate.{Gate}
use Rattle.circuit.specs.Gate.{max_lines, control_count, controls_of}
use Rattle.circuit.specs.Words.{all_valid}
use Rattle.circuit.proofs.Promises.{valid_more, controls_count, valid_parts}
use Rattle.checking.specs.declared.clauses.Totals.{Totals}
use Rattle.checking.specs.Clauses.{Clause, OR, XOR, plus, minus, input_of, literal_of, implied, many_clauses, gate_clauses, new_variable, used_by, moved, clauses_of_gate, gates_clauses, used_after, current_after, targeted, up_from, difference_clause, difference_clauses, clauses_of, variables_of}
use Rattle.checking.specs.Stored.{stored}
use Rattle.checking.specs.Sizes.{totals, added, gate_sizes, gates_sizes, line_sizes, lines_sizes, sizes_of}
use Rattle.checking.proofs.lemmas.clauses.Reading.{stored_append}
use Rattle.checking.proofs.lemmas.clauses.Forced.{length_up_from}

-- totals are the same where each of the three numbers is
pub totals_same : (s t : Totals) → s.variables ≡ t.variables → s.clauses ≡ t.clauses → s.words ≡ t.words → s ≡ t
totals_same s t a b c = ap₂ (λ (x y : ℕ). totals x y s.words) a b ∙ ap (totals t.variables t.clauses) c

-- the sizes of a list of clauses that adds `new` variables
abbrev pub sizes_in : ℕ → List Clause → Totals
sizes_in new cs = totals new (length cs) (length (stored cs))

pub sizes_append : (i j : ℕ) (xs ys : List Clause) → sizes_in (i + j) (xs ++ ys) ≡ added (sizes_in i xs) (sizes_in j ys)
sizes_append i j xs ys = ap₂ (totals (i + j)) (length-append xs ys) (ap length (stored_append xs ys) ∙ length-append (stored xs) (stored ys))

-- ---- one gate

implied_count : (p : ℕ) (ls : List ℤ) → length (implied p ls) ≡ length ls
implied_count p [] = refl
implied_count p (l ∷ ls) = ap suc (implied_count p ls)

pub implied_words : (p : ℕ) (ls : List ℤ) → length (stored (implied p ls)) ≡ 4 * length ls
unfolding stored
implied_words p [] = refl
implied_words p (l ∷ ls) = omega (arith, implied_words p ls)

many_count : (p w v : ℕ) (ls : List ℤ) → length (many_clauses p w v ls) ≡ length ls + 2
many_count p w v ls = omega (arith, length-append (implied p ls) (XOR (minus w ∷ plus v ∷ plus p ∷ []) ∷ []), implied_count p ls)

pub many_words : (p w v : ℕ) (ls : List ℤ) → length (stored (many_clauses p w v ls)) ≡ length ls + 3 + 4 * length ls + 5
unfolding stored
many_words p w v ls =
    let end = XOR (minus w ∷ plus v ∷ plus p ∷ []) ∷ [] in
    omega (
      arith,
      length-append (map neg_ℤ ls) (stored (implied p ls ++ end)),
      length-map ls neg_ℤ,
      ap length (stored_append (implied p ls) end),
      length-append (stored (implied p ls)) (stored end),
      implied_words p ls,
    )

pub gate_sizes_lem : (used v : ℕ) (ls : List ℤ) → sizes_in (gate_sizes (length ls)).variables (gate_clauses used v ls) ≡ gate_sizes (length ls)
unfolding stored
gate_sizes_lem used v [] = refl
gate_sizes_lem used v (c ∷ []) = refl
gate_sizes_lem used v (c ∷ d ∷ ls) =
    ap₂ (totals 2) (many_count (suc used) (suc (suc used)) v (c ∷ d ∷ ls)) (many_words (suc used) (suc (suc used)) v (c ∷ d ∷ ls))

pub new_added : (used k : ℕ) → new_variable used k ≡ used + (gate_sizes k).variables
new_added used zero = omega arith
new_added used (suc zero) = omega arith
new_added used (suc (suc k)) = omega arith

-- ---- the gates, with k the number of set bits in both masks

pub gates_sizes_lem : (n used : ℕ) (current : ℕ → ℕ) (gs : List Gate) → n ≤ max_lines → all_valid n gs ≡ true
    → sizes_in (gates_sizes gs).variables (gates_clauses used current gs) ≡ gates_sizes gs
unfolding gates_clauses gates_sizes stored
gates_sizes_lem n used current [] few v = refl
gates_sizes_lem n used current (g ∷ gs) few v =
    let (a, b) = valid_parts n g gs v in
    let ls = map (literal_of current) (controls_of g) in
    let k : length ls ≡ control_count g = length-map (controls_of g) (literal_of current) ∙ controls_count g (valid_more n max_lines g few a) in
    sizes_append (gate_sizes (control_count g)).variables (gates_sizes gs).variables (clauses_of_gate used current g) (gates_clauses (used_by used g) (moved used current g) gs)
    ∙ ap₂ added
    (ap (λ (j : ℕ). sizes_in (gate_sizes j).variables (clauses_of_gate used current g)) (sym k) ∙ gate_sizes_lem used (current g.target) ls ∙ ap gate_sizes k)
    (gates_sizes_lem n (used_by used g) (moved used current g) gs few b)

pub used_sizes : (n used : ℕ) (gs : List Gate) → n ≤ max_lines → all_valid n gs ≡ true → used_after used gs ≡ used + (gates_sizes gs).variables
unfolding used_after gates_sizes
used_sizes n used [] few v = omega arith
used_sizes n used (g ∷ gs) few v =
    let (a, b) = valid_parts n g gs v in
    omega (
      arith,
      used_sizes n (used_by used g) gs few b,
      new_added used (length (controls_of g)),
      ap (λ (k : ℕ). (gate_sizes k).variables) (controls_count g (valid_more n max_lines g few a)),
    )

-- ---- the lines

line_sizes_lem : (hit : Bool) (d a b : ℕ) → sizes_in 1 (difference_clause hit d a b ∷ []) ≡ line_sizes hit
unfolding stored
line_sizes_lem true d a b = refl
line_sizes_lem false d a b = refl

pub lines_sizes_lem : (hit : ℕ → Bool) (left right : ℕ → ℕ) (used : ℕ) (ks : List ℕ)
    → sizes_in (length ks) (difference_clauses hit left right used ks) ≡ lines_sizes hit ks
unfolding difference_clauses lines_sizes stored
lines_sizes_lem hit left right used [] = refl
lines_sizes_lem hit left right used (k ∷ ks) =
    let one : suc (length ks) ≡ 1 + length ks = omega arith in
    let c = difference_clause (hit k) (suc used) (left k) (right k) in
    let cs = difference_clauses hit left right (suc used) ks in
    ap (λ (i : ℕ). sizes_in i (c ∷ cs)) one
    ∙ sizes_append 1 (length ks) (c ∷ []) cs
    ∙ ap₂ added (line_sizes_lem (hit k) (suc used) (left k) (right k)) (lines_sizes_lem hit left right (suc used) ks)

pub last_sizes : (i n : ℕ) → sizes_in 0 (OR (map plus (up_from i n)) ∷ []) ≡ totals 0 1 (n + 2)
unfolding stored
last_sizes i n =
    let e : length (map plus (up_from i n) ++ []) ≡ n = ap length (append-nil (map plus (up_from i n))) ∙ length-map (up_from i n) plus ∙ length_up_from i n in
    let f : suc (suc (length (map plus (up_from i n) ++ []))) ≡ n + 2 = omega arith in
    ap (totals 0 1) f

-- ---- the whole list

pub sizes_list : (n : ℕ) (gs : List Gate) → n ≤ max_lines → all_valid n gs ≡ true
    → sizes_of n gs ≡ totals (variables_of n gs) (length (clauses_of n gs)) (length (stored (clauses_of n gs)))
unfolding sizes_of clauses_of variables_of stored
sizes_list n gs few v =
    let first = gates_clauses n input_of gs in
    let second = difference_clauses (targeted gs) input_of (current_after n input_of gs) (used_after n gs) (up_from 0 n) in
    let last = OR (map plus (up_from (suc (used_after n gs)) n)) ∷ [] in
    let sum : n + ((gates_sizes gs).variables + (length (up_from 0 n) + 0)) ≡ used_after n gs + n = omega (arith, used_sizes n n gs few v, length_up_from 0 n) in
    sym
    (ap (λ (i : ℕ). sizes_in i (first ++ (second ++ last))) (sym sum)
    ∙ sizes_append n ((gates_sizes gs).variables + (length (up_from 0 n) + 0)) [] (first ++ (second ++ last))
    ∙ ap (added (totals n 0 0))
    (sizes_append (gates_sizes gs).variables (length (up_from 0 n) + 0) first (second ++ last)
    ∙ ap₂ added (gates_sizes_lem n n input_of gs few v)
    (sizes_append (length (up_from 0 n)) 0 second last
    ∙ ap₂ added (lines_sizes_lem (targeted gs) input_of (current_after n input_of gs) (used_after n gs) (up_from 0 n)) (last_sizes (suc (used_after n gs)) n))))

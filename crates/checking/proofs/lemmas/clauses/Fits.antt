-- How many variables a list has, and that every stored number fits a word. Assumes nothing.
use Rattle.std.proofs.Common.{◌≡◌, ℕ, zero, suc, ◌+◌, ◌*◌, ◌<◌, ◌≤◌, Bool, true, false, cond, leb, List, [], ◌∷◌, ◌++◌, map, length, ℤ, pos, negsuc, neg_ℤ, arith, le-leb}
use lib.ListN.{length-map}
use Rattle.bits.specs.Lists.{All}
use Rattle.bits.proofs.Bools.{cond-true}
use Rattle.bits.proofs.Lists.{all_append}
use Rattle.circuit.specs.declared.gate.Gate.{Gate}
use Rattle.circuit.specs.Gate.{max_lines, max_miter_gates, controls_of}
use Rattle.circuit.specs.Words.{all_valid}
use Rattle.circuit.proofs.Promises.{few_controls}
use Rattle.checking.specs.Clauses.{Clause, OR, XOR, plus, input_of, literal_of, implied, many_clauses, gate_clauses, new_variable, used_by, moved, clauses_of_gate, gates_clauses, used_after, current_after, targeted, up_from, difference_clause, difference_clauses, clauses_of, variables_of, max_variables, count_p}
use Rattle.checking.specs.Satisfaction.{variable_of, LiteralsWithin, clause_literals, ClausesWithin}
use Rattle.checking.specs.Stored.{stored, FitsIn, AllFit, word_limit}
use Rattle.checking.proofs.lemmas.clauses.Forced.{length_up_from}
use Rattle.checking.proofs.lemmas.clauses.Within.{clauses_within}

-- at most two new variables a gate
pub new_bound : (used k : ℕ) → new_variable used k ≤ used + 2
new_bound used zero = omega arith
new_bound used (suc zero) = omega arith
new_bound used (suc (suc k)) = omega arith

pub used_bound : (used : ℕ) (gs : List Gate) → used_after used gs ≤ used + 2 * length gs
unfolding used_after
used_bound used [] = omega arith
used_bound used (g ∷ gs) = omega (arith, new_bound used (length (controls_of g)), used_bound (used_by used g) gs)

-- two at most for each line and each gate
pub variables_few : (n : ℕ) (gs : List Gate) → variables_of n gs ≤ 2 * n + 2 * length gs
unfolding variables_of
variables_few n gs = omega (arith, used_bound n gs)

-- a w for each gate, and a p for each with two controls or more
used_counted : (used : ℕ) (gs : List Gate) → used_after used gs ≡ used + (length gs + count_p gs)
unfolding used_after count_p
used_counted used [] = omega arith
used_counted used (g ∷ gs) = omega (arith, used_counted (used_by used g) gs, new_counted used (length (controls_of g)))
  where
    new_counted : (used k : ℕ) → new_variable used k ≡ used + (1 + cond (leb 2 k) 1 0)
    new_counted used zero = omega arith
    new_counted used (suc zero) = omega arith
    new_counted used (suc (suc k)) = let e : cond {A = ℕ} (leb 2 (suc (suc k))) 1 0 ≡ 1 = cond-true (leb 2 (suc (suc k))) 1 0 (le-leb 2 (suc (suc k)) (omega arith)) in omega arith

pub variables_counted : (n : ℕ) (gs : List Gate) → variables_of n gs ≡ n + (length gs + count_p gs) + n
unfolding variables_of
variables_counted n gs = omega (arith, used_counted n gs)

-- no clause has more than m literals
abbrev pub Short : ℕ → List Clause → Type 0
Short m cs = All (λ (c : Clause). length (clause_literals c) ≤ m) cs

short_implied : (m p : ℕ) (ls : List ℤ) → 2 ≤ m → Short m (implied p ls)
short_implied m p [] h = tt
short_implied m p (l ∷ ls) h = (h, short_implied m p ls h)

short_many : (m p w v : ℕ) (ls : List ℤ) → length ls + 3 ≤ m → Short m (many_clauses p w v ls)
short_many m p w v ls h = (
  omega (arith, length-map ls neg_ℤ),
  all_append _ (implied p ls) _ (short_implied m p ls (omega arith)) (omega arith, tt),
)

short_gate : (m used v : ℕ) (ls : List ℤ) → length ls + 3 ≤ m → Short m (gate_clauses used v ls)
short_gate m used v [] h = (omega arith, tt)
short_gate m used v (c ∷ []) h = (omega arith, tt)
short_gate m used v (c ∷ d ∷ ls) h = short_many m (suc used) (suc (suc used)) v (c ∷ d ∷ ls) h

pub short_gates : (m used : ℕ) (current : ℕ → ℕ) (gs : List Gate) → max_lines + 3 ≤ m → Short m (gates_clauses used current gs)
unfolding gates_clauses
short_gates m used current [] h = tt
short_gates m used current (g ∷ gs) h =
    all_append _ (clauses_of_gate used current g) _
    (short_gate m used (current g.target) (map (literal_of current) (controls_of g)) (omega (arith, length-map (controls_of g) (literal_of current), few_controls max_lines g)))
    (short_gates m (used_by used g) (moved used current g) gs h)

pub short_differences : (m : ℕ) (hit : ℕ → Bool) (left right : ℕ → ℕ) (used : ℕ) (ks : List ℕ) → 3 ≤ m → Short m (difference_clauses hit left right used ks)
unfolding difference_clauses
short_differences m hit left right used [] h = tt
short_differences m hit left right used (k ∷ ks) h = (one (hit k) (suc used) (left k) (right k) h, short_differences m hit left right (suc used) ks h)
  where
    one : (b : Bool) (d x y : ℕ) → 3 ≤ m → length (clause_literals (difference_clause b d x y)) ≤ m
    one true d x y h = h
    one false d x y h = omega arith

pub short_last : (m i n : ℕ) → n ≤ m → length (map plus (up_from i n)) ≤ m
short_last m i n h = omega (arith, length-map (up_from i n) plus, length_up_from i n)

pub counts_small : (n : ℕ) (gs : List Gate) → n ≤ max_lines → Short (max_lines + 3) (clauses_of n gs)
unfolding clauses_of
counts_small n gs few =
    all_append _ (gates_clauses n input_of gs) _ (short_gates (max_lines + 3) n input_of gs (omega arith))
    (all_append _ (difference_clauses (targeted gs) input_of (current_after n input_of gs) (used_after n gs) (up_from 0 n)) _
    (short_differences (max_lines + 3) (targeted gs) input_of (current_after n input_of gs) (used_after n gs) (up_from 0 n) (omega arith))
    (short_last (max_lines + 3) (suc (used_after n gs)) n (omega arith), tt))

-- ---- every number of a list is one of a width

module _ (limit : ℕ) where
  size_fits : (l : ℤ) → variable_of l < limit → FitsIn limit l
  size_fits (pos v) h = h
  size_fits (negsuc i) h = omega arith

  literals_fit : (m : ℕ) (ls ws : List ℤ) → m < limit → LiteralsWithin m ls → All (FitsIn limit) ws → All (FitsIn limit) (ls ++ ws)
  literals_fit m [] ws h w f = f
  literals_fit m (l ∷ ls) ws h w f = (size_fits l (omega (arith, w.0.1)), literals_fit m ls ws h w.1 f)

  pub stored_fits : (m k : ℕ) (cs : List Clause) → m < limit → k < limit → 1 ≤ k → ClausesWithin m cs → Short k cs → All (FitsIn limit) (stored cs)
  unfolding stored
  stored_fits m k [] h l one a b = tt
  stored_fits m k (OR ls ∷ cs) h l one a b = (omega arith, (omega (arith, b.0), literals_fit m ls (stored cs) h a.0 (stored_fits m k cs h l one a.1 b.1)))
  stored_fits m k (XOR ls ∷ cs) h l one a b = (omega arith, (omega (arith, b.0), literals_fit m ls (stored cs) h a.0 (stored_fits m k cs h l one a.1 b.1)))

  -- of so few variables
  pub words_within : (n : ℕ) (gs : List Gate) → n ≤ max_lines → max_lines + 3 < limit → variables_of n gs < limit → all_valid n gs ≡ true → All (FitsIn limit) (stored (clauses_of n gs))
  words_within n gs few more h v = stored_fits (variables_of n gs) (max_lines + 3) (clauses_of n gs) h more (omega arith) (clauses_within n gs few v) (counts_small n gs few)

-- a word holds the number of each variable of a miter's list, and of the literals of a clause
pub limits_fit : max_variables < word_limit
limits_fit = omega arith

pub count_fits : max_lines + 3 < word_limit
count_fits = omega arith

-- every number of a list fits a word
pub words_fit : (n : ℕ) (gs : List Gate) → n ≤ max_lines → length gs ≤ max_miter_gates → all_valid n gs ≡ true → AllFit (stored (clauses_of n gs))
words_fit n gs few short v = words_within word_limit n gs few count_fits (omega (arith, limits_fit, variables_few n gs)) v

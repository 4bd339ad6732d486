-- Every literal is one of a variable from 1 to V. Assumes nothing.
use Rattle.std.proofs.Common.{◌≡◌, ℕ, zero, suc, ◌+◌, ◌<◌, ◌≤◌, Bool, true, false, cond, eqb, List, [], ◌∷◌, map, length, ℤ, pos, negsuc, neg_ℤ, sym, refl, subst, arith}
use Rattle.bits.proofs.Bools.{either, cond-true, cond-false}
use Rattle.bits.proofs.Lists.{all_append, all_map}
use Rattle.circuit.specs.declared.gate.Gate.{Gate}
use Rattle.circuit.specs.Gate.{max_lines, Control, Inside, controls_of}
use Rattle.circuit.specs.Words.{all_valid}
use Rattle.circuit.proofs.Promises.{valid_facts, valid_parts, controls_inside}
use Rattle.checking.specs.Clauses.{plus, minus, input_of, literal_of, implied, many_clauses, gate_clauses, new_variable, used_by, moved, clauses_of_gate, gates_clauses, used_after, current_after, targeted, up_from, difference_clause, difference_clauses, clauses_of, variables_of}
use Rattle.checking.specs.Satisfaction.{variable_of, LiteralWithin, LiteralsWithin, clause_literals, ClausesWithin}
use Rattle.checking.proofs.lemmas.clauses.Gates.{new_named}
use Rattle.checking.proofs.lemmas.clauses.Forced.{Below, below_up_from, used_more, length_up_from}

pub minus_size : (v : ℕ) → variable_of (minus v) ≡ v
minus_size zero = refl
minus_size (suc v) = refl

pub neg_size : (l : ℤ) → variable_of (neg_ℤ l) ≡ variable_of l
neg_size (pos zero) = refl
neg_size (pos (suc v)) = refl
neg_size (negsuc i) = refl

-- the opposite of a literal is one of the same variable
pub neg_within : (m : ℕ) (l : ℤ) → LiteralWithin m l → LiteralWithin m (neg_ℤ l)
neg_within m l w = (omega (arith, neg_size l, w.0), omega (arith, neg_size l, w.1))

-- the current variables of lines below n are from 1 to m
pub record Named (n m : ℕ) (current : ℕ → ℕ) : Type 0 where
  pub low : (k : ℕ) → k < n → 1 ≤ current k
  pub high : (k : ℕ) → k < n → current k ≤ m

module _ (n m : ℕ) (current : ℕ → ℕ) (named : Named n m current) where
  literal_size : (c : Control) → variable_of (literal_of current c) ≡ current c.line
  literal_size c = by c.positive (current c.line)
    where
      by : (p : Bool) (v : ℕ) → variable_of (cond p (plus v) (minus v)) ≡ v
      by true v = refl
      by false v = minus_size v

  literals_within : (cs : List Control) → Inside n cs → LiteralsWithin m (map (literal_of current) cs)
  literals_within =
      all_map _ (LiteralWithin m) (literal_of current)
      (λ c h. (omega (arith, literal_size c, named.low c.line h), omega (arith, literal_size c, named.high c.line h)))

  implied_within : (p : ℕ) → p < m → (ls : List ℤ) → LiteralsWithin m ls → ClausesWithin m (implied (suc p) ls)
  implied_within p h [] w = tt
  implied_within p h (l ∷ ls) w = (((omega arith, omega arith), (w.0, tt)), implied_within p h ls w.1)

  many_within : (used t : ℕ) (ls : List ℤ) → suc (suc used) ≤ m → t < n → LiteralsWithin m ls
      → ClausesWithin m (many_clauses (suc used) (suc (suc used)) (current t) ls)
  many_within used t ls h ht w = (
    ((omega arith, omega arith), all_map (LiteralWithin m) (LiteralWithin m) neg_ℤ (neg_within m) ls w),
    all_append _ (implied (suc used) ls) _ (implied_within used (omega arith) ls w)
        (((omega arith, h), ((named.low t ht, named.high t ht), ((omega arith, omega arith), tt))), tt),
  )

  gate_within : (used t : ℕ) (cs : List Control) → new_variable used (length cs) ≤ m → t < n → Inside n cs
      → ClausesWithin m (gate_clauses used (current t) (map (literal_of current) cs))
  gate_within used t [] h ht w = (((omega arith, h), ((named.low t ht, named.high t ht), tt)), tt)
  gate_within used t (c ∷ []) h ht w =
      (((omega arith, h), ((named.low t ht, named.high t ht), literals_within (c ∷ []) w)), tt)
  gate_within used t (c ∷ d ∷ cs) h ht w = many_within used t (map (literal_of current) (c ∷ d ∷ cs)) h ht (literals_within (c ∷ d ∷ cs) w)

moved_named : (n m used : ℕ) (current : ℕ → ℕ) (g : Gate) → used_by used g ≤ m → Named n m current → Named n m (moved used current g)
unfolding moved
moved_named n m used current g h named =
    record {
      low = λ k l.
          either (eqb k g.target)
          (λ e. subst (λ (x : ℕ). 1 ≤ x) (sym (cond-true _ (used_by used g) (current k) e)) (omega (arith, new_named used (length (controls_of g)))))
          (λ e. subst (λ (x : ℕ). 1 ≤ x) (sym (cond-false _ (used_by used g) (current k) e)) (named.low k l));
      high = λ k l.
          either (eqb k g.target)
          (λ e. subst (λ (x : ℕ). x ≤ m) (sym (cond-true _ (used_by used g) (current k) e)) h)
          (λ e. subst (λ (x : ℕ). x ≤ m) (sym (cond-false _ (used_by used g) (current k) e)) (named.high k l));
    }

pub gates_within : (n m used : ℕ) (current : ℕ → ℕ) (gs : List Gate) → n ≤ max_lines → all_valid n gs ≡ true → used_after used gs ≤ m → Named n m current
    → ClausesWithin m (gates_clauses used current gs)
unfolding gates_clauses used_after
gates_within n m used current [] few v h named = tt
gates_within n m used current (g ∷ gs) few v h named =
    let (a, b) = valid_parts n g gs v in
    let w : used_by used g ≤ m = omega (arith, used_more (used_by used g) gs) in
    all_append _ (clauses_of_gate used current g) _
    (gate_within n m current named used g.target (controls_of g) w (valid_facts n g a).target_below (controls_inside n g a max_lines))
    (gates_within n m (used_by used g) (moved used current g) gs few b h (moved_named n m used current g w named))

pub after_named : (n m used : ℕ) (current : ℕ → ℕ) (gs : List Gate) → used_after used gs ≤ m → Named n m current → Named n m (current_after used current gs)
unfolding used_after current_after
after_named n m used current [] h named = named
after_named n m used current (g ∷ gs) h named =
    let w : used_by used g ≤ m = omega (arith, used_more (used_by used g) gs) in
    after_named n m (used_by used g) (moved used current g) gs h (moved_named n m used current g w named)

difference_within : (m d a b : ℕ) (hit : Bool) → suc d ≤ m → 1 ≤ a → a ≤ m → 1 ≤ b → b ≤ m → LiteralsWithin m (clause_literals (difference_clause hit (suc d) a b))
difference_within m d a b true h a₁ a₂ b₁ b₂ = ((omega arith, h), ((a₁, a₂), ((b₁, b₂), tt)))
difference_within m d a b false h a₁ a₂ b₁ b₂ = ((omega arith, h), tt)

pub differences_within : (n m : ℕ) (hit : ℕ → Bool) (left right : ℕ → ℕ) → Named n m left → Named n m right
    → (used : ℕ) (ks : List ℕ) → used + length ks ≤ m → Below n ks → ClausesWithin m (difference_clauses hit left right used ks)
unfolding difference_clauses
differences_within n m hit left right a b used [] h w = tt
differences_within n m hit left right a b used (k ∷ ks) h w = (
  difference_within m used (left k) (right k) (hit k) (omega arith) (a.low k w.0) (a.high k w.0) (b.low k w.0) (b.high k w.0),
  differences_within n m hit left right a b (suc used) ks (omega arith) w.1,
)

pub last_within : (m i k : ℕ) → 1 ≤ i → i + k ≤ suc m → LiteralsWithin m (map plus (up_from i k))
unfolding up_from
last_within m i zero one h = tt
last_within m i (suc k) one h = ((one, omega arith), last_within m (suc i) k (omega arith) (omega arith))

pub inputs_named : (n m : ℕ) → n ≤ m → Named n m input_of
inputs_named n m h = record { low = λ k l. omega arith; high = λ k l. omega arith }

-- every literal of the list is one of a variable from 1 to V
pub clauses_within : (n : ℕ) (gs : List Gate) → n ≤ max_lines → all_valid n gs ≡ true → ClausesWithin (variables_of n gs) (clauses_of n gs)
unfolding variables_of clauses_of
clauses_within n gs few v =
    let m = used_after n gs + n in
    let more = used_more n gs in
    let start : Named n m input_of = inputs_named n m (omega arith) in
    all_append _ (gates_clauses n input_of gs) _ (gates_within n m n input_of gs few v (omega arith) start)
    (all_append _ (difference_clauses (targeted gs) input_of (current_after n input_of gs) (used_after n gs) (up_from 0 n)) _
    (differences_within n m (targeted gs) input_of (current_after n input_of gs) start (after_named n m n input_of gs (omega arith) start)
    (used_after n gs) (up_from 0 n) (omega (arith, length_up_from 0 n)) (below_up_from n 0 n (omega arith)))
    (last_within m (suc (used_after n gs)) n (omega arith) (omega arith), tt))

-- The clauses of gates hold exactly when their new variables have the values that the state forces. Assumes nothing.
use Rattle.std.proofs.Common.{◌≡◌, ℕ, zero, suc, ◌<◌, ◌≤◌, Bool, true, false, cond, not, ◌&&◌, ◌||◌, eqb, List, [], ◌∷◌, ◌++◌, map, length, pos, neg_ℤ, sym, refl, ap, ◌∙◌, subst, ap₂, arith, eqb-true}
use mathlib.Core.Bool.{xor, beq, and_assoc, and-true, and-false, or-false, or-true, or-and_distrib_left}
use Rattle.bits.specs.Digits.{bit}
use Rattle.bits.proofs.Bools.{beq_true, and_parts, either, cond-true, cond-false, or_none, and_cong, not_and, xor_none}
use Rattle.circuit.specs.declared.gate.Gate.{Gate}
use Rattle.circuit.specs.Gate.{max_lines, valid, fires, apply, Control, Inside, controls_of, met, all_met}
use Rattle.circuit.specs.Words.{all_valid}
use Rattle.circuit.specs.Run.{run}
use Rattle.circuit.proofs.Promises.{valid_facts, valid_more, apply_bit, controls_fire, controls_inside, met_none, met_one, met_next, valid_parts, run_none, run_next}
use Rattle.checking.specs.Clauses.{XOR, plus, minus, literal_of, implied, many_clauses, gate_clauses, new_variable, used_by, moved, clauses_of_gate, gates_clauses, current_after, targeted}
use Rattle.checking.specs.Satisfaction.{variable, value, satisfies, variable_of}
use Rattle.checking.specs.Forced.{gate_values, gates_values}
use Rattle.checking.proofs.lemmas.clauses.Tests.{shape_0, shape_1, shape_2, some_true, holds_or, holds_xor, value_neg, satisfies_append}

-- ---- values of variables from i + 1 on

abbrev pub agree : List Bool → ℕ → List Bool → Bool
agree σ i [] = true
agree σ i (v ∷ vs) = beq (variable σ (suc i)) v && agree σ (suc i) vs

pub agree_head : (σ : List Bool) (i : ℕ) (v : Bool) (vs : List Bool) → agree σ i (v ∷ vs) ≡ true → variable σ (suc i) ≡ v
agree_head σ i v vs h = beq_true _ v (and_parts (beq (variable σ (suc i)) v) (agree σ (suc i) vs) h).0

pub agree_tail : (σ : List Bool) (i : ℕ) (v : Bool) (vs : List Bool) → agree σ i (v ∷ vs) ≡ true → agree σ (suc i) vs ≡ true
agree_tail σ i v vs h = (and_parts (beq (variable σ (suc i)) v) (agree σ (suc i) vs) h).1

-- ---- an assignment whose current variables have the values of a state's lines

pub record Reads (n : ℕ) (σ : List Bool) (current : ℕ → ℕ) (s : ℕ) : Type 0 where
  pub named : (k : ℕ) → k < n → 1 ≤ current k
  pub read : (k : ℕ) → k < n → variable σ (current k) ≡ bit s k

-- a literal of a variable with value b
pub literal_value : (σ : List Bool) (p : Bool) (v : ℕ) (b : Bool) → 1 ≤ v → variable σ v ≡ b → value σ (cond p (plus v) (minus v)) ≡ cond p b (not b)
literal_value σ true v b h e = e
literal_value σ false v b h e = value_neg σ (pos v) h ∙ ap not e

module _ (n : ℕ) (σ : List Bool) (current : ℕ → ℕ) (s : ℕ) (reads : Reads n σ current s) where
  control_value : (c : Control) → c.line < n → value σ (literal_of current c) ≡ met s c
  control_value c h = literal_value σ c.positive (current c.line) (bit s c.line) (reads.named c.line h) (reads.read c.line h)

  literal_size : (p : Bool) (v : ℕ) → 1 ≤ v → 1 ≤ variable_of (cond p (plus v) (minus v))
  literal_size true v h = h
  literal_size false zero h = h
  literal_size false (suc v) h = h

  negated_value : (c : Control) → c.line < n → value σ (neg_ℤ (literal_of current c)) ≡ not (met s c)
  negated_value c h =
      value_neg σ (literal_of current c) (literal_size c.positive (current c.line) (reads.named c.line h)) ∙ ap not (control_value c h)

  -- some −c is true: not every control is met
  negated_law : (cs : List Control) → Inside n cs → some_true σ (map neg_ℤ (map (literal_of current) cs)) ≡ not (all_met s cs)
  negated_law [] h = ap not (sym (met_none s))
  negated_law (c ∷ cs) h = ap₂ ◌||◌ (negated_value c h.0) (negated_law cs h.1) ∙ sym (ap not (met_next s c cs) ∙ not_and (met s c) (all_met s cs))

  implied_law : (p : ℕ) → 1 ≤ p → (cs : List Control) → Inside n cs
      → satisfies σ (implied p (map (literal_of current) cs)) ≡ (not (variable σ p) || all_met s cs)
  unfolding satisfies
  implied_law p one [] h = sym (ap (λ (b : Bool). not (variable σ p) || b) (met_none s) ∙ or-true (not (variable σ p)))
  implied_law p one (c ∷ cs) h =
      ap₂ ◌&&◌
      (holds_or σ (minus p ∷ literal_of current c ∷ [])
      ∙ ap₂ (λ (a b : Bool). a || b) (value_neg σ (pos p) one) (or-false (value σ (literal_of current c)) ∙ control_value c h.0))
      (implied_law p one cs h.1)
      ∙ sym (or-and_distrib_left (not (variable σ p)) (met s c) (all_met s cs))
      ∙ ap (λ (b : Bool). not (variable σ p) || b) (sym (met_next s c cs))

  -- the clauses with a p, for any number of controls
  many_law : (used t : ℕ) (cs : List Control) → t < n → Inside n cs
      → satisfies σ (many_clauses (suc used) (suc (suc used)) (current t) (map (literal_of current) cs))
      ≡ (beq (variable σ (suc used)) (all_met s cs) && (beq (variable σ (suc (suc used))) (xor (bit s t) (all_met s cs)) && true))
  unfolding satisfies
  many_law used t cs ht h =
      let p = variable σ (suc used) in
      let w = variable σ (suc (suc used)) in
      ap₂ ◌&&◌
      (holds_or σ (plus (suc used) ∷ map neg_ℤ (map (literal_of current) cs)) ∙ ap (λ (b : Bool). p || b) (negated_law cs h))
      (satisfies_append σ (implied (suc used) (map (literal_of current) cs)) (XOR (minus (suc (suc used)) ∷ plus (current t) ∷ plus (suc used) ∷ []) ∷ [])
      ∙ ap₂ (λ (a b : Bool). a && (b && true)) (implied_law (suc used) (omega arith) cs h)
      (holds_xor σ (minus (suc (suc used)) ∷ plus (current t) ∷ plus (suc used) ∷ [])
      ∙ ap (λ (b : Bool). xor (not w) (xor b (xor p false))) (reads.read t ht)))
      ∙ shape_2 p w (bit s t) (all_met s cs)

  -- the clauses of a gate hold exactly when its new variables have the forced values
  gate_law : (used t : ℕ) (cs : List Control) → t < n → Inside n cs
      → satisfies σ (gate_clauses used (current t) (map (literal_of current) cs)) ≡ agree σ used (gate_values s t cs)
  unfolding satisfies
  gate_law used t [] ht h =
      ap (λ (b : Bool). b && true)
      (holds_xor σ (plus (suc used) ∷ plus (current t) ∷ []) ∙ ap (λ (b : Bool). xor (variable σ (suc used)) (xor b false)) (reads.read t ht))
      ∙ shape_0 (variable σ (suc used)) (bit s t)
  gate_law used t (c ∷ []) ht h =
      ap (λ (b : Bool). b && true)
      (holds_xor σ (minus (suc used) ∷ plus (current t) ∷ literal_of current c ∷ [])
      ∙ ap₂ (λ (a b : Bool). xor (not (variable σ (suc used))) (xor a (xor b false))) (reads.read t ht) (control_value c h.0))
      ∙ shape_1 (variable σ (suc used)) (bit s t) (met s c)
      ∙ ap (λ (b : Bool). beq (variable σ (suc used)) (xor (bit s t) b) && true) (sym (met_one s c))
  gate_law used t (c ∷ d ∷ cs) ht h = many_law used t (c ∷ d ∷ cs) ht h

-- what the clauses say of w
pub new_value : (σ : List Bool) (s used t : ℕ) (cs : List Control) → agree σ used (gate_values s t cs) ≡ true
    → variable σ (new_variable used (length cs)) ≡ xor (bit s t) (all_met s cs)
new_value σ s used t [] h = agree_head σ used _ [] h ∙ ap (xor (bit s t)) (sym (met_none s))
new_value σ s used t (c ∷ []) h = agree_head σ used _ [] h
new_value σ s used t (c ∷ d ∷ cs) h =
    agree_head σ (suc used) _ [] (agree_tail σ used (all_met s (c ∷ d ∷ cs)) (xor (bit s t) (all_met s (c ∷ d ∷ cs)) ∷ []) h)

pub new_named : (used k : ℕ) → used < new_variable used k
new_named used zero = omega arith
new_named used (suc zero) = omega arith
new_named used (suc (suc k)) = omega arith

-- then the current variables after the gate have the values of the state after it
pub moved_reads : (n : ℕ) (σ : List Bool) (used : ℕ) (current : ℕ → ℕ) (s : ℕ) (g : Gate) → n ≤ max_lines → valid n g ≡ true → Reads n σ current s
    → agree σ used (gate_values s g.target (controls_of g)) ≡ true → Reads n σ (moved used current g) (apply g s)
unfolding moved
moved_reads n σ used current s g l v r h =
    record {
      named = λ k b.
          either (eqb k g.target)
          (λ e. subst (λ (x : ℕ). 1 ≤ x) (sym (cond-true _ (used_by used g) (current k) e)) (omega (arith, new_named used (length (controls_of g)))))
          (λ e. subst (λ (x : ℕ). 1 ≤ x) (sym (cond-false _ (used_by used g) (current k) e)) (r.named k b));
      read = λ k b.
          either (eqb k g.target)
          (λ e.
          ap (variable σ) (cond-true _ (used_by used g) (current k) e)
          ∙ new_value σ s used g.target (controls_of g) h
          ∙ ap₂ (λ (x : ℕ) (y : Bool). xor (bit s x) y) (sym (eqb-true k g.target e)) (sym (controls_fire g s w) ∙ sym (fired k e))
          ∙ sym (apply_bit g s k w))
          (λ e.
          ap (variable σ) (cond-false _ (used_by used g) (current k) e)
          ∙ r.read k b
          ∙ sym (xor_none (bit s k))
          ∙ ap (xor (bit s k)) (sym (idle k e))
          ∙ sym (apply_bit g s k w));
    }
  where
    w : valid max_lines g ≡ true
    w = valid_more n max_lines g l v

    fired : (k : ℕ) → eqb k g.target ≡ true → (fires g s && eqb k g.target) ≡ fires g s
    fired k e = ap (λ (b : Bool). fires g s && b) e ∙ and-true (fires g s)

    idle : (k : ℕ) → eqb k g.target ≡ false → (fires g s && eqb k g.target) ≡ false
    idle k e = ap (λ (b : Bool). fires g s && b) e ∙ and-false (fires g s)

-- agree, over a gate's values and what follows
pub agree_gate : (σ : List Bool) (used s t : ℕ) (cs : List Control) (vs : List Bool)
    → agree σ used (gate_values s t cs ++ vs) ≡ (agree σ used (gate_values s t cs) && agree σ (new_variable used (length cs)) vs)
agree_gate σ used s t [] vs = rw and_assoc
agree_gate σ used s t (c ∷ []) vs = rw and_assoc
agree_gate σ used s t (c ∷ d ∷ cs) vs = rw (and_assoc, and_assoc)

-- the clauses of gates hold exactly when the new variables have the forced values
pub gates_law : (n : ℕ) (σ : List Bool) (used : ℕ) (current : ℕ → ℕ) (s : ℕ) (gs : List Gate) → n ≤ max_lines → all_valid n gs ≡ true → Reads n σ current s
    → satisfies σ (gates_clauses used current gs) ≡ agree σ used (gates_values s gs)
unfolding gates_clauses gates_values satisfies
gates_law n σ used current s [] l v r = refl
gates_law n σ used current s (g ∷ gs) l v r =
    let (a, b) = valid_parts n g gs v in
    satisfies_append σ (clauses_of_gate used current g) (gates_clauses (used_by used g) (moved used current g) gs)
    ∙ and_cong _ (agree σ used (gate_values s g.target (controls_of g))) _ _
    (gate_law n σ current s r used g.target (controls_of g) (valid_facts n g a).target_below (controls_inside n g a max_lines))
    (λ h. gates_law n σ (used_by used g) (moved used current g) (apply g s) gs l b (moved_reads n σ used current s g l a r h))
    ∙ sym (agree_gate σ used s g.target (controls_of g) (gates_values (apply g s) gs))

-- then the current variables after the gates have the values of the output
pub after_reads : (n : ℕ) (σ : List Bool) (used : ℕ) (current : ℕ → ℕ) (s : ℕ) (gs : List Gate) → n ≤ max_lines → all_valid n gs ≡ true → Reads n σ current s
    → agree σ used (gates_values s gs) ≡ true → Reads n σ (current_after used current gs) (run gs s)
unfolding gates_values current_after
after_reads n σ used current s [] l v r h = subst (Reads n σ current) (sym (run_none s)) r
after_reads n σ used current s (g ∷ gs) l v r h =
    let (a, b) = valid_parts n g gs v in
    let (p, q) =
    and_parts (agree σ used (gate_values s g.target (controls_of g))) (agree σ (used_by used g) (gates_values (apply g s) gs))
    (sym (agree_gate σ used s g.target (controls_of g) (gates_values (apply g s) gs)) ∙ h) in
    subst (Reads n σ (current_after (used_by used g) (moved used current g) gs)) (sym (run_next g gs s))
    (after_reads n σ (used_by used g) (moved used current g) (apply g s) gs l b (moved_reads n σ used current s g l a r p) q)

-- a line that no gate targets keeps its value
pub untouched : (n : ℕ) (gs : List Gate) (s k : ℕ) → n ≤ max_lines → all_valid n gs ≡ true → targeted gs k ≡ false → bit (run gs s) k ≡ bit s k
unfolding targeted
untouched n [] s k l v h = ap (λ (x : ℕ). bit x k) (run_none s)
untouched n (g ∷ gs) s k l v h =
    let (a, b) = valid_parts n g gs v in
    let (e, f) = or_none (eqb k g.target) (targeted gs k) h in
    ap (λ (x : ℕ). bit x k) (run_next g gs s)
    ∙ untouched n gs (apply g s) k l b f
    ∙ apply_bit g s k (valid_more n max_lines g l a)
    ∙ ap (xor (bit s k)) (ap (λ (t : Bool). fires g s && t) e ∙ and-false (fires g s))
    ∙ xor_none (bit s k)

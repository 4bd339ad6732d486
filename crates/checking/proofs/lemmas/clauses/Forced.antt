-- An assignment satisfies the clause list exactly when it is the one that its own inputs force and the run changes them. Assumes nothing.
use Rattle.std.proofs.Common.{◌≡◌, ℕ, zero, suc, ◌+◌, ◌^◌, ◌<◌, ◌≤◌, Bool, true, false, cond, not, ◌&&◌, ◌||◌, eqb, ◌↔◌, List, [], ◌∷◌, ◌++◌, map, length, take, sym, refl, ap, ◌∙◌, subst, ap₂, append_assoc, arith, length-append, lt-ltb, eqb-true}
use borrow.Author.Tests.{eqb-false}
use mathlib.Core.Bool.{xor, and_assoc, and-true, beq, false≢true}
use lib.ListN.{length-map}
use Rattle.bits.specs.Digits.{bit}
use Rattle.bits.specs.Lists.{All}
use Rattle.bits.proofs.Bools.{beq_self, and_parts, both, either, cond-true, cond-false, or_none, or_second, refuted, xor_false, xor_same, xor_self, and_cong, table₁}
use Rattle.bits.proofs.Digits.{bits_below}
use Rattle.circuit.specs.declared.gate.Gate.{Gate}
use Rattle.circuit.specs.Gate.{max_lines, apply, Control, controls_of}
use Rattle.circuit.specs.Words.{all_valid}
use Rattle.circuit.specs.Run.{run}
use Rattle.circuit.proofs.Promises.{run_below}
use Rattle.checking.specs.Clauses.{Clause, OR, plus, minus, input_of, new_variable, used_by, gates_clauses, used_after, current_after, targeted, up_from, difference_clause, difference_clauses, clauses_of, variables_of}
use Rattle.checking.specs.Satisfaction.{variable, holds, satisfies, spelled}
use Rattle.checking.specs.Faults.{mask_where}
use Rattle.checking.specs.Forced.{gate_values, gates_values, differences, traced, forced}
use Rattle.checking.proofs.lemmas.faults.Masks.{mask_below, mask_bit}
use Rattle.checking.proofs.lemmas.clauses.Tests.{shape_d, some_true, holds_or, holds_xor, satisfies_append}
use Rattle.checking.proofs.lemmas.clauses.Gates.{agree, agree_head, agree_tail, agree_gate, Reads, gates_law, after_reads, untouched}

-- ---- the state that the first variables spell

-- it is the mask of the lines whose variables hold
spelled_mask : (n : ℕ) (σ : List Bool) → spelled n σ ≡ mask_where n (λ k. variable σ (suc k))
unfolding spelled mask_where
spelled_mask zero σ = refl
spelled_mask (suc n) σ = ap (λ (x : ℕ). x + cond (variable σ (suc n)) (2 ^ n) 0) (spelled_mask n σ)

pub spelled_below : (n : ℕ) (σ : List Bool) → spelled n σ < 2 ^ n
spelled_below n σ = subst (λ (x : ℕ). x < 2 ^ n) (sym (spelled_mask n σ)) (mask_below n _)

pub spelled_line : (n : ℕ) (σ : List Bool) (k : ℕ) → k < n → bit (spelled n σ) k ≡ variable σ (suc k)
spelled_line n σ k h = ap (λ (x : ℕ). bit x k) (spelled_mask n σ) ∙ mask_bit n _ k ∙ ap (λ (b : Bool). b && variable σ (suc k)) (lt-ltb k n h)

pub reads_inputs : (n : ℕ) (σ : List Bool) → Reads n σ input_of (spelled n σ)
reads_inputs n σ = record { named = λ k h. omega arith; read = λ k h. sym (spelled_line n σ k h) }

-- ---- the variables d

-- lines below n
abbrev pub Below : ℕ → List ℕ → Type 0
Below n ks = All (λ (k : ℕ). k < n) ks

-- a property of all of them is one of each
module _ (P : ℕ → Type 0) where
  pub all_up_from : (i m : ℕ) → ((k : ℕ) → i ≤ k → k < i + m → P k) → All P (up_from i m)
  unfolding up_from
  all_up_from i zero f = tt
  all_up_from i (suc m) f = (f i (omega arith) (omega arith), all_up_from (suc i) m (λ k l h. f k (omega arith) (omega arith)))

  pub up_from_all : (i m : ℕ) → All P (up_from i m) → (k : ℕ) → i ≤ k → k < i + m → P k
  unfolding up_from
  up_from_all i zero a k l h = absurd (omega arith)
  up_from_all i (suc m) a k l h =
      either (eqb i k)
      (λ t. subst P (eqb-true i k t) a.0)
      (λ t. let ne : i ≡ k → ⊥ = eqb-false i k t in up_from_all (suc i) m a.1 k (omega arith) (omega arith))

pub below_up_from : (n i m : ℕ) → i + m ≤ n → Below n (up_from i m)
below_up_from n i m h = all_up_from (λ (k : ℕ). k < n) i m (λ k l b. omega arith)

-- the last clause: some d is true
abbrev pub some_of : List Bool → Bool
some_of [] = false
some_of (v ∷ vs) = v || some_of vs

last_law : (σ : List Bool) (used : ℕ) (vs : List Bool) → agree σ used vs ≡ true → some_true σ (map plus (up_from (suc used) (length vs))) ≡ some_of vs
unfolding up_from
last_law σ used [] h = refl
last_law σ used (v ∷ vs) h = ap₂ ◌||◌ (agree_head σ used v vs h) (last_law σ (suc used) vs (agree_tail σ used v vs h))

-- where the states differ only on the lines that are hit, the clauses hold exactly when each d tells whether they do
module _ (n : ℕ) (σ : List Bool) (hit : ℕ → Bool) (left right : ℕ → ℕ) (s r : ℕ) (before : Reads n σ left s) (after : Reads n σ right r)
    (unhit : (k : ℕ) → k < n → hit k ≡ false → bit r k ≡ bit s k) where
  difference_law : (d k : ℕ) → k < n → holds σ (difference_clause (hit k) (suc d) (left k) (right k)) ≡ beq (variable σ (suc d)) (xor (bit s k) (bit r k))
  difference_law d k h =
      either (hit k)
      (λ e.
      ap (holds σ) (cond-true (hit k) _ _ e)
      ∙ holds_xor σ (minus (suc d) ∷ plus (left k) ∷ plus (right k) ∷ [])
      ∙ ap₂ (λ (a b : Bool). xor (not (variable σ (suc d))) (xor a (xor b false))) (before.read k h) (after.read k h)
      ∙ shape_d (variable σ (suc d)) (bit s k) (bit r k))
      (λ e.
      ap (holds σ) (cond-false (hit k) _ _ e)
      ∙ holds_or σ (minus (suc d) ∷ [])
      ∙ off (variable σ (suc d))
      ∙ ap (beq (variable σ (suc d))) (sym (ap (xor (bit s k)) (unhit k h e) ∙ xor_self (bit s k))))
    where
      off : (a : Bool) → (not a || false) ≡ beq a false
      off = table₁ _ _ refl

  differences_law : (used : ℕ) (ks : List ℕ) → Below n ks → satisfies σ (difference_clauses hit left right used ks) ≡ agree σ used (differences s r ks)
  unfolding difference_clauses satisfies
  differences_law used [] h = refl
  differences_law used (k ∷ ks) h = ap₂ ◌&&◌ (difference_law used k h.0) (differences_law (suc used) ks h.1)

  -- and besides the OR of these d exactly when the states differ on one of the lines
  pub lines_law : (used : ℕ) (ks : List ℕ) → Below n ks
      → satisfies σ (difference_clauses hit left right used ks ++ (OR (map plus (up_from (suc used) (length ks))) ∷ []))
      ≡ (agree σ used (differences s r ks) && some_of (differences s r ks))
  unfolding satisfies
  lines_law used ks w =
      satisfies_append σ (difference_clauses hit left right used ks) _
      ∙ and_cong _ (agree σ used (differences s r ks)) _ (some_of (differences s r ks)) (differences_law used ks w)
      (λ h.
      and-true (holds σ (OR (map plus (up_from (suc used) (length ks)))))
      ∙ holds_or σ (map plus (up_from (suc used) (length ks)))
      ∙ ap (λ (m : ℕ). some_true σ (map plus (up_from (suc used) m))) (sym (length-map ks _))
      ∙ last_law σ used (differences s r ks) h)

-- ---- what follows other values

agree_gates : (σ : List Bool) (used s : ℕ) (gs : List Gate) (vs : List Bool)
    → agree σ used (gates_values s gs ++ vs) ≡ (agree σ used (gates_values s gs) && agree σ (used_after used gs) vs)
unfolding gates_values used_after
agree_gates σ used s [] vs = refl
agree_gates σ used s (g ∷ gs) vs =
    let here = gate_values s g.target (controls_of g) in
    let rest = gates_values (apply g s) gs in
    ap (agree σ used) (append_assoc here rest vs)
    ∙ agree_gate σ used s g.target (controls_of g) (rest ++ vs)
    ∙ ap (λ (b : Bool). agree σ used here && b) (agree_gates σ (used_by used g) (apply g s) gs vs)
    ∙ sym (and_assoc (agree σ used here) (agree σ (used_by used g) rest) (agree σ (used_after (used_by used g) gs) vs))
    ∙ ap (λ (b : Bool). b && agree σ (used_after (used_by used g) gs) vs) (sym (agree_gate σ used s g.target (controls_of g) rest))

-- the clauses of gates, and then others, which say d where the gates' variables have the forced values
pub gates_then : (n : ℕ) (σ : List Bool) (used : ℕ) (current : ℕ → ℕ) (s : ℕ) (gs : List Gate) (cs : List Clause) (vs : List Bool) (d : Bool)
    → n ≤ max_lines → all_valid n gs ≡ true → Reads n σ current s
    → (agree σ used (gates_values s gs) ≡ true → satisfies σ cs ≡ (agree σ (used_after used gs) vs && d))
    → satisfies σ (gates_clauses used current gs ++ cs) ≡ (agree σ used (gates_values s gs ++ vs) && d)
gates_then n σ used current s gs cs vs d few v reads later =
    satisfies_append σ (gates_clauses used current gs) cs
    ∙ and_cong _ (agree σ used (gates_values s gs)) _ (agree σ (used_after used gs) vs && d) (gates_law n σ used current s gs few v reads) later
    ∙ sym (and_assoc (agree σ used (gates_values s gs)) (agree σ (used_after used gs) vs) d)
    ∙ ap (λ (b : Bool). b && d) (sym (agree_gates σ used s gs vs))

-- agree, as an equation of lists
agree_suc : (x : Bool) (σ : List Bool) (i : ℕ) (vs : List Bool) → agree (x ∷ σ) (suc i) vs ≡ agree σ i vs
agree_suc x σ i [] = refl
agree_suc x σ i (v ∷ vs) = ap (λ (b : Bool). beq (variable σ (suc i)) v && b) (agree_suc x σ (suc i) vs)

agree_there : (xs vs : List Bool) → agree (xs ++ vs) (length xs) vs ≡ true
agree_there [] [] = refl
agree_there [] (v ∷ vs) = both (beq_self v) (agree_suc v vs 0 vs ∙ agree_there [] vs)
agree_there (x ∷ xs) vs = agree_suc x (xs ++ vs) (length xs) vs ∙ agree_there xs vs

agree_is : (σ : List Bool) (i : ℕ) (vs : List Bool) → length σ ≡ i + length vs → agree σ i vs ≡ true → σ ≡ take i σ ++ vs
agree_is [] zero [] e h = refl
agree_is [] zero (v ∷ vs) e h = absurd (omega arith)
agree_is (x ∷ σ) zero [] e h = absurd (omega arith)
agree_is (x ∷ σ) zero (v ∷ vs) e h =
    let first : x ≡ v = agree_head (x ∷ σ) 0 v vs h in
    let later : σ ≡ vs = agree_is σ zero vs (omega arith) (sym (agree_suc x σ 0 vs) ∙ agree_tail (x ∷ σ) 0 v vs h) in
    cc
agree_is [] (suc i) vs e h = absurd (omega arith)
agree_is (x ∷ σ) (suc i) vs e h = ap (λ (r : List Bool). x ∷ r) (agree_is σ i vs (omega arith) (sym (agree_suc x σ i vs) ∙ h))

agree_if : (σ xs vs : List Bool) (n : ℕ) → length xs ≡ n → σ ≡ xs ++ vs → agree σ n vs ≡ true
agree_if σ xs vs n l e = ap₂ (λ (τ : List Bool) (m : ℕ). agree τ m vs) e (sym l) ∙ agree_there xs vs

-- ---- how many values are forced

pub length_up_from : (i m : ℕ) → length (up_from i m) ≡ m
unfolding up_from
length_up_from i zero = refl
length_up_from i (suc m) = ap suc (length_up_from (suc i) m)

length_gate : (used s t : ℕ) (cs : List Control) → used + length (gate_values s t cs) ≡ new_variable used (length cs)
length_gate used s t [] = omega arith
length_gate used s t (c ∷ []) = omega arith
length_gate used s t (c ∷ d ∷ cs) = omega arith

pub length_gates : (used s : ℕ) (gs : List Gate) → used + length (gates_values s gs) ≡ used_after used gs
unfolding gates_values used_after
length_gates used s [] = omega arith
length_gates used s (g ∷ gs) =
    omega (
      arith,
      length-append (gate_values s g.target (controls_of g)) (gates_values (apply g s) gs),
      length_gate used s g.target (controls_of g),
      length_gates (used_by used g) (apply g s) gs,
    )

pub used_more : (used : ℕ) (gs : List Gate) → used ≤ used_after used gs
used_more used gs = omega (arith, length_gates used 0 gs)

length_inputs : (n s : ℕ) → length (map (bit s) (up_from 0 n)) ≡ n
length_inputs n s = length-map (up_from 0 n) (bit s) ∙ length_up_from 0 n

length_differences : (n s r : ℕ) → length (differences s r (up_from 0 n)) ≡ n
length_differences n s r = length-map (up_from 0 n) _ ∙ length_up_from 0 n

-- ---- the first variables are the digits of the state that they spell

digits_take : (s : ℕ) (τ : List Bool) (m i : ℕ) → m ≤ length τ → ((k : ℕ) → k < m → bit s (i + k) ≡ variable τ (suc k)) → take m τ ≡ map (bit s) (up_from i m)
unfolding up_from
digits_take s τ zero i h f = refl
digits_take s [] (suc m) i h f = absurd (omega arith)
digits_take s (x ∷ τ) (suc m) i h f =
    let z : i ≡ i + 0 = omega arith in
    ap₂ (λ (b : Bool) (l : List Bool). b ∷ l) (sym (ap (bit s) z ∙ f 0 (omega arith)))
    (digits_take s τ m (suc i) (omega arith) (λ k l. let e : suc i + k ≡ i + suc k = omega arith in ap (bit s) e ∙ f (suc k) (omega arith)))

front : (n : ℕ) (σ : List Bool) → n ≤ length σ → take n σ ≡ map (bit (spelled n σ)) (up_from 0 n)
front n σ h =
    digits_take (spelled n σ) σ n 0 h (λ k l. let e : 0 + k ≡ k = omega arith in ap (bit (spelled n σ)) e ∙ spelled_line n σ k l)

digits_at : (s : ℕ) (rest : List Bool) (m i k : ℕ) → k < m → variable (map (bit s) (up_from i m) ++ rest) (suc k) ≡ bit s (i + k)
unfolding up_from
digits_at s rest zero i k h = absurd (omega arith)
digits_at s rest (suc m) i zero h = let z : i ≡ i + 0 = omega arith in ap (bit s) z
digits_at s rest (suc m) i (suc k) h =
    let e : suc i + k ≡ i + suc k = omega arith in digits_at s rest m (suc i) k (omega arith) ∙ ap (bit s) e

-- an assignment that starts with the digits of a state spells that state
pub spelled_digits : (n x : ℕ) (rest : List Bool) → x < 2 ^ n → spelled n (map (bit x) (up_from 0 n) ++ rest) ≡ x
spelled_digits n x rest h =
    let σ = map (bit x) (up_from 0 n) ++ rest in
    bits_below n (spelled n σ) x (spelled_below n σ) h
    (λ k l. let e : 0 + k ≡ k = omega arith in spelled_line n σ k l ∙ digits_at x rest n 0 k l ∙ ap (bit x) e)

-- ---- two states differ on one of the lines, or are the same on all of them

pub some_line : (P : ℕ → Type 0) (s r : ℕ) (ks : List ℕ) → All P ks → some_of (differences s r ks) ≡ true → (k : ℕ) × P k × (bit s k ≡ bit r k → ⊥)
some_line P s r [] w e = absurd (false≢true e)
some_line P s r (k ∷ ks) w e =
    either (xor (bit s k) (bit r k))
    (λ t. (k, w.0, (λ q. refuted (xor_same (bit s k) (bit r k) q) t)))
    (λ t. some_line P s r ks w.1 (or_second (xor (bit s k) (bit r k)) (some_of (differences s r ks)) e t))

pub none_lines : (s r : ℕ) (ks : List ℕ) → some_of (differences s r ks) ≡ false → All (λ (k : ℕ). bit s k ≡ bit r k) ks
none_lines s r [] e = tt
none_lines s r (k ∷ ks) e =
    let (p, q) = or_none (xor (bit s k) (bit r k)) (some_of (differences s r ks)) e in (xor_false (bit s k) (bit r k) p, none_lines s r ks q)

changed : (n s r : ℕ) → s < 2 ^ n → r < 2 ^ n → some_of (differences s r (up_from 0 n)) ≡ true ↔ (r ≡ s → ⊥)
changed n s r hs hr = (
  (λ h e. let (k, w, ne) = some_line (λ (k : ℕ). k < n) s r (up_from 0 n) (below_up_from n 0 n (omega arith)) h in ne (ap (λ (x : ℕ). bit x k) (sym e))),
  (λ ne.
      either (some_of (differences s r (up_from 0 n))) (λ t. t)
      (λ f. absurd (ne (sym (bits_below n s r hs hr (λ k l. up_from_all (λ (j : ℕ). bit s j ≡ bit r j) 0 n (none_lines s r (up_from 0 n) f) k (omega arith) (omega arith))))))),
)

-- ---- the laws of a list whose inputs, if it is satisfied, force the values of the other variables

-- the assignment of an input and of the values of the variables from n + 1 on
abbrev pub assigned : ℕ → ℕ → List Bool → List Bool
assigned n x vs = map (bit x) (up_from 0 n) ++ vs

-- an assignment satisfies the clauses exactly when D holds of the input that it spells, and its other variables have the values that this input forces
pub record Forces (n variables : ℕ) (cs : List Clause) (values : ℕ → List Bool) (D : ℕ → Type 0) : Type 0 where
  pub count : (x : ℕ) → n + length (values x) ≡ variables
  pub law : (σ : List Bool) → (satisfies σ cs ≡ true) ↔ ((agree σ n (values (spelled n σ)) ≡ true) × D (spelled n σ))

-- an assignment that has these values is that of its own input and of them
whole : (n : ℕ) (σ vs : List Bool) → length σ ≡ n + length vs → (agree σ n vs ≡ true) ↔ (σ ≡ assigned n (spelled n σ) vs)
whole n σ vs e = (
  (λ h. agree_is σ n vs e h ∙ ap (λ (l : List Bool). l ++ vs) (front n σ (omega arith))),
  (λ h. agree_if σ (map (bit (spelled n σ)) (up_from 0 n)) vs n (length_inputs n (spelled n σ)) h),
)

module _ (n variables : ℕ) (cs : List Clause) (values : ℕ → List Bool) (D : ℕ → Type 0) (forces : Forces n variables cs values D) where
  pub assigned_length : (x : ℕ) → length (assigned n x (values x)) ≡ variables
  assigned_length x = length-append (map (bit x) (up_from 0 n)) (values x) ∙ omega (arith, length_inputs n x, forces.count x)

  pub is_assigned : (σ : List Bool) → length σ ≡ variables → (satisfies σ cs ≡ true) ↔ ((σ ≡ assigned n (spelled n σ) (values (spelled n σ))) × D (spelled n σ))
  is_assigned σ e =
      let w = whole n σ (values (spelled n σ)) (e ∙ sym (forces.count (spelled n σ))) in (
        (λ h. let (p, q) = (forces.law σ).0 h in (w.0 p, q)),
        (λ h. (forces.law σ).1 (w.1 h.0, h.1)),
      )

-- ---- of the list

module _ (n : ℕ) (gs : List Gate) (few : n ≤ max_lines) (v : all_valid n gs ≡ true) where
  abbrev changes : ℕ → List Bool
  changes x = differences x (run gs x) (up_from 0 n)

  -- the gates' clauses alone
  gates_force : Forces n (used_after n gs) (gates_clauses n input_of gs) (λ (x : ℕ). gates_values x gs) (λ (x : ℕ). Unit {0})
  gates_force =
      record {
        count = λ x. length_gates n x gs;
        law = λ σ.
            let g = gates_law n σ n input_of (spelled n σ) gs few v (reads_inputs n σ) in (
              (λ h. (sym g ∙ h, tt)),
              (λ h. g ∙ h.0),
            );
      }

  clauses_law : (σ : List Bool)
      → satisfies σ (clauses_of n gs) ≡ (agree σ n (gates_values (spelled n σ) gs ++ changes (spelled n σ)) && some_of (changes (spelled n σ)))
  unfolding clauses_of
  clauses_law σ =
      let x = spelled n σ in
      let inputs = reads_inputs n σ in
      let last = current_after n input_of gs in
      gates_then n σ n input_of x gs _ (changes x) (some_of (changes x)) few v inputs
      (λ h.
      ap
      (λ (m : ℕ). satisfies σ (difference_clauses (targeted gs) input_of last (used_after n gs) (up_from 0 n) ++ (OR (map plus (up_from (suc (used_after n gs)) m)) ∷ [])))
      (sym (length_up_from 0 n))
      ∙ lines_law n σ (targeted gs) input_of last x (run gs x) inputs (after_reads n σ n input_of x gs few v inputs h) (λ k l e. untouched n gs x k few v e)
      (used_after n gs) (up_from 0 n) (below_up_from n 0 n (omega arith)))

  pub list_forces : Forces n (variables_of n gs) (clauses_of n gs) (λ (x : ℕ). gates_values x gs ++ changes x) (λ (x : ℕ). run gs x ≡ x → ⊥)
  unfolding variables_of
  list_forces =
      record {
        count = λ x. omega (arith, length-append (gates_values x gs) (changes x), length_gates n x gs, length_differences n x (run gs x));
        law = λ σ.
            let x = spelled n σ in
            let c = changed n x (run gs x) (spelled_below n σ) (run_below n gs v x (spelled_below n σ)) in (
              (λ h. let (p, q) = and_parts (agree σ n (gates_values x gs ++ changes x)) (some_of (changes x)) (sym (clauses_law σ) ∙ h) in (p, c.0 q)),
              (λ h. clauses_law σ ∙ both h.0 (c.1 h.1)),
            );
      }

  module _ (σ : List Bool) where
    pub gates_forced : length σ ≡ used_after n gs → (satisfies σ (gates_clauses n input_of gs) ≡ true) ↔ (σ ≡ traced n (spelled n σ) gs)
    unfolding traced
    gates_forced e = let f = is_assigned n _ _ _ _ gates_force σ e in ((λ h. (f.0 h).0), (λ h. f.1 (h, tt)))

    pub list_forced : length σ ≡ variables_of n gs → (satisfies σ (clauses_of n gs) ≡ true) ↔ ((σ ≡ forced n (spelled n σ) gs) × (run gs (spelled n σ) ≡ spelled n σ → ⊥))
    unfolding forced traced
    list_forced e =
        let x = spelled n σ in
        let f = is_assigned n _ _ _ _ list_forces σ e in
        let assoc = append_assoc (map (bit x) (up_from 0 n)) (gates_values x gs) (changes x) in (
          (λ h. let (p, q) = f.0 h in (p ∙ sym assoc, q)),
          (λ h. f.1 (h.0 ∙ assoc, h.1)),
        )

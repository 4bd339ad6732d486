-- What the clause list is made of. The clauses of a gate on n lines depend on the current variables of lines below n only. Assumes nothing.
use Rattle.std.proofs.Common.{◌≡◌, ℕ, suc, ◌<◌, Bool, true, cond, List, [], ◌∷◌, ◌++◌, map, ℤ, refl, ap, ◌∙◌, ap₂}
use Rattle.circuit.specs.declared.gate.Gate.{Gate}
use Rattle.circuit.specs.Gate.{max_lines, valid, Control, Inside, controls_of}
use Rattle.circuit.proofs.Promises.{valid_facts, controls_inside}
use Rattle.checking.specs.Clauses.{Clause, OR, plus, minus, input_of, literal_of, gate_clauses, used_by, moved, clauses_of_gate, gates_clauses, used_after, current_after, targeted, up_from, difference_clause, difference_clauses, clauses_of}
use Rattle.checking.proofs.lemmas.clauses.Forced.{Below}

-- ---- what the list is made of

pub clauses_none : (used : ℕ) (current : ℕ → ℕ) → gates_clauses used current [] ≡ []
unfolding gates_clauses
clauses_none used current = refl

pub clauses_next : (used : ℕ) (current : ℕ → ℕ) (g : Gate) (gs : List Gate)
    → gates_clauses used current (g ∷ gs) ≡ clauses_of_gate used current g ++ gates_clauses (used_by used g) (moved used current g) gs
unfolding gates_clauses
clauses_next used current g gs = refl

pub differences_none : (hit : ℕ → Bool) (left right : ℕ → ℕ) (used : ℕ) → difference_clauses hit left right used [] ≡ []
unfolding difference_clauses
differences_none hit left right used = refl

pub differences_next : (hit : ℕ → Bool) (left right : ℕ → ℕ) (used line : ℕ) (lines : List ℕ)
    → difference_clauses hit left right used (line ∷ lines)
    ≡ difference_clause (hit line) (suc used) (left line) (right line) ∷ difference_clauses hit left right (suc used) lines
unfolding difference_clauses
differences_next hit left right used line lines = refl

pub list_parts : (n : ℕ) (gs : List Gate)
    → clauses_of n gs
    ≡ gates_clauses n input_of gs
    ++ (difference_clauses (targeted gs) input_of (current_after n input_of gs) (used_after n gs) (up_from 0 n) ++ (OR (map plus (up_from (suc (used_after n gs)) n)) ∷ []))
unfolding clauses_of
list_parts n gs = refl

-- ---- other maps of current variables

-- two maps with the same variables for the lines below n
abbrev pub Agree : ℕ → (ℕ → ℕ) → (ℕ → ℕ) → Type 0
Agree n a b = (k : ℕ) → k < n → a k ≡ b k

literals_local : (n : ℕ) (a b : ℕ → ℕ) → Agree n a b → (cs : List Control) → Inside n cs → map (literal_of a) cs ≡ map (literal_of b) cs
literals_local n a b h [] w = refl
literals_local n a b h (c ∷ cs) w =
    ap₂ (λ (x : ℤ) (xs : List ℤ). x ∷ xs) (ap (λ (v : ℕ). cond c.positive (plus v) (minus v)) (h c.line w.0)) (literals_local n a b h cs w.1)

pub gate_local : (n used : ℕ) (a b : ℕ → ℕ) (g : Gate) → valid n g ≡ true → Agree n a b → clauses_of_gate used a g ≡ clauses_of_gate used b g
gate_local n used a b g v h =
    ap₂ (gate_clauses used) (h g.target (valid_facts n g v).target_below) (literals_local n a b h (controls_of g) (controls_inside n g v max_lines))

pub differences_local : (n : ℕ) (hit hit' : ℕ → Bool) (a a' b b' : ℕ → ℕ) → ((k : ℕ) → k < n → hit k ≡ hit' k) → Agree n a a' → Agree n b b' → (used : ℕ) (ks : List ℕ) → Below n ks
    → difference_clauses hit a b used ks ≡ difference_clauses hit' a' b' used ks
unfolding difference_clauses
differences_local n hit hit' a a' b b' h l r used [] w = refl
differences_local n hit hit' a a' b b' h l r used (k ∷ ks) w =
    ap₂ (λ (c : Clause) (cs : List Clause). c ∷ cs)
    (ap₂ (λ (x : Bool) (y : ℕ). difference_clause x (suc used) y (b k)) (h k w.0) (l k w.0) ∙ ap (difference_clause (hit' k) (suc used) (a' k)) (r k w.0))
    (differences_local n hit hit' a a' b b' h l r (suc used) ks w.1)

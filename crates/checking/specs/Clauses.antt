-- The clause list of a cascade, by document 01. A literal is a number with a sign: v of variable v, or −v. Variables count from 1.
use Rattle.std.specs.Prelude.{ℕ, zero, suc, ◌+◌, ◌*◌, Bool, false, cond, ◌||◌, List, [], ◌∷◌, ◌++◌, map, length, ℤ, pos, neg_ℤ, ◌==◌, nat_le}
use Rattle.circuit.specs.declared.gate.Gate.{Gate}
use Rattle.circuit.specs.Gate.{max_lines, max_miter_gates, Control, controls_of}

pub data Clause : Type 0 where
  OR XOR : List ℤ → Clause

-- the literals v and −v of a variable
abbrev pub plus : ℕ → ℤ
plus v = pos v

abbrev pub minus : ℕ → ℤ
minus v = neg_ℤ (pos v)

-- variables 1 to n are the inputs of lines 0 to n − 1
abbrev pub input_of : ℕ → ℕ
input_of line = suc line

-- c: a control's current variable, negated for a negative control
abbrev pub literal_of : (ℕ → ℕ) → Control → ℤ
literal_of current c = cond c.positive (plus (current c.line)) (minus (current c.line))

-- OR (−p, c) for each c
abbrev pub implied : ℕ → List ℤ → List Clause
implied p [] = []
implied p (c ∷ cs) = OR (minus p ∷ c ∷ []) ∷ implied p cs

-- the clauses with a p: OR (p, then every −c), every OR (−p, c), XOR (−w, v, p)
abbrev pub many_clauses : ℕ → ℕ → ℕ → List ℤ → List Clause
many_clauses p w v cs = OR (plus p ∷ map neg_ℤ cs) ∷ implied p cs ++ (XOR (minus w ∷ plus v ∷ plus p ∷ []) ∷ [])

-- the clauses of a gate, by the literals c of its controls: v is the target's current variable, and `used` variables are numbered so far
abbrev pub gate_clauses : ℕ → ℕ → List ℤ → List Clause
gate_clauses used v [] = XOR (plus (suc used) ∷ plus v ∷ []) ∷ []
gate_clauses used v (c ∷ []) = XOR (minus (suc used) ∷ plus v ∷ c ∷ []) ∷ []
gate_clauses used v (c ∷ d ∷ cs) = many_clauses (suc used) (suc (suc used)) v (c ∷ d ∷ cs)

-- w, the last variable that a gate with k controls adds
abbrev pub new_variable : ℕ → ℕ → ℕ
new_variable used zero = suc used
new_variable used (suc zero) = suc used
new_variable used (suc (suc k)) = suc (suc used)

abbrev pub used_by : ℕ → Gate → ℕ
used_by used g = new_variable used (length (controls_of g))

-- then w is the target's current variable
unfoldable pub moved : ℕ → (ℕ → ℕ) → Gate → ℕ → ℕ
moved used current g line = cond (line == g.target) (used_by used g) (current line)

-- one gate's clauses, and those of gates, from any current variables on
abbrev pub clauses_of_gate : ℕ → (ℕ → ℕ) → Gate → List Clause
clauses_of_gate used current g = gate_clauses used (current g.target) (map (literal_of current) (controls_of g))

unfoldable pub gates_clauses : ℕ → (ℕ → ℕ) → List Gate → List Clause
gates_clauses used current [] = []
gates_clauses used current (g ∷ gs) = clauses_of_gate used current g ++ gates_clauses (used_by used g) (moved used current g) gs

-- after the gates: how many variables are numbered, and the current ones
unfoldable pub used_after : ℕ → List Gate → ℕ
used_after used [] = used
used_after used (g ∷ gs) = used_after (used_by used g) gs

unfoldable pub current_after : ℕ → (ℕ → ℕ) → List Gate → ℕ → ℕ
current_after used current [] = current
current_after used current (g ∷ gs) = current_after (used_by used g) (moved used current g) gs

-- some gate targets the line
unfoldable pub targeted : List Gate → ℕ → Bool
targeted [] line = false
targeted (g ∷ gs) line = line == g.target || targeted gs line

-- i, i + 1, ..: m numbers
unfoldable pub up_from : ℕ → ℕ → List ℕ
up_from i zero = []
up_from i (suc m) = i ∷ up_from (suc i) m

-- the clause of a line's d: OR (−d) if no gate targets the line, else XOR (−d, a, b)
abbrev pub difference_clause : Bool → ℕ → ℕ → ℕ → Clause
difference_clause hit d a b = cond hit (XOR (minus d ∷ plus a ∷ plus b ∷ [])) (OR (minus d ∷ []))

-- the clauses of the given lines, each with the next d; `left` and `right` give the two variables to be compared
unfoldable pub difference_clauses : (ℕ → Bool) → (ℕ → ℕ) → (ℕ → ℕ) → ℕ → List ℕ → List Clause
difference_clauses hit left right used [] = []
difference_clauses hit left right used (line ∷ lines) =
    difference_clause (hit line) (suc used) (left line) (right line) ∷ difference_clauses hit left right (suc used) lines

-- the whole list: the gates' clauses, those of the d in line order, and the OR of all d
unfoldable pub clauses_of : ℕ → List Gate → List Clause
clauses_of n gs =
    gates_clauses n input_of gs
    ++ (difference_clauses (targeted gs) input_of (current_after n input_of gs) (used_after n gs) (up_from 0 n)
    ++ (OR (map plus (up_from (suc (used_after n gs)) n)) ∷ []))

-- V: all variables numbered here
unfoldable pub variables_of : ℕ → List Gate → ℕ
variables_of n gs = used_after n gs + n

-- no list of a miter has more, by the law `variables_few`
abbrev pub max_variables : ℕ
max_variables = 2 * max_lines + 2 * max_miter_gates

-- how many gates have a p
unfoldable pub count_p : List Gate → ℕ
count_p [] = 0
count_p (g ∷ gs) = cond (nat_le 2 (length (controls_of g))) 1 0 + count_p gs

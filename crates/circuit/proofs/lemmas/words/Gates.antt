-- The laws of gates and their words: the words from a gate on, gates as words, and lists of valid gates. Assumes nothing.
use Rattle.std.proofs.Common.{◌≡◌, ℕ, zero, suc, ◌+◌, ◌*◌, ◌/◌, ◌%◌, ◌<◌, ◌≤◌, true, leb, List, [], ◌∷◌, ◌++◌, reverse, length, get_or, take, drop, sym, refl, ap, ◌∙◌, ap₂, arith, length-drop, le-leb}
use mathlib.Core.List.{reverse-cons}
use lib.ListN.{get_or-eq_default}
use lib.Seq.{take-nil, drop-nil}
use borrow.Author.Tests.{lt-leb}
use Rattle.bits.specs.Lists.{over}
use Rattle.bits.proofs.Bools.{and_parts, both, cond-true, cond-false}
use Rattle.bits.proofs.Lists.{empty, three}
use Rattle.circuit.specs.declared.gate.Gate.{Gate}
use Rattle.circuit.specs.Gate.{not_gate, valid}
use Rattle.circuit.specs.Words.{gates_of, gate_at, gate_words, words_of, put_gate, all_valid, gate_in}
use Rattle.circuit.proofs.lemmas.gate.Valid.{valid_more}

-- ---- the words from gate i on

pub gates_length : (ws : List ℕ) → length (gates_of ws) ≡ length ws / 3
unfolding gates_of
gates_length [] = refl
gates_length (p ∷ []) = refl
gates_length (p ∷ q ∷ []) = refl
gates_length (p ∷ q ∷ t ∷ ws) = let h = gates_length ws in omega arith

-- gate i by its words
pub gate_at_lem : (ws : List ℕ) (i : ℕ) → i < length ws / 3
    → gate_at ws i ≡ record { positive = get_or ws (3 * i) 0; negative = get_or ws (3 * i + 1) 0; target = get_or ws (3 * i + 2) 0 }
unfolding gates_of
gate_at_lem [] i h = absurd (omega arith)
gate_at_lem (p ∷ []) i h = absurd (omega arith)
gate_at_lem (p ∷ q ∷ []) i h = absurd (omega arith)
gate_at_lem (p ∷ q ∷ t ∷ ws) zero h = refl
gate_at_lem (p ∷ q ∷ t ∷ ws) (suc i) h =
    let e : suc (suc (suc (3 * i))) ≡ 3 * suc i = omega arith in
    let f : suc (suc (suc (3 * i + 1))) ≡ 3 * suc i + 1 = omega arith in
    let g : suc (suc (suc (3 * i + 2))) ≡ 3 * suc i + 2 = omega arith in
    gate_at_lem ws i (omega arith)
    ∙ ap₂ (λ (a b : ℕ). words a b (suc (suc (suc (3 * i + 2))))) e f
    ∙ ap (words (3 * suc i) (3 * suc i + 1)) g
  where
    words : ℕ → ℕ → ℕ → Gate
    words a b d =
        record {
          positive = get_or (p ∷ q ∷ t ∷ ws) a 0;
          negative = get_or (p ∷ q ∷ t ∷ ws) b 0;
          target = get_or (p ∷ q ∷ t ∷ ws) d 0;
        }

pub gate_none : (ws : List ℕ) (i : ℕ) → length ws / 3 ≤ i → gate_at ws i ≡ not_gate 0
gate_none ws i h = get_or-eq_default (gates_of ws) (not_gate 0) (omega (arith, gates_length ws))

-- gate i and the gates after it
pub gates_next : (ws : List ℕ) (i : ℕ) → i < length ws / 3 → gates_of (drop (3 * i) ws) ≡ gate_at ws i ∷ gates_of (drop (3 * (i + 1)) ws)
unfolding gates_of
gates_next ws i h =
    let e : 3 * i + 3 ≡ 3 * (i + 1) = omega arith in
    ap gates_of (three 0 ws (3 * i) (omega arith))
    ∙ ap₂ (λ (g : Gate) (n : ℕ). g ∷ gates_of (drop n ws)) (sym (gate_at_lem ws i h)) e

pub gates_end : (ws : List ℕ) (i : ℕ) → length ws / 3 ≤ i → gates_of (drop (3 * i) ws) ≡ []
gates_end ws i h = empty (gates_of (drop (3 * i) ws)) (omega (arith, gates_length (drop (3 * i) ws), length-drop (3 * i) ws))

-- ---- gates as words

pub words_none : words_of [] ≡ []
unfolding words_of
words_none = refl

pub words_one : (g : Gate) → words_of (g ∷ []) ≡ gate_words g
unfolding words_of
words_one g = refl

pub words_next : (g : Gate) (gs : List Gate) → words_of (g ∷ gs) ≡ gate_words g ++ words_of gs
unfolding words_of
words_next g gs = refl

pub words_append : (xs ys : List Gate) → words_of (xs ++ ys) ≡ words_of xs ++ words_of ys
unfolding words_of
words_append [] ys = refl
words_append (x ∷ xs) ys = ap (λ (l : List ℕ). gate_words x ++ l) (words_append xs ys)

pub words_length : (gs : List Gate) → length (words_of gs) ≡ 3 * length gs
unfolding words_of
words_length [] = refl
words_length (g ∷ gs) = let h = words_length gs in omega arith

-- the first gates, and the others
pub words_take : (i : ℕ) (gs : List Gate) → words_of (take i gs) ≡ take (3 * i) (words_of gs)
unfolding words_of
words_take zero gs = refl
words_take (suc i) [] = sym (take-nil (3 * suc i))
words_take (suc i) (g ∷ gs) =
    let e : suc (suc (suc (3 * i))) ≡ 3 * suc i = omega arith in
    ap (λ (l : List ℕ). g.positive ∷ g.negative ∷ g.target ∷ l) (words_take i gs)
    ∙ ap (λ (n : ℕ). take n (g.positive ∷ g.negative ∷ g.target ∷ words_of gs)) e

pub words_drop : (i : ℕ) (gs : List Gate) → words_of (drop i gs) ≡ drop (3 * i) (words_of gs)
unfolding words_of
words_drop zero gs = refl
words_drop (suc i) [] = sym (drop-nil (3 * suc i))
words_drop (suc i) (g ∷ gs) =
    let e : suc (suc (suc (3 * i))) ≡ 3 * suc i = omega arith in
    words_drop i gs ∙ ap (λ (n : ℕ). drop n (g.positive ∷ g.negative ∷ g.target ∷ words_of gs)) e

-- one gate more in front is one gate more at the end of the reversed ones
pub words_reverse : (g : Gate) (gs : List Gate) → words_of (reverse (g ∷ gs)) ≡ words_of (reverse gs) ++ gate_words g
unfolding words_of
words_reverse g gs = ap words_of (reverse-cons g gs) ∙ words_append (reverse gs) (g ∷ [])

-- gates come back from their words, and words from their gates
pub gates_words : (gs : List Gate) → gates_of (words_of gs) ≡ gs
unfolding gates_of words_of
gates_words [] = refl
gates_words (g ∷ gs) = ap (λ (l : List Gate). g ∷ l) (gates_words gs)

pub words_gates : (ws : List ℕ) → length ws % 3 ≡ 0 → words_of (gates_of ws) ≡ ws
unfolding gates_of words_of
words_gates [] h = refl
words_gates (p ∷ []) h = absurd (omega arith)
words_gates (p ∷ q ∷ []) h = absurd (omega arith)
words_gates (p ∷ q ∷ t ∷ ws) h = ap (λ (l : List ℕ). p ∷ q ∷ t ∷ l) (words_gates ws (omega arith))

-- a gate's words at a buffer's start
pub put_fits : (g : Gate) (out : List ℕ) → 3 ≤ length out → put_gate g out ≡ over (gate_words g) out
put_fits g out h = cond-true (leb 3 (length out)) _ _ (le-leb 3 (length out) h)

pub put_short : (g : Gate) (out : List ℕ) → length out < 3 → put_gate g out ≡ out
put_short g out h = cond-false (leb 3 (length out)) _ _ (lt-leb 3 (length out) h)

-- ---- gates that are valid

pub valid_none : (n : ℕ) → all_valid n [] ≡ true
unfolding all_valid
valid_none n = refl

-- the first gate and the others
pub valid_parts : (n : ℕ) (g : Gate) (gs : List Gate) → all_valid n (g ∷ gs) ≡ true → (valid n g ≡ true) × (all_valid n gs ≡ true)
unfolding all_valid
valid_parts n g gs v = and_parts (valid n g) (all_valid n gs) v

pub valid_both : (n : ℕ) (g : Gate) (gs : List Gate) → valid n g ≡ true → all_valid n gs ≡ true → all_valid n (g ∷ gs) ≡ true
unfolding all_valid
valid_both n g gs v w = both v w

-- two lists of gates
pub valid_split : (n : ℕ) (xs ys : List Gate) → all_valid n (xs ++ ys) ≡ true → (all_valid n xs ≡ true) × (all_valid n ys ≡ true)
valid_split n [] ys v = (valid_none n, v)
valid_split n (x ∷ xs) ys v =
    let (a, b) = valid_parts n x (xs ++ ys) v in
    let (p, q) = valid_split n xs ys b in
    (valid_both n x xs a p, q)

pub valid_append : (n : ℕ) (xs ys : List Gate) → all_valid n xs ≡ true → all_valid n ys ≡ true → all_valid n (xs ++ ys) ≡ true
valid_append n [] ys v w = w
valid_append n (x ∷ xs) ys v w = let (a, b) = valid_parts n x xs v in valid_both n x (xs ++ ys) a (valid_append n xs ys b w)

-- gate i
pub gate_valid : (n : ℕ) (gs : List Gate) (i : ℕ) → all_valid n gs ≡ true → i < length gs → valid n (gate_in gs i) ≡ true
gate_valid n [] i v h = absurd (omega arith)
gate_valid n (g ∷ gs) zero v h = (valid_parts n g gs v).0
gate_valid n (g ∷ gs) (suc i) v h = gate_valid n gs i (valid_parts n g gs v).1 (omega arith)

-- more lines do no harm
pub valid_all_more : (m n : ℕ) (gs : List Gate) → m ≤ n → all_valid m gs ≡ true → all_valid n gs ≡ true
valid_all_more m n [] h v = valid_none n
valid_all_more m n (g ∷ gs) h v =
    let (a, b) = valid_parts m g gs v in
    valid_both n g gs (valid_more m n g h a) (valid_all_more m n gs h b)

-- gate i of valid gates, and those after it
pub valid_next : (n : ℕ) (ws : List ℕ) (i : ℕ) (g : Gate) → i < length ws / 3 → g ≡ gate_at ws i → all_valid n (gates_of (drop (3 * i) ws)) ≡ true → valid n g ≡ true
valid_next n ws i g h is v = ap (valid n) is ∙ (valid_parts n (gate_at ws i) _ (sym (ap (all_valid n) (gates_next ws i h)) ∙ v)).0

pub valid_later : (n : ℕ) (ws : List ℕ) (i : ℕ) → i < length ws / 3 → all_valid n (gates_of (drop (3 * i) ws)) ≡ true → all_valid n (gates_of (drop (3 * (i + 1)) ws)) ≡ true
valid_later n ws i h v = (valid_parts n (gate_at ws i) _ (sym (ap (all_valid n) (gates_next ws i h)) ∙ v)).1

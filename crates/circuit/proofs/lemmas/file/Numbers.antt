-- The laws of a number field: it is the text of its number, and that text reads back. Assumes nothing.
use Rattle.std.proofs.Common.{◌≡◌, ℕ, ◌+◌, ◌-◌, ◌*◌, ◌/◌, ◌%◌, ◌<◌, ◌≤◌, true, not, ◌&&◌, eqb, ltb, leb, List, [], ◌∷◌, sym, refl, ap, ◌∙◌, ap₂, arith, ltb-false, ltb-true, le-ltb, lt-ltb, ne_eqb, le-leb, leb-true}
use borrow.Author.Tests.{eqb-false, not-true}
use Rattle.bits.proofs.Bools.{either, and_parts, both, cond-true, cond-false}
use Rattle.bits.proofs.Lists.{free}
use Rattle.circuit.specs.Outcome.{served, refused}
use Rattle.circuit.specs.Refusal.{wrong_form}
use Rattle.circuit.specs.Text.{digit, number_text}
use Rattle.circuit.specs.File.{is_digit, number_of}
use Rattle.circuit.proofs.lemmas.Outcome.{never, demand_met, demand_failed, demanded}

-- ---- the text of a number

pub text_short : (k : ℕ) → k < 10 → number_text k ≡ digit k ∷ []
unfolding number_text
text_short k h = cond-true (ltb k 10) _ _ (lt-ltb k 10 h)

pub text_long : (k : ℕ) → 10 ≤ k → number_text k ≡ digit (k / 10) ∷ digit (k % 10) ∷ []
unfolding number_text
text_long k h = cond-false (ltb k 10) _ _ (le-ltb k 10 h)

pub ruleset text_rules = (text_short, text_long)

pub is_digit_lem : (k : ℕ) → k < 10 → is_digit (digit k) ≡ true
is_digit_lem k h = both (le-leb 48 (digit k) (omega arith)) (le-leb (digit k) 57 (omega arith))

-- a byte below the digits does not stand in a number
pub number_free : (s k : ℕ) → s < 48 → k < 100 → free s (number_text k) ≡ true
unfolding free
number_free s k h l =
    either (ltb k 10)
    (λ t. ap (free s) (text_short k (ltb-true k 10 t)) ∙ both (other (digit k) (omega arith)) refl)
    (λ t.
    ap (free s) (text_long k (ltb-false k 10 t))
    ∙ both (other (digit (k / 10)) (omega arith)) (both (other (digit (k % 10)) (omega arith)) refl))
  where
    other : (b : ℕ) → 48 ≤ b → not (eqb b s) ≡ true
    other b x = ap not (ne_eqb b s (λ e. omega arith))

-- ---- reading it

pub number_text_lem : (i k : ℕ) → k < 100 → number_of i (number_text k) ≡ served k
unfolding number_of
number_text_lem i k h =
    either (ltb k 10)
    (λ t.
    let l : k < 10 = ltb-true k 10 t in
    let e : digit k - 48 ≡ k = omega arith in
    ap (number_of i) (text_short k l) ∙ demand_met _ _ _ _ (is_digit_lem k l) ∙ ap served e)
    (λ t.
    let l : 10 ≤ k = ltb-false k 10 t in
    let e : 10 * (digit (k / 10) - 48) + (digit (k % 10) - 48) ≡ k = omega arith in
    ap (number_of i) (text_long k l)
    ∙ demand_met _ _ _ _
    (both (is_digit_lem (k / 10) (omega arith))
    (both (is_digit_lem (k % 10) (omega arith)) (ap not (ne_eqb (digit (k / 10)) 48 (λ e. omega arith)))))
    ∙ ap served e)

pub digit_bounds : (b : ℕ) → is_digit b ≡ true → (48 ≤ b) × (b ≤ 57)
digit_bounds b e = let (x, y) = and_parts (leb 48 b) (leb b 57) e in (leb-true 48 b x, leb-true b 57 y)

-- a number that was read is below 100, and the field is its text
pub text_number : (i : ℕ) (f : List ℕ) (k : ℕ) → number_of i f ≡ served k → (k < 100) × (f ≡ number_text k)
unfolding number_of
text_number i [] k e = absurd (never e refl)
text_number i (a ∷ []) k e =
    let (t, m) = demanded (is_digit a) wrong_form i (served (a - 48)) k e in
    let (low, high) = digit_bounds a t in
    let v : a - 48 ≡ k = cc in
    let w : digit k ≡ a = omega arith in
    (omega arith, sym (text_short k (omega arith) ∙ ap (λ (x : ℕ). x ∷ []) w))
text_number i (a ∷ b ∷ []) k e =
    let (t, m) = demanded (is_digit a && (is_digit b && not (eqb a 48))) wrong_form i (served (10 * (a - 48) + (b - 48))) k e in
    let (p, q) = and_parts (is_digit a) (is_digit b && not (eqb a 48)) t in
    let (r, s) = and_parts (is_digit b) (not (eqb a 48)) q in
    let (alow, ahigh) = digit_bounds a p in
    let (blow, bhigh) = digit_bounds b r in
    let ne : a ≡ 48 → ⊥ = eqb-false a 48 (not-true (eqb a 48) s) in
    let v : 10 * (a - 48) + (b - 48) ≡ k = cc in
    let big : 49 ≤ a = above a alow ne in
    let x : digit (k / 10) ≡ a = omega arith in
    let y : digit (k % 10) ≡ b = omega arith in
    (omega arith, sym (text_long k (omega arith) ∙ ap₂ (λ (c d : ℕ). c ∷ d ∷ []) x y))
  where
    above : (a : ℕ) → 48 ≤ a → (a ≡ 48 → ⊥) → 49 ≤ a
    above a l ne = omega arith
text_number i (a ∷ b ∷ d ∷ f) k e = absurd (never e refl)

-- read or of the wrong form, wherever it stands
pub number_else : (i j : ℕ) (f : List ℕ) (k : ℕ) → number_of i f ≡ served k → number_of j f ≡ served k
number_else i j f k e = let (h, t) = text_number i f k e in ap (number_of j) t ∙ number_text_lem j k h

pub number_wrong : (i : ℕ) (f : List ℕ) (number place : ℕ) → number_of i f ≡ refused number place → number_of i f ≡ refused wrong_form i
unfolding number_of
number_wrong i [] number place e = refl
number_wrong i (a ∷ []) number place e =
    either (is_digit a) (λ t. absurd (never (demand_met _ _ _ _ t) e)) (λ t. demand_failed _ _ _ _ t)
number_wrong i (a ∷ b ∷ []) number place e =
    either (is_digit a && (is_digit b && not (eqb a 48))) (λ t. absurd (never (demand_met _ _ _ _ t) e)) (λ t. demand_failed _ _ _ _ t)
number_wrong i (a ∷ b ∷ d ∷ f) number place e = refl

-- The laws of a number in decimal. Assumes nothing.
use mathlib.Core.Path.{◌≡◌, refl, sym, ap, ap₂, ◌∙◌}
use mathlib.Core.List.{List, [], ◌∷◌, ◌++◌, append_assoc}
use Prim.Native.Nat.{ℕ, zero, suc, ◌+◌, ◌*◌, ◌/◌, ◌%◌, ◌^◌, ◌≤◌, ◌<◌}
use native.Mathlib.Omega.{arith}
use lib.Dec.{ltb}
use lib.ListN.{length, length-append}
use borrow.Author.Tests.{lt-ltb, le-ltb, ltb-true, ltb-false}
use Rattle.bits.proofs.Bools.{either, cond-true, cond-false}
use Rattle.circuit.specs.Text.{digit}
use Rattle.text.specs.Dimacs.{decimal_within, decimal}

pub within_short : (most k : ℕ) → k < 10 → decimal_within most k ≡ digit k ∷ []
unfolding decimal_within
within_short zero k h = refl
within_short (suc most) k h = cond-true (ltb k 10) _ _ (lt-ltb k 10 h)

pub within_long : (most k : ℕ) → 10 ≤ k → decimal_within (suc most) k ≡ decimal_within most (k / 10) ++ (digit (k % 10) ∷ [])
unfolding decimal_within
within_long most k h = cond-false (ltb k 10) _ _ (le-ltb k 10 h)

-- the number of digits that are allowed does not matter where it is enough
within_any : (m n k : ℕ) → k ≤ m → k ≤ n → decimal_within m k ≡ decimal_within n k
within_any zero n k h l = within_short zero k (omega arith) ∙ sym (within_short n k (omega arith))
within_any (suc m) zero k h l = within_short (suc m) k (omega arith) ∙ sym (within_short zero k (omega arith))
within_any (suc m) (suc n) k h l =
    either (ltb k 10)
    (λ t. within_short (suc m) k (ltb-true k 10 t) ∙ sym (within_short (suc n) k (ltb-true k 10 t)))
    (λ t.
    let b : 10 ≤ k = ltb-false k 10 t in
    within_long m k b
    ∙ ap (λ (x : List ℕ). x ++ (digit (k % 10) ∷ [])) (within_any m n (k / 10) (omega arith) (omega arith))
    ∙ sym (within_long n k b))

pub decimal_short : (k : ℕ) → k < 10 → decimal k ≡ digit k ∷ []
unfolding decimal
decimal_short k h = within_short k k h

pub decimal_long : (k : ℕ) → 10 ≤ k → decimal k ≡ decimal (k / 10) ++ (digit (k % 10) ∷ [])
unfolding decimal
decimal_long k h =
    within_any k (suc k) k (omega arith) (omega arith)
    ∙ within_long k k h
    ∙ ap (λ (x : List ℕ). x ++ (digit (k % 10) ∷ [])) (within_any k (k / 10) (k / 10) (omega arith) (omega arith))

-- two digits
pub decimal_two : (k : ℕ) → 10 ≤ k → k < 100 → decimal k ≡ digit (k / 10) ∷ digit (k % 10) ∷ []
decimal_two k h l =
    decimal_long k h ∙ ap (λ (x : List ℕ). x ++ (digit (k % 10) ∷ [])) (decimal_short (k / 10) (omega arith))

-- the digits of the hundreds and the last two
pub decimal_hundreds : (k : ℕ) → 100 ≤ k → decimal k ≡ decimal (k / 100) ++ (digit (k % 100 / 10) ∷ digit (k % 100 % 10) ∷ [])
decimal_hundreds k h =
    let a : k / 10 / 10 ≡ k / 100 = omega arith in
    let b : k / 10 % 10 ≡ k % 100 / 10 = omega arith in
    let c : k % 10 ≡ k % 100 % 10 = omega arith in
    decimal_long k (omega arith)
    ∙ ap (λ (x : List ℕ). x ++ (digit (k % 10) ∷ [])) (decimal_long (k / 10) (omega arith))
    ∙ append_assoc (decimal (k / 10 / 10)) (digit (k / 10 % 10) ∷ []) (digit (k % 10) ∷ [])
    ∙ ap (λ (x : ℕ). decimal x ++ (digit (k / 10 % 10) ∷ digit (k % 10) ∷ [])) a
    ∙ ap₂ (λ (x y : ℕ). decimal (k / 100) ++ (digit x ∷ digit y ∷ [])) b c

pub hundreds_length : (k : ℕ) → 100 ≤ k → length (decimal k) ≡ length (decimal (k / 100)) + 2
hundreds_length k h =
    ap length (decimal_hundreds k h) ∙ length-append (decimal (k / 100)) (digit (k % 100 / 10) ∷ digit (k % 100 % 10) ∷ [])

-- a number below 10 ^ d has at most d digits
pub decimal_few : (d k : ℕ) → k < 10 ^ suc d → length (decimal k) ≤ suc d
decimal_few zero k h = omega (arith, ap length (decimal_short k (omega arith)))
decimal_few (suc d) k h =
    either (ltb k 10)
    (λ t. omega (arith, ap length (decimal_short k (ltb-true k 10 t))))
    (λ t.
    omega (arith, ap length (decimal_long k (ltb-false k 10 t)), length-append (decimal (k / 10)) (digit (k % 10) ∷ []), decimal_few d (k / 10) (omega arith)))

tens : (m : ℕ) → 1 ≤ 10 ^ m
tens zero = omega arith
tens (suc m) = omega (arith, tens m)

-- a number from 10 ^ m up, and below ten times as much, has m + 1 digits
pub decimal_digits : (m k : ℕ) → 10 ^ m ≤ k → k < 10 * 10 ^ m → length (decimal k) ≡ m + 1
decimal_digits zero k h l = ap length (decimal_short k (omega arith))
decimal_digits (suc m) k h l =
    omega (arith, ap length (decimal_long k (omega (arith, tens m))), length-append (decimal (k / 10)) (digit (k % 10) ∷ []), decimal_digits m (k / 10) (omega arith) (omega arith))

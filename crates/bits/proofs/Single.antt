-- The laws of a number with exactly one digit, which is a power of two, and of the digits that a number shares with the one before it. Assumes nothing.
use mathlib.Core.Path.{◌≡◌, refl, ap, ap₂, ◌∙◌}
use Prim.Native.Nat.{ℕ, zero, suc, ◌+◌, ◌-◌, ◌*◌, ◌/◌, ◌%◌, ◌^◌, ◌<◌, min}
use native.Mathlib.Omega.{arith}
use lib.Dec.{eqb}
use lib.Arith.{bin_ind}
use lib.Bits.{bit_and, and_step, and_self}
use lib.Count.{ones, ones_step, ones-ones}
use borrow.Author.Tests.{eqb-true, eqb-false}
use Rattle.bits.proofs.Bools.{either}

pub ones_zero : ones 0 ≡ 0
ones_zero = ones-ones 0

-- no digit, so 0
pub ones_none : (x : ℕ) → ones x ≡ 0 → x ≡ 0
ones_none =
    bin_ind (λ (x : ℕ). ones x ≡ 0 → x ≡ 0) (λ e. refl)
    (λ x ih e. let s = ones_step x in let h : x / 2 ≡ 0 = ih (omega arith) in omega arith)

-- one digit: a power of two
pub single_pow : (x : ℕ) → ones x ≡ 1 → (k : ℕ) × (x ≡ 2 ^ k)
single_pow =
    bin_ind (λ (x : ℕ). ones x ≡ 1 → (k : ℕ) × (x ≡ 2 ^ k)) (λ e. absurd (omega (arith, ones_zero)))
    (λ x ih e.
    let s = ones_step x in
    either (eqb (x % 2) 1)
    (λ t. let o : x % 2 ≡ 1 = eqb-true _ _ t in let h : x / 2 ≡ 0 = ones_none (x / 2) (omega arith) in (0, omega arith))
    (λ t. let o = eqb-false (x % 2) 1 t in let z : x % 2 ≡ 0 = omega arith in let (k, h) = ih (omega arith) in (suc k, omega arith)))

pub pow_single : (k : ℕ) → ones (2 ^ k) ≡ 1
pow_single zero = let s = ones_step 1 in omega (arith, ones_zero)
pow_single (suc k) =
    let h : 2 ^ suc k / 2 ≡ 2 ^ k = omega arith in
    let m : 2 ^ suc k % 2 ≡ 0 = omega arith in
    let e : ones (2 ^ suc k) ≡ 0 + ones (2 ^ k) = ones_step (2 ^ suc k) ∙ ap₂ (λ (d y : ℕ). d + ones y) m h in
    let i = pow_single k in
    omega arith

-- the digits that x and the number before it share
module _ (x : ℕ) (some : 0 < x) where
  pub odd_lower : x % 2 ≡ 1 → bit_and x (x - 1) ≡ x / 2 * 2
  odd_lower o =
      let h : (x - 1) / 2 ≡ x / 2 = omega arith in
      let m : min (x % 2) ((x - 1) % 2) ≡ 0 = omega arith in
      let r : x / 2 * 2 + 0 ≡ x / 2 * 2 = omega arith in
      and_step x (x - 1) ∙ ap₂ (λ (y d : ℕ). bit_and (x / 2) y * 2 + d) h m ∙ ap (λ (y : ℕ). y * 2 + 0) (and_self (x / 2)) ∙ r

  pub even_lower : x % 2 ≡ 0 → bit_and x (x - 1) ≡ bit_and (x / 2) (x / 2 - 1) * 2
  even_lower o =
      let h : (x - 1) / 2 ≡ x / 2 - 1 = omega arith in
      let m : min (x % 2) ((x - 1) % 2) ≡ 0 = omega arith in
      let r : bit_and (x / 2) (x / 2 - 1) * 2 + 0 ≡ bit_and (x / 2) (x / 2 - 1) * 2 = omega arith in
      and_step x (x - 1) ∙ ap₂ (λ (y d : ℕ). bit_and (x / 2) y * 2 + d) h m ∙ r

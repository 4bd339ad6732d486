-- What this crate proves of digits. Its laws on lists hold for any element type and stand in proofs/Lists.antt; a contract cannot name a law over types.
use Rattle.std.specs.Prelude.{◌≡◌, ◌↔◌, false, ◌&&◌, ◌||◌, ◌∷◌, ℕ, ◌+◌, ◌-◌, ◌^◌, ◌<◌, ◌≤◌, ◌==◌, length}
use Rattle.std.specs.Bool.{xor}
use Rattle.std.specs.Int.Bits.{bit_and, bit_or, bit_xor}
use Rattle.std.specs.Int.Count.{ones, count_trailing_zeros}
use Rattle.bits.specs.Digits.{bit, lines_in}

pub record DigitLaws : Type 0 where
  -- the digits of and, or and xor, of a power of two, and of the sum of two masks that share no line
  pub bit-and : (a b k : ℕ) → bit (bit_and a b) k ≡ (bit a k && bit b k)
  pub bit-or : (a b k : ℕ) → bit (bit_or a b) k ≡ (bit a k || bit b k)
  pub bit-xor : (a b k : ℕ) → bit (bit_xor a b) k ≡ xor (bit a k) (bit b k)
  pub bit_pow : (t k : ℕ) → bit (2 ^ t) k ≡ (k == t)
  pub bit_sum : (a b : ℕ) → bit_and a b ≡ 0 → (k : ℕ) → bit (a + b) k ≡ (bit a k || bit b k)
  -- a number is its digits
  pub bits_equal : (a b : ℕ) → ((k : ℕ) → bit a k ≡ bit b k) → a ≡ b
  -- a number is below 2 ^ n exactly when it has no digit at n or above
  pub below_bits : (n x : ℕ) → (x < 2 ^ n) ↔ ((k : ℕ) → n ≤ k → bit x k ≡ false)
  -- the number of set digits is that of the lines; two masks that share no line have as many as both together
  pub ones_lines : (n x : ℕ) → x < 2 ^ n → ones x ≡ length (lines_in x n)
  pub ones_both : (a b : ℕ) → bit_and a b ≡ 0 → ones (bit_or a b) ≡ ones a + ones b
  -- the lines of a mask are its lowest one, and then those of the mask without it
  pub lines_lowest : (m n x : ℕ) → n ≤ m → 0 < x → x < 2 ^ n → lines_in x n ≡ count_trailing_zeros m x ∷ lines_in (bit_and x (x - 1)) n

-- The laws of `bit` and `lines_in`: of the operations on masks, of a power of two, of a sum, of a bound, of a count, and that a number is its digits. Assumes nothing.
use mathlib.Core.Path.{◌≡◌, refl, sym, ap, ap₂, ◌∙◌, subst}
use mathlib.Core.Bool.{Bool, true, false, ◌&&◌, ◌||◌, xor, cond, and-true, and-or_distrib_left}
use Prim.Native.Nat.{ℕ, zero, suc, ◌+◌, ◌-◌, ◌*◌, ◌/◌, ◌%◌, ◌^◌, ◌≤◌, ◌<◌, min, max, suc-le-suc}
use native.Mathlib.Nat.{div-eq_of_lt, mod-lt, pow-suc, lt_of_lt_of_le, zero-lt-suc, div-lt_iff_lt-mul, le-max_left, le-max_right}
use native.Mathlib.Numerals.{one-add}
use native.Mathlib.Omega.{arith}
use lib.Dec.{eqb, eqb-zero-suc, eqb-suc-zero, eqb-suc-suc}
use borrow.Author.Tests.{eqb-true, eqb-false, eq-eqb}
use lib.Arith.{bin_ind, digits_div, digits_mod, lt-one}
use lib.Pow.{pow_mono, pow_pos, shr-shr, split, field, mod-mod-pow}
use lib.Count.{ones, ones_step, ones_cat, ones-ones}
use lib.ListN.{length, length-append}
use mathlib.Core.List.{List, [], ◌∷◌, ◌++◌}
use lib.Bits.{bit_and, bit_or, bit_xor, differ, and_step, or_step, xor_step, and_zero_l, or_zero_l, or_disjoint, or_add_and, or_self, and_le_l, and_le_r}
use Rattle.bits.specs.Digits.{bit, lines_in}
use Rattle.bits.specs.Lists.{All}
use Rattle.bits.proofs.Bools.{and_parts, both, and_apart, either, same_test, cond-true, cond-false}
use Rattle.bits.proofs.Lists.{all_append, all_split}

-- the higher digits are those of the half
pub bit_suc : (x k : ℕ) → bit x (suc k) ≡ bit (x / 2) k
unfolding bit
bit_suc x k = ap (λ (n : ℕ). eqb (n % 2) 1) (ap (λ (e : ℕ). x / 2 ^ e) (sym (one-add k)) ∙ sym (shr-shr x 1 k))

pub bit_first : (x : ℕ) → bit x 0 ≡ eqb (x % 2) 1
unfolding bit
bit_first x = simp native.Mathlib.Nat.div-one

-- 0 has no digit
pub bit_none : (k : ℕ) → bit 0 k ≡ false
unfolding bit
bit_none k = simp native.Mathlib.Nat.zero-div

-- any other number has a digit that is 1
pub bit_some : (x : ℕ) → (x ≡ 0 → ⊥) → (k : ℕ) × (bit x k ≡ true)
bit_some =
    bin_ind (λ (x : ℕ). (x ≡ 0 → ⊥) → (k : ℕ) × (bit x k ≡ true)) (λ d. absurd (d refl))
    (λ x ih d.
    either (eqb (x % 2) 1)
    (λ t. (0, bit_first x ∙ t))
    (λ t. let o = eqb-false (x % 2) 1 t in let (k, e) = ih (λ h. d (omega arith)) in (suc k, bit_suc x k ∙ e)))

-- ---- the operations, digit by digit: `op` by its step, `f` on two digits as numbers, `F` as tests
module _ (op f : ℕ → ℕ → ℕ) (F : Bool → Bool → Bool)
    (step : (a b : ℕ) → op a b ≡ op (a / 2) (b / 2) * 2 + f (a % 2) (b % 2))
    (small : (x y : ℕ) → x < 2 → y < 2 → f x y < 2)
    (agree : (x y : ℕ) → x < 2 → y < 2 → eqb (f x y) 1 ≡ F (eqb x 1) (eqb y 1)) where
  digit_lt : (a b : ℕ) → f (a % 2) (b % 2) < 2
  digit_lt a b = small (a % 2) (b % 2) (omega arith) (omega arith)

  bit_op : (a b k : ℕ) → bit (op a b) k ≡ F (bit a k) (bit b k)
  bit_op a b zero =
      bit_first (op a b)
      ∙ ap (λ (n : ℕ). eqb n 1) (ap (λ (n : ℕ). n % 2) (step a b) ∙ digits_mod (op (a / 2) (b / 2)) (digit_lt a b))
      ∙ agree (a % 2) (b % 2) (omega arith) (omega arith)
      ∙ sym (ap₂ F (bit_first a) (bit_first b))
  bit_op a b (suc k) =
      bit_suc (op a b) k
      ∙ ap (λ (n : ℕ). bit n k) (ap (λ (n : ℕ). n / 2) (step a b) ∙ digits_div (op (a / 2) (b / 2)) (digit_lt a b))
      ∙ bit_op (a / 2) (b / 2) k
      ∙ sym (ap₂ F (bit_suc a k) (bit_suc b k))

-- what holds of 0 and of 1 holds of every digit
two : (P : ℕ → Type 0) → P 0 → P 1 → (x : ℕ) → x < 2 → P x
two P p q zero h = p
two P p q (suc zero) h = q
two P p q (suc (suc x)) h = absurd (omega arith)

two² : (P : ℕ → ℕ → Type 0) → P 0 0 → P 0 1 → P 1 0 → P 1 1 → (x y : ℕ) → x < 2 → y < 2 → P x y
two² P p q r s x y hx hy = two (λ (x : ℕ). P x y) (two (P 0) p q y hy) (two (P 1) r s y hy) x hx

pub bit-and : (a b k : ℕ) → bit (bit_and a b) k ≡ (bit a k && bit b k)
bit-and =
    bit_op bit_and min ◌&&◌ and_step
    (two² (λ (x y : ℕ). min x y < 2) (omega arith) (omega arith) (omega arith) (omega arith))
    (two² (λ (x y : ℕ). eqb (min x y) 1 ≡ (eqb x 1 && eqb y 1)) refl refl refl refl)

pub bit-or : (a b k : ℕ) → bit (bit_or a b) k ≡ (bit a k || bit b k)
bit-or =
    bit_op bit_or max ◌||◌ or_step
    (two² (λ (x y : ℕ). max x y < 2) (omega arith) (omega arith) (omega arith) (omega arith))
    (two² (λ (x y : ℕ). eqb (max x y) 1 ≡ (eqb x 1 || eqb y 1)) refl refl refl refl)

pub bit-xor : (a b k : ℕ) → bit (bit_xor a b) k ≡ xor (bit a k) (bit b k)
unfolding xor
bit-xor =
    bit_op bit_xor differ xor xor_step
    (two² (λ (x y : ℕ). differ x y < 2) (omega arith) (omega arith) (omega arith) (omega arith))
    (two² (λ (x y : ℕ). eqb (differ x y) 1 ≡ xor (eqb x 1) (eqb y 1)) refl refl refl refl)

-- two masks that share no line
pub shared_none : (a b : ℕ) → bit_and a b ≡ 0 → (k : ℕ) → (bit a k && bit b k) ≡ false
shared_none a b e k = sym (bit-and a b k) ∙ ap (λ (x : ℕ). bit x k) e ∙ bit_none k

-- their sum
pub bit_sum : (a b : ℕ) → bit_and a b ≡ 0 → (k : ℕ) → bit (a + b) k ≡ (bit a k || bit b k)
bit_sum a b e k = ap (λ (x : ℕ). bit x k) (sym (or_disjoint a b e)) ∙ bit-or a b k

-- the power 2 ^ t has digit t alone
pub bit_pow : (t k : ℕ) → bit (2 ^ t) k ≡ eqb k t
bit_pow zero zero = bit_first 1
bit_pow zero (suc k) = bit_suc 1 k ∙ bit_none k ∙ sym (eqb-suc-zero k)
bit_pow (suc t) zero = bit_first (2 ^ suc t) ∙ ap (λ (n : ℕ). eqb n 1) (even t) ∙ sym (eqb-zero-suc t)
  where
    even : (t : ℕ) → 2 ^ suc t % 2 ≡ 0
    even t = ap (λ (n : ℕ). n % 2) (pow-suc 2 t) ∙ native.Mathlib.Nat.mul-mod_left (2 ^ t) 2
bit_pow (suc t) (suc k) = bit_suc (2 ^ suc t) k ∙ ap (λ (n : ℕ). bit n k) (half t) ∙ bit_pow t k ∙ sym (eqb-suc-suc k t)
  where
    half : (t : ℕ) → 2 ^ suc t / 2 ≡ 2 ^ t
    half t = ap (λ (n : ℕ). n / 2) (pow-suc 2 t) ∙ native.Mathlib.Nat.mul-div_cancel (2 ^ t) (zero-lt-suc 1)

-- ---- a number is its digits

eqb_one : (x y : ℕ) → x < 2 → y < 2 → eqb x 1 ≡ eqb y 1 → x ≡ y
eqb_one = two² (λ (x y : ℕ). eqb x 1 ≡ eqb y 1 → x ≡ y) (λ e. refl) (λ e. cc) (λ e. cc) (λ e. refl)

pub half_lt : (m x : ℕ) → x < 2 ^ suc m → x / 2 < 2 ^ m
half_lt m x h = (div-lt_iff_lt-mul (zero-lt-suc 1)).1 (rw pow-suc at h)

-- two numbers of m digits with the same digits
pub bits_below : (m a b : ℕ) → a < 2 ^ m → b < 2 ^ m → ((k : ℕ) → k < m → bit a k ≡ bit b k) → a ≡ b
bits_below zero a b ha hb e = lt-one ha ∙ sym (lt-one hb)
bits_below (suc m) a b ha hb e =
    let low : a % 2 ≡ b % 2 = eqb_one (a % 2) (b % 2) (omega arith) (omega arith) (sym (bit_first a) ∙ e 0 (zero-lt-suc m) ∙ bit_first b) in
    let high : a / 2 ≡ b / 2 =
    bits_below m (a / 2) (b / 2) (half_lt m a ha) (half_lt m b hb)
    (λ k h. sym (bit_suc a k) ∙ e (suc k) (suc-le-suc h) ∙ bit_suc b k) in
    omega arith

-- any two numbers with the same digits
pub bits_equal : (a b : ℕ) → ((k : ℕ) → bit a k ≡ bit b k) → a ≡ b
bits_equal a b e =
    bits_below (max a b) a b (lt_of_lt_of_le (self_lt a) (pow_mono (le-max_left a b))) (lt_of_lt_of_le (self_lt b) (pow_mono (le-max_right a b))) (λ k h. e k)
  where
    self_lt : (n : ℕ) → n < 2 ^ n
    self_lt zero = zero-lt-suc 0
    self_lt (suc n) = let h : n < 2 ^ n = self_lt n in rw pow-suc (omega arith)

-- the digits of a number shifted down
pub bit_shifted : (n x k : ℕ) → bit (x / 2 ^ n) k ≡ bit x (n + k)
unfolding bit
bit_shifted n x k = ap (λ (q : ℕ). eqb (q % 2) 1) (shr-shr x n k)

-- a number below 2 ^ n has no digit at n or above, and the other way round
pub bit_above : (n x k : ℕ) → x < 2 ^ n → n ≤ k → bit x k ≡ false
unfolding bit
bit_above n x k h l = ap (λ (q : ℕ). eqb (q % 2) 1) (div-eq_of_lt (lt_of_lt_of_le h (pow_mono l)))

pub below_of_bits : (n x : ℕ) → ((k : ℕ) → n ≤ k → bit x k ≡ false) → x < 2 ^ n
below_of_bits n x e =
    let z : x / 2 ^ n ≡ 0 = bits_equal (x / 2 ^ n) 0 (λ k. bit_shifted n x k ∙ e (n + k) (omega arith) ∙ sym (bit_none k)) in
    subst (λ (y : ℕ). x < y) (native.Mathlib.Nat.one-mul (2 ^ n)) ((div-lt_iff_lt-mul (pow_pos n)).0 (omega arith))

-- a mask and one line alone
pub line_clear : (x k : ℕ) → bit x k ≡ false → bit_and x (2 ^ k) ≡ 0
line_clear x k e = bits_equal _ _ (λ j. bit-and x (2 ^ k) j ∙ ap (λ (b : Bool). bit x j && b) (bit_pow k j) ∙ and_apart (bit x j) (eqb j k) (λ f. ap (bit x) (eqb-true j k f) ∙ e) ∙ sym (bit_none j))

pub clear_line : (x k : ℕ) → bit_and x (2 ^ k) ≡ 0 → bit x k ≡ false
clear_line x k e =
    sym (and-true (bit x k)) ∙ ap (λ (b : Bool). bit x k && b) (sym (bit_pow k k ∙ eq-eqb k k refl)) ∙ sym (bit-and x (2 ^ k) k) ∙ ap (λ (n : ℕ). bit n k) e ∙ bit_none k

-- ---- counting

-- a shorter number keeps its digits
pub bit_low : (n x k : ℕ) → k < n → bit (x % 2 ^ n) k ≡ bit x k
unfolding bit
bit_low n x k h =
    let j : ℕ = n - k - 1 in
    let e : j + 1 + k ≡ n = omega arith in
    ap (λ (d : ℕ). eqb d 1)
    (ap (λ (m : ℕ). x % 2 ^ m / 2 ^ k % 2) (sym e) ∙ ap (λ (q : ℕ). q % 2) (field x (j + 1) k) ∙ mod-mod-pow (x / 2 ^ k) j 1)

lines_low : (n m x : ℕ) → m ≤ n → lines_in (x % 2 ^ n) m ≡ lines_in x m
unfolding lines_in
lines_low n zero x h = refl
lines_low n (suc m) x h =
    ap₂ (λ (l : List ℕ) (b : Bool). l ++ cond b (m ∷ []) []) (lines_low n m x (omega arith)) (bit_low n x m h)

-- the one digit above n digits
top_one : (q n : ℕ) → q < 2 → length (cond (eqb (q % 2) 1) (n ∷ []) []) ≡ ones q
unfolding ones
top_one q n h = two (λ (q : ℕ). length (cond (eqb (q % 2) 1) (n ∷ []) []) ≡ ones q) refl refl q h

-- two masks are 0 where both together are
pub or_parts : (a b : ℕ) → bit_or a b ≡ 0 → (a ≡ 0) × (b ≡ 0)
or_parts a b z = (omega (arith, or_add_and a b, and_le_l a b, and_le_r a b), omega (arith, or_add_and a b, and_le_l a b, and_le_r a b))

-- and exactly there
pub or_zero : (a b : ℕ) → eqb (bit_or a b) 0 ≡ (eqb a 0 && eqb b 0)
or_zero a b =
    same_test (eqb (bit_or a b) 0) (eqb a 0 && eqb b 0)
    (λ e.
    let (p, q) = or_parts a b (eqb-true (bit_or a b) 0 e) in
    both (eq-eqb _ _ p) (eq-eqb _ _ q))
    (λ e. let (p, q) = and_parts (eqb a 0) (eqb b 0) e in eq-eqb _ _ (ap₂ bit_or (eqb-true a 0 p) (eqb-true b 0 q) ∙ or_self 0))

-- what a mask shares with both together
pub and_both : (m a b : ℕ) → bit_and m (bit_or a b) ≡ bit_or (bit_and m a) (bit_and m b)
and_both m a b =
    bits_equal _ _ (λ k.
    bit-and _ _ k ∙ ap (λ (x : Bool). bit m k && x) (bit-or a b k)
    ∙ and-or_distrib_left (bit m k) (bit a k) (bit b k)
    ∙ sym (bit-or _ _ k ∙ ap₂ ◌||◌ (bit-and m a k) (bit-and m b k)))

-- a property of all lines of a mask is one of each line below n where its digit is 1
module _ (P : ℕ → Type 0) (x : ℕ) where
  pub all_lines : (n : ℕ) → ((k : ℕ) → k < n → bit x k ≡ true → P k) → All P (lines_in x n)
  unfolding lines_in
  all_lines zero f = tt
  all_lines (suc n) f =
      all_append P (lines_in x n) _ (all_lines n (λ k l e. f k (omega arith) e))
      (either (bit x n) (λ t. subst (All P) (sym (cond-true (bit x n) _ _ t)) (f n (omega arith) t, tt)) (λ t. subst (All P) (sym (cond-false (bit x n) _ _ t)) tt))

  pub line_all : (n : ℕ) → All P (lines_in x n) → (k : ℕ) → k < n → bit x k ≡ true → P k
  unfolding lines_in
  line_all zero a k l e = absurd (omega arith)
  line_all (suc n) a k l e =
      let (b, c) = all_split P (lines_in x n) _ a in
      either (eqb n k)
      (λ t. let s : n ≡ k = eqb-true n k t in subst P s (subst (All P) (cond-true (bit x n) (n ∷ []) [] (ap (bit x) s ∙ e)) c).0)
      (λ t. let d = eqb-false n k t in line_all n b k (omega arith) e)

-- 0 has no set digit
ones_none : ones 0 ≡ 0
ones_none = ones-ones 0

-- as many lines as set digits
pub lines_ones : (n x : ℕ) → x < 2 ^ n → length (lines_in x n) ≡ ones x
unfolding lines_in bit
lines_ones zero x h = sym (ap ones (lt-one h) ∙ ones_none)
lines_ones (suc n) x h =
    let q : ℕ = x / 2 ^ n in
    let r : ℕ = x % 2 ^ n in
    let small : q < 2 = (div-lt_iff_lt-mul (pow_pos n)).1 (subst (λ (y : ℕ). x < y) (pow-suc 2 n ∙ native.Mathlib.Nat.mul_comm (2 ^ n) 2) h) in
    length-append (lines_in x n) (cond (bit x n) (n ∷ []) [])
    ∙ ap₂ (λ (i j : ℕ). i + j) (ap length (sym (lines_low n n x (native.Mathlib.Nat.le_refl n))) ∙ lines_ones n r (mod-lt x (pow_pos n))) (top n x small)
    ∙ native.Mathlib.Nat.add_comm (ones r) (ones q)
    ∙ sym (ones_cat n q r (mod-lt x (pow_pos n)))
    ∙ ap ones (split x n)
  where
    top : (n x : ℕ) → x / 2 ^ n < 2 → length (cond (bit x n) (n ∷ []) []) ≡ ones (x / 2 ^ n)
    top n x h = top_one (x / 2 ^ n) n h

-- by the lowest digit and the others
ones_digit : (x q d : ℕ) → x ≡ q * 2 + d → d < 2 → ones x ≡ d + ones q
ones_digit x q d e h = ones_step x ∙ ap₂ (λ (i j : ℕ). i + ones j) (omega arith) (omega arith)

-- two masks have as many set digits as their or and their and
ones_or_and : (a b : ℕ) → ones (bit_or a b) + ones (bit_and a b) ≡ ones a + ones b
ones_or_and =
    bin_ind (λ (a : ℕ). (b : ℕ) → ones (bit_or a b) + ones (bit_and a b) ≡ ones a + ones b) (λ b. ap₂ (λ (x y : ℕ). ones x + ones y) (or_zero_l b) (and_zero_l b) ∙ native.Mathlib.Nat.add_comm (ones b) (ones 0))
    (λ a ih b.
    let r : ones (bit_or a b) ≡ max (a % 2) (b % 2) + ones (bit_or (a / 2) (b / 2)) = ones_digit (bit_or a b) _ _ (or_step a b) (omega arith) in
    let s : ones (bit_and a b) ≡ min (a % 2) (b % 2) + ones (bit_and (a / 2) (b / 2)) = ones_digit (bit_and a b) _ _ (and_step a b) (omega arith) in
    omega (arith, r, s, ih (b / 2), ones_step a, ones_step b))

-- two masks that share no line have as many as both together
pub ones_both : (a b : ℕ) → bit_and a b ≡ 0 → ones (bit_or a b) ≡ ones a + ones b
ones_both a b e = let h = ones_or_and a b in let z : ones (bit_and a b) ≡ 0 = ap ones e ∙ ones_none in omega arith

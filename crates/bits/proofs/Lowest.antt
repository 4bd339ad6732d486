-- The lines of a mask are its lowest one, and then those of the mask without it. Assumes nothing.
use mathlib.Core.Path.{◌≡◌, refl, sym, ap, ap₂, ◌∙◌}
use mathlib.Core.Bool.{Bool, true, false, cond}
use mathlib.Core.List.{List, [], ◌∷◌, ◌++◌, map, map-append, append_assoc, append-nil}
use Prim.Native.Nat.{ℕ, zero, suc, ◌+◌, ◌-◌, ◌*◌, ◌/◌, ◌%◌, ◌^◌, ◌≤◌, ◌<◌}
use native.Mathlib.Omega.{arith}
use lib.Dec.{eqb}
use lib.Bits.{bit_and}
use lib.Count.{count_trailing_zeros, under}
use lib.Seq.{append_snoc}
use Rattle.bits.specs.Digits.{bit, lines_in}
use Rattle.bits.proofs.Digits.{bit_suc, bit_first, bit_none, half_lt}
use Rattle.bits.proofs.Single.{odd_lower, even_lower}

pub lines_none : (n : ℕ) → lines_in 0 n ≡ []
unfolding lines_in
lines_none zero = refl
lines_none (suc n) = ap₂ (λ (l : List ℕ) (b : Bool). l ++ cond b (n ∷ []) []) (lines_none n) (bit_none n)

-- one line, where its digit is set
abbrev one : Bool → ℕ → List ℕ
one b k = cond b (k ∷ []) []

moved : (b : Bool) (k : ℕ) → one b (suc k) ≡ map suc (one b k)
moved true k = refl
moved false k = refl

-- line 0, and one above each line of the half
lines_half : (x n : ℕ) → lines_in x (suc n) ≡ one (bit x 0) 0 ++ map suc (lines_in (x / 2) n)
unfolding lines_in
lines_half x zero = sym (append-nil (one (bit x 0) 0))
lines_half x (suc n) =
    ap₂ (λ (l m : List ℕ). l ++ m) (lines_half x n) (ap (λ (b : Bool). one b (suc n)) (bit_suc x n) ∙ moved (bit (x / 2) n) n)
    ∙ append_assoc (one (bit x 0) 0) (map suc (lines_in (x / 2) n)) (map suc (one (bit (x / 2) n) n))
    ∙ ap (λ (l : List ℕ). one (bit x 0) 0 ++ l) (sym (map-append suc (lines_in (x / 2) n) (one (bit (x / 2) n) n)))

-- by its lowest digit and its half
lines_of : (x q d n : ℕ) → x ≡ q * 2 + d → d < 2 → lines_in x (suc n) ≡ one (eqb d 1) 0 ++ map suc (lines_in q n)
lines_of x q d n e h =
    let m : x % 2 ≡ d = omega arith in
    let f : x / 2 ≡ q = omega arith in
    lines_half x n ∙ ap₂ (λ (b : Bool) (y : ℕ). one b 0 ++ map suc (lines_in y n)) (bit_first x ∙ ap (λ (r : ℕ). eqb r 1) m) f

-- by the lowest digit: a set one is the lowest line, and else the lowest line of the half is
lowest_step : (m n x d : ℕ) → 0 < x → x % 2 ≡ d → (0 < x / 2 → lines_in (x / 2) n ≡ count_trailing_zeros m (x / 2) ∷ lines_in (bit_and (x / 2) (x / 2 - 1)) n)
    → lines_in x (suc n) ≡ under d (count_trailing_zeros m (x / 2)) ∷ lines_in (bit_and x (x - 1)) (suc n)
lowest_step m n x zero s e rec =
    let y : ℕ = bit_and (x / 2) (x / 2 - 1) in
    lines_of x (x / 2) 0 n (omega arith) (omega arith)
    ∙ ap (map suc) (rec (omega arith))
    ∙ ap (λ (l : List ℕ). suc (count_trailing_zeros m (x / 2)) ∷ l) (sym (lines_of (bit_and x (x - 1)) y 0 n (even_lower x s e ∙ omega arith) (omega arith)))
lowest_step m n x (suc zero) s e rec =
    lines_of x (x / 2) 1 n (omega arith) (omega arith)
    ∙ ap (λ (l : List ℕ). 0 ∷ l) (sym (lines_of (bit_and x (x - 1)) (x / 2) 0 n (odd_lower x s e ∙ omega arith) (omega arith)))
lowest_step m n x (suc (suc d)) s e rec = absurd (omega arith)

pub lines_lowest : (m n x : ℕ) → n ≤ m → 0 < x → x < 2 ^ n → lines_in x n ≡ count_trailing_zeros m x ∷ lines_in (bit_and x (x - 1)) n
unfolding count_trailing_zeros
lines_lowest zero zero x l s h = absurd (omega arith)
lines_lowest (suc m) zero x l s h = absurd (omega arith)
lines_lowest zero (suc n) x l s h = absurd (omega arith)
lines_lowest (suc m) (suc n) x l s h = lowest_step m n x (x % 2) s refl (λ t. lines_lowest m n (x / 2) (omega arith) t (half_lt n x h))

-- and the lowest line is one of the n
below_step : (m n x d : ℕ) → 0 < x → x % 2 ≡ d → (0 < x / 2 → count_trailing_zeros m (x / 2) < n) → under d (count_trailing_zeros m (x / 2)) < suc n
below_step m n x zero s e rec = let h = rec (omega arith) in omega arith
below_step m n x (suc d) s e rec = omega arith

pub lowest_below : (m n x : ℕ) → n ≤ m → 0 < x → x < 2 ^ n → count_trailing_zeros m x < n
unfolding count_trailing_zeros
lowest_below m zero x l s h = absurd (omega arith)
lowest_below zero (suc n) x l s h = absurd (omega arith)
lowest_below (suc m) (suc n) x l s h = below_step m n x (x % 2) s refl (λ t. lowest_below m n (x / 2) (omega arith) t (half_lt n x h))

-- ---- the lines of a mask, passed from the lowest on; `left` has those that are left

module _ (m n lines left : ℕ) (passed : List ℕ) (all : lines_in lines n ≡ passed ++ lines_in left n) where
  -- one line more
  pub lines_on : n ≤ m → 0 < left → left < 2 ^ n → (line : ℕ) → line ≡ count_trailing_zeros m left
      → lines_in lines n ≡ (passed ++ (line ∷ [])) ++ lines_in (bit_and left (left - 1)) n
  lines_on l some below line is =
      all
      ∙ ap (λ (x : List ℕ). passed ++ x) (lines_lowest m n left l some below ∙ ap (λ (t : ℕ). t ∷ lines_in (bit_and left (left - 1)) n) (sym is))
      ∙ sym (append_snoc passed line (lines_in (bit_and left (left - 1)) n))

  -- and no line is left
  pub lines_done : left ≡ 0 → lines_in lines n ≡ passed
  lines_done e = all ∙ ap (λ (x : List ℕ). passed ++ x) (ap (λ (y : ℕ). lines_in y n) e ∙ lines_none n) ∙ append-nil passed

-- The laws of a valid gate: what its tests say as facts and by lines. Assumes nothing.
use Rattle.std.proofs.Common.{◌≡◌, ℕ, ◌+◌, ◌-◌, ◌*◌, ◌/◌, ◌%◌, ◌^◌, ◌<◌, ◌≤◌, Bool, true, false, ◌&&◌, eqb, ltb, leb, length, sym, ap, ◌∙◌, subst, ap₂, lt_of_lt_of_le, le_of_lt, mod-lt, zero-mul, arith, pow_pos, pow_mono, ltb-true, lt-ltb, eq-eqb, ne_eqb, eqb-true, leb-false, leb-true}
use mathlib.Core.Bool.{and_comm, and-true}
use native.Mathlib.Nat.{div-eq_of_lt}
use lib.Bits.{bit_and, bit_or, or_lt, and_high, and_zero_r, or_add_and, and_le_l, and_le_r}
use lib.Pow.{split, shr_mod}
use Rattle.circuit.specs.declared.gate.Gate.{Gate}
use Rattle.bits.specs.Digits.{bit, lines_in}
use Rattle.circuit.specs.Gate.{max_lines, valid, control_count}
use Rattle.circuit.specs.Laws.{ValidByLines}
use Rattle.bits.proofs.Bools.{and_parts, both, not_held, either, same_test, and_apart, or_none, none_or}
use Rattle.bits.proofs.Digits.{bit-and, bit-or, bit_none, bits_equal, bit_above, below_of_bits, shared_none, line_clear, clear_line, lines_ones, ones_both, or_zero, and_both}

-- ---- `valid` as facts

pub record Valid (n : ℕ) (g : Gate) : Type 0 where
  pub target_below : g.target < n
  pub positive_below : g.positive < 2 ^ n
  pub negative_below : g.negative < 2 ^ n
  pub apart : bit_and g.positive g.negative ≡ 0
  pub free : bit_and (bit_or g.positive g.negative) (2 ^ g.target) ≡ 0

pub valid_facts : (n : ℕ) (g : Gate) → valid n g ≡ true → Valid n g
unfolding valid
valid_facts n g e =
    let (a, e₁) = and_parts _ _ e in
    let (b, e₂) = and_parts _ _ e₁ in
    let (c, e₃) = and_parts _ _ e₂ in
    let (d, f) = and_parts _ _ e₃ in
    record { target_below = ltb-true _ _ a; positive_below = ltb-true _ _ b; negative_below = ltb-true _ _ c; apart = eqb-true _ _ d; free = eqb-true _ _ f }

pub facts_valid : (n : ℕ) (g : Gate) → Valid n g → valid n g ≡ true
unfolding valid
facts_valid n g v =
    both (lt-ltb _ _ v.target_below)
    (both (lt-ltb _ _ v.positive_below) (both (lt-ltb _ _ v.negative_below) (both (eq-eqb _ _ v.apart) (eq-eqb _ _ v.free))))

-- a target at n or above
pub target_above : (n : ℕ) (g : Gate) → n ≤ g.target → false ≡ valid n g
target_above n g h = sym (not_held (valid n g) (λ e. omega (arith, (valid_facts n g e).target_below)))

-- ---- the target stands in neither mask

module _ (n : ℕ) (g : Gate) (v : Valid n g) where
  pub target_clear : (bit g.positive g.target ≡ false) × (bit g.negative g.target ≡ false)
  target_clear =
      or_none (bit g.positive g.target) (bit g.negative g.target)
      (sym (bit-or _ _ g.target) ∙ clear_line (bit_or g.positive g.negative) g.target v.free)

-- a mask has no bit at n or above exactly where it is below 2 ^ n
pub above_none : (n m : ℕ) → m < 2 ^ max_lines → eqb (bit_and m (2 ^ max_lines - 2 ^ n)) 0 ≡ ltb m (2 ^ n)
above_none n m h =
    either (leb n max_lines)
    (λ t. within (leb-true n max_lines t))
    (λ t.
    let l : 2 ^ max_lines ≤ 2 ^ n = pow_mono (le_of_lt (leb-false n max_lines t)) in
    let z : 2 ^ max_lines - 2 ^ n ≡ 0 = omega arith in
    eq-eqb _ _ (ap (bit_and m) z ∙ and_zero_r m) ∙ sym (lt-ltb _ _ (lt_of_lt_of_le h l)))
  where
    high : n ≤ max_lines → bit_and m (2 ^ max_lines - 2 ^ n) ≡ m / 2 ^ n * 2 ^ n
    high l =
        let j : ℕ = max_lines - n in
        let e : j + n ≡ max_lines = omega arith in
        ap (λ (k : ℕ). bit_and m (2 ^ k - 2 ^ n)) (sym e)
        ∙ and_high m j n
        ∙ ap (λ (q : ℕ). q * 2 ^ n) (shr_mod j n (subst (λ (k : ℕ). m < 2 ^ k) (sym e) h))

    within : n ≤ max_lines → eqb (bit_and m (2 ^ max_lines - 2 ^ n)) 0 ≡ ltb m (2 ^ n)
    within l =
        same_test _ _
        (λ e.
        let z : m / 2 ^ n * 2 ^ n ≡ 0 = sym (high l) ∙ eqb-true (bit_and m (2 ^ max_lines - 2 ^ n)) 0 e in
        lt-ltb m (2 ^ n) (omega (arith, split m n, mod-lt m (pow_pos n))))
        (λ e. eq-eqb _ _ (high l ∙ ap (λ (q : ℕ). q * 2 ^ n) (div-eq_of_lt (ltb-true m (2 ^ n) e)) ∙ zero-mul (2 ^ n)))

-- both masks are below exactly where their or is
pub both_below : (n p q : ℕ) → ltb (bit_or p q) (2 ^ n) ≡ true → (p < 2 ^ n) × (q < 2 ^ n)
both_below n p q e =
    let h : bit_or p q < 2 ^ n = ltb-true _ _ e in
    let l : bit_or p q + bit_and p q ≡ p + q = or_add_and p q in
    (omega (arith, and_le_l p q, and_le_r p q), omega (arith, and_le_l p q, and_le_r p q))

-- the tests of the masks, where the target is below n: none of the controls is at n or above, none is the target, and none is of both kinds
masks_valid : (n : ℕ) (g : Gate) → g.target < n → ((ltb (bit_or g.positive g.negative) (2 ^ n) && eqb (bit_and (bit_or g.positive g.negative) (2 ^ g.target)) 0) && eqb (bit_and g.positive g.negative) 0) ≡ valid n g
masks_valid n g t =
    same_test _ (valid n g)
    (λ e.
    let (d, a) = and_parts _ _ e in
    let (b, f) = and_parts _ _ d in
    let (p, q) = both_below n g.positive g.negative b in
    facts_valid n g (record { target_below = t; positive_below = p; negative_below = q; apart = eqb-true _ _ a; free = eqb-true _ _ f }))
    (λ e.
    let v = valid_facts n g e in
    both (both (lt-ltb _ _ (or_lt n g.positive g.negative v.positive_below v.negative_below)) (eq-eqb _ _ v.free)) (eq-eqb _ _ v.apart))

module _ (n : ℕ) (g : Gate) (hp : g.positive < 2 ^ max_lines) (hq : g.negative < 2 ^ max_lines) (t : g.target < n) where
  below_all : bit_or g.positive g.negative < 2 ^ max_lines
  below_all = or_lt max_lines g.positive g.negative hp hq

  -- on at most 64 lines, by one mask
  pub valid_within : (x y : ℕ) → n ≤ max_lines → x ≡ 2 ^ max_lines - 2 ^ n → y ≡ 2 ^ (g.target % max_lines)
      → eqb (bit_or (bit_and (bit_or g.positive g.negative) (bit_or x y)) (bit_and g.positive g.negative)) 0 ≡ valid n g
  valid_within x y l is_x is_y =
      let c : ℕ = bit_or g.positive g.negative in
      let k : g.target % max_lines ≡ g.target = omega arith in
      or_zero (bit_and c (bit_or x y)) (bit_and g.positive g.negative)
      ∙ ap (λ (b : Bool). b && eqb (bit_and g.positive g.negative) 0)
      (ap (λ (z : ℕ). eqb z 0) (and_both c x y)
      ∙ or_zero (bit_and c x) (bit_and c y)
      ∙ ap₂ (λ (u v : ℕ). eqb (bit_and c u) 0 && eqb (bit_and c v) 0) is_x (is_y ∙ ap (◌^◌ 2) k)
      ∙ ap (λ (b : Bool). b && eqb (bit_and c (2 ^ g.target)) 0) (above_none n c below_all))
      ∙ masks_valid n g t

  -- on more, where every mask is below 2 ^ n
  beyond : max_lines < n → (eqb (bit_and (bit_or g.positive g.negative) (2 ^ g.target)) 0 && eqb (bit_and g.positive g.negative) 0) ≡ valid n g
  beyond l =
      ap (λ (b : Bool). (b && eqb (bit_and (bit_or g.positive g.negative) (2 ^ g.target)) 0) && eqb (bit_and g.positive g.negative) 0)
      (sym (lt-ltb _ _ (lt_of_lt_of_le below_all (pow_mono (le_of_lt l)))))
      ∙ masks_valid n g t

  pub free_beyond : (b : Bool) → max_lines < n → b ≡ eqb (bit_and (bit_or g.positive g.negative) (2 ^ g.target)) 0 → bit_and g.positive g.negative ≡ 0 → b ≡ valid n g
  free_beyond b l e z = e ∙ sym (and-true _) ∙ ap (λ (a : Bool). eqb (bit_and (bit_or g.positive g.negative) (2 ^ g.target)) 0 && a) (sym (eq-eqb _ _ z)) ∙ beyond l

  pub shared_beyond : max_lines < n → (bit_and g.positive g.negative ≡ 0 → ⊥) → eqb (bit_and g.positive g.negative) 0 ≡ valid n g
  shared_beyond l d = ne_eqb _ _ d ∙ sym (not_held (valid n g) (λ e. d (valid_facts n g e).apart))

-- two masks that share no line
pub valid_apart : (n : ℕ) (g : Gate) → Valid n g → (k : ℕ) → bit g.positive k ≡ true → bit g.negative k ≡ false
valid_apart n g v k e = sym (ap (λ (t : Bool). t && bit g.negative k) e) ∙ shared_none g.positive g.negative v.apart k

-- ---- validity by lines

-- more lines do no harm
pub valid_more : (m n : ℕ) (g : Gate) → m ≤ n → valid m g ≡ true → valid n g ≡ true
valid_more m n g h e =
    let v = valid_facts m g e in
    facts_valid n g
    (record {
      target_below = omega (arith, v.target_below);
      positive_below = lt_of_lt_of_le v.positive_below (pow_mono h);
      negative_below = lt_of_lt_of_le v.negative_below (pow_mono h);
      apart = v.apart;
      free = v.free;
    })

pub valid_by_lines : (n : ℕ) (g : Gate) → valid n g ≡ true → ValidByLines n g
valid_by_lines n g e =
    let v = valid_facts n g e in
    record {
      target_below = v.target_below;
      positive_below = λ k. bit_above n g.positive k v.positive_below;
      negative_below = λ k. bit_above n g.negative k v.negative_below;
      apart = valid_apart n g v;
      target_not_positive = (target_clear n g v).0;
      target_not_negative = (target_clear n g v).1;
    }

pub lines_valid : (n : ℕ) (g : Gate) → ValidByLines n g → valid n g ≡ true
lines_valid n g v =
    facts_valid n g
    (record {
      target_below = v.target_below;
      positive_below = below_of_bits n g.positive v.positive_below;
      negative_below = below_of_bits n g.negative v.negative_below;
      apart = bits_equal _ _ (λ k. bit-and _ _ k ∙ and_comm (bit g.positive k) (bit g.negative k) ∙ and_apart _ _ (v.apart k) ∙ sym (bit_none k));
      free = line_clear (bit_or g.positive g.negative) g.target (bit-or _ _ g.target ∙ none_or v.target_not_positive v.target_not_negative);
    })

-- as many controls as lines in either mask
pub count_lines : (n : ℕ) (g : Gate) → valid n g ≡ true → control_count g ≡ length (lines_in (bit_or g.positive g.negative) n)
unfolding control_count
count_lines n g e =
    let v = valid_facts n g e in
    sym (lines_ones n (bit_or g.positive g.negative) (or_lt n g.positive g.negative v.positive_below v.negative_below) ∙ ones_both g.positive g.negative v.apart)

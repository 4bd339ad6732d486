-- The laws of a gate's effect: firing by lines and by one test, the new state digit by digit, and that a gate is its own inverse. Assumes nothing.
use Rattle.std.proofs.Common.{◌≡◌, ℕ, ◌%◌, ◌^◌, ◌<◌, Bool, true, false, cond, not, ◌&&◌, ◌||◌, eqb, sym, refl, ap, ◌∙◌, ap₂, arith, eq-eqb, eqb-true}
use mathlib.Core.Bool.{xor, false≢true}
use lib.Bits.{bit_and, bit_or, bit_xor, xor_lt, xor_self, or_zero_r, xor_add_and, and_le_l, and_le_r}
use lib.Pow.{pow-lt}
use Rattle.circuit.specs.declared.gate.Gate.{Gate}
use Rattle.bits.specs.Digits.{bit}
use Rattle.circuit.specs.Gate.{max_lines, not_gate, fires, valid, inverted, apply, missed, toggled}
use Rattle.circuit.specs.Laws.{FiresByLines}
use Rattle.bits.proofs.Bools.{and_parts, both, either, same_test, cond-true, cond-false, and_apart, apart_and, and_within, table₃, unless₃, xor_none, xor_back}
use Rattle.bits.proofs.Digits.{bit-and, bit-or, bit-xor, bit_pow, bit_none, bits_equal, or_parts, line_clear, shared_none}
use Rattle.circuit.proofs.lemmas.gate.Valid.{valid_facts, lines_valid, target_clear, Valid}

-- ---- firing by lines

pub fires_lines : (g : Gate) (s : ℕ) → fires g s ≡ true → FiresByLines g s
unfolding fires
fires_lines g s e =
    let (p, q) = and_parts _ _ e in
    record {
      on = λ k h. (and_parts (bit s k) (bit g.positive k) (sym (bit-and s g.positive k) ∙ ap (λ (x : ℕ). bit x k) (eqb-true _ _ p) ∙ h)).0;
      off = λ k. apart_and _ _ (sym (bit-and s g.negative k) ∙ ap (λ (x : ℕ). bit x k) (eqb-true _ _ q) ∙ bit_none k);
    }

pub lines_fires : (g : Gate) (s : ℕ) → FiresByLines g s → fires g s ≡ true
unfolding fires
lines_fires g s f =
    both (eq-eqb _ _ (bits_equal _ _ (λ k. bit-and s g.positive k ∙ and_within _ _ (f.on k))))
    (eq-eqb _ _ (bits_equal _ _ (λ k. bit-and s g.negative k ∙ and_apart _ _ (f.off k) ∙ sym (bit_none k))))

-- ---- a gate fires on its output as on its input

masked : (a e m : Bool) → (m && e) ≡ false → (xor a e && m) ≡ (a && m)
unfolding xor
masked = unless₃ _ _ _ refl

module _ (n : ℕ) (g : Gate) (v : Valid n g) where
  mask_kept : (s m : ℕ) → bit m g.target ≡ false → bit_and (bit_xor s (2 ^ g.target)) m ≡ bit_and s m
  mask_kept s m h =
      bits_equal _ _ (λ k.
      bit-and _ _ k ∙ ap (λ (b : Bool). b && bit m k) (bit-xor s _ k)
      ∙ masked (bit s k) (bit (2 ^ g.target) k) (bit m k) (shared_none m (2 ^ g.target) (line_clear m g.target h) k)
      ∙ sym (bit-and s m k))

  pub fires_kept : (s : ℕ) → fires g (bit_xor s (2 ^ g.target)) ≡ fires g s
  unfolding fires
  fires_kept s =
      ap₂ (λ (x y : ℕ). eqb x g.positive && eqb y 0) (mask_kept s g.positive (target_clear n g v).0) (mask_kept s g.negative (target_clear n g v).1)

pub xor_twice : (s p : ℕ) → bit_xor (bit_xor s p) p ≡ s
xor_twice s p = bits_equal _ _ (λ k. bit-xor _ _ k ∙ ap (λ (b : Bool). xor b (bit p k)) (bit-xor _ _ k) ∙ xor_back (bit s k) (bit p k))

-- ---- firing by one test

-- what the masks miss is nothing exactly where the gate fires
pub fires_missed : (s p q : ℕ) → eqb (bit_or (bit_xor (bit_and s p) p) (bit_and s q)) 0 ≡ (eqb (bit_and s p) p && eqb (bit_and s q) 0)
fires_missed s p q =
    same_test _ _
    (λ e.
    let z : bit_or (bit_xor (bit_and s p) p) (bit_and s q) ≡ 0 = eqb-true _ _ e in
    let (x, y) = or_parts (bit_xor (bit_and s p) p) (bit_and s q) z in
    both (eq-eqb _ _ (xor_same (bit_and s p) p x)) (eq-eqb _ _ y))
    (λ e.
    let (x, y) = and_parts (eqb (bit_and s p) p) (eqb (bit_and s q) 0) e in
    let a : bit_and s p ≡ p = eqb-true (bit_and s p) p x in
    let b : bit_and s q ≡ 0 = eqb-true (bit_and s q) 0 y in
    eq-eqb _ _ (ap₂ (λ (m k : ℕ). bit_or (bit_xor m p) k) a b ∙ or_zero_r (bit_xor p p) ∙ xor_self p))
  where
    xor_same : (a b : ℕ) → bit_xor a b ≡ 0 → a ≡ b
    xor_same a b z = omega (arith, xor_add_and a b, and_le_l a b, and_le_r a b)

-- on each line: a positive control is missed where it is 0, a negative one where it is 1
line_missed : (b p q : Bool) → (p && q) ≡ false → (xor b p && (p || q)) ≡ ((p && not b) || (q && b))
unfolding xor
line_missed = unless₃ _ _ _ refl

pub missed_line : (g : Gate) (s k : ℕ) → valid max_lines g ≡ true → bit (missed g s) k ≡ ((bit g.positive k && not (bit s k)) || (bit g.negative k && bit s k))
unfolding missed
missed_line g s k v =
    bit-and _ _ k ∙ ap₂ ◌&&◌ (bit-xor s g.positive k) (bit-or g.positive g.negative k)
    ∙ line_missed (bit s k) (bit g.positive k) (bit g.negative k) (shared_none g.positive g.negative (valid_facts max_lines g v).apart k)

-- the same by the mask that the test of firing makes
line_fires : (b p q : Bool) → (xor (b && p) p || (b && q)) ≡ ((p && not b) || (q && b))
unfolding xor
line_fires = table₃ _ _ refl

pub missed_none : (g : Gate) (s : ℕ) → valid max_lines g ≡ true → eqb (missed g s) 0 ≡ fires g s
unfolding fires
missed_none g s v = ap (λ (x : ℕ). eqb x 0) (bits_equal _ _ same) ∙ fires_missed s g.positive g.negative
  where
    same : (k : ℕ) → bit (missed g s) k ≡ bit (bit_or (bit_xor (bit_and s g.positive) g.positive) (bit_and s g.negative)) k
    same k =
        missed_line g s k v ∙ sym (line_fires (bit s k) (bit g.positive k) (bit g.negative k))
        ∙ sym (bit-or _ _ k ∙ ap₂ ◌||◌ (bit-xor _ _ k ∙ ap (λ (b : Bool). xor b (bit g.positive k)) (bit-and s g.positive k)) (bit-and s g.negative k))

-- ---- the state after a gate

pub inverted_fired : (g : Gate) (s : ℕ) → fires g s ≡ true → inverted g s ≡ bit_xor s (2 ^ g.target)
unfolding inverted
inverted_fired g s e = cond-true _ _ _ e

pub inverted_idle : (g : Gate) (s : ℕ) → fires g s ≡ false → inverted g s ≡ s
unfolding inverted
inverted_idle g s e = cond-false _ _ _ e

pub apply_gate : (g : Gate) (s : ℕ) → valid max_lines g ≡ true → apply g s ≡ inverted g s
unfolding apply
apply_gate g s v = cond-true _ _ _ v

-- of a gate that was tested
pub toggled_apply : (g : Gate) (s : ℕ) → valid max_lines g ≡ true → toggled g s ≡ apply g s
unfolding toggled inverted
toggled_apply g s v =
    let h = (valid_facts max_lines g v).target_below in
    let k : g.target % max_lines ≡ g.target = omega arith in
    ap₂ (λ (t : Bool) (l : ℕ). cond t (bit_xor s (2 ^ l)) s) (missed_none g s v) k ∙ sym (apply_gate g s v)

pub apply_none : (g : Gate) (s : ℕ) → valid max_lines g ≡ false → apply g s ≡ s
unfolding apply
apply_none g s v = cond-false _ _ _ v

inverted_twice : (g : Gate) (s : ℕ) → valid max_lines g ≡ true → inverted g (inverted g s) ≡ s
inverted_twice g s v =
    either (fires g s)
    (λ e.
    ap (inverted g) (inverted_fired g s e)
    ∙ inverted_fired g _ (fires_kept max_lines g (valid_facts max_lines g v) s ∙ e)
    ∙ xor_twice s (2 ^ g.target))
    (λ e. ap (inverted g) (inverted_idle g s e) ∙ inverted_idle g s e)

-- every record is its own inverse
pub apply_twice : (g : Gate) (s : ℕ) → apply g (apply g s) ≡ s
apply_twice g s =
    either (valid max_lines g)
    (λ v. ap (apply g) (apply_gate g s v) ∙ apply_gate g _ v ∙ inverted_twice g s v)
    (λ v. ap (apply g) (apply_none g s v) ∙ apply_none g s v)

-- a gate on n lines keeps a state below 2 ^ n
pub apply_below : (n : ℕ) (g : Gate) (s : ℕ) → valid n g ≡ true → s < 2 ^ n → apply g s < 2 ^ n
apply_below n g s v h =
    either (valid max_lines g)
    (λ w.
    rw (apply_gate g s w)
    (either (fires g s)
    (λ e. rw (inverted_fired g s e) (xor_lt n s (2 ^ g.target) h (pow-lt (valid_facts n g v).target_below)))
    (λ e. rw (inverted_idle g s e) h)))
    (λ w. rw (apply_none g s w) h)

-- the new state line by line: the target is inverted where the gate fires, and nothing else changes
pub apply_bit : (g : Gate) (s k : ℕ) → valid max_lines g ≡ true → bit (apply g s) k ≡ xor (bit s k) (fires g s && eqb k g.target)
apply_bit g s k v =
    ap (λ (x : ℕ). bit x k) (apply_gate g s v)
    ∙ either (fires g s)
    (λ e.
    ap (λ (x : ℕ). bit x k) (inverted_fired g s e)
    ∙ bit-xor _ _ k
    ∙ ap (xor (bit s k)) (bit_pow _ k ∙ sym (ap (λ (b : Bool). b && eqb k g.target) e)))
    (λ e.
    ap (λ (x : ℕ). bit x k) (inverted_idle g s e)
    ∙ sym (xor_none (bit s k))
    ∙ ap (xor (bit s k)) (sym (ap (λ (b : Bool). b && eqb k g.target) e)))

-- the gate without controls
pub apply_not : (t s : ℕ) → t < max_lines → apply (not_gate t) s ≡ bit_xor s (2 ^ t)
apply_not t s h = apply_gate (not_gate t) s good ∙ inverted_fired (not_gate t) s fired
  where
    fired : fires (not_gate t) s ≡ true
    fired = lines_fires (not_gate t) s (record { on = λ k e. absurd (false≢true (sym (bit_none k) ∙ e)); off = λ k e. absurd (false≢true (sym (bit_none k) ∙ e)) })

    good : valid max_lines (not_gate t) ≡ true
    good =
        lines_valid max_lines (not_gate t)
        (record {
          target_below = h;
          positive_below = λ k l. bit_none k;
          negative_below = λ k l. bit_none k;
          apart = λ k e. bit_none k;
          target_not_positive = bit_none t;
          target_not_negative = bit_none t;
        })

-- The laws of masks: their digits, the free lines of a gate, and the masks after one state more. Assumes nothing.
use Rattle.std.proofs.Common.{◌≡◌, ℕ, zero, suc, ◌+◌, ◌-◌, ◌*◌, ◌/◌, ◌%◌, ◌^◌, ◌<◌, ◌≤◌, Bool, true, false, cond, not, ◌&&◌, ◌||◌, eqb, ltb, List, [], ◌∷◌, ◌++◌, map, sym, refl, ap, ◌∙◌, ap₂, append_assoc, append-nil, le_refl, arith, pow_pos, ltb-false, ltb-true, le-ltb, lt-ltb, eqb-true}
use mathlib.Core.Bool.{xor, and-true, or-true, and-false, and_assoc}
use lib.Bits.{bit_and, bit_or, bit_xor, xor_step, xor_zero_r, differ}
use borrow.Author.Tests.{eqb-false}
use Rattle.bits.specs.Digits.{bit}
use Rattle.bits.proofs.Bools.{either, or_first, cond-true, cond-false, none_xor, xor_all, table₁, table₃}
use Rattle.bits.proofs.Digits.{bit-and, bit-or, bit-xor, bit_pow, bit_sum, bit_none, bits_equal, bit_above, line_clear}
use Rattle.circuit.specs.declared.gate.Gate.{Gate}
use Rattle.circuit.specs.Gate.{max_lines, fires, apply}
use Rattle.circuit.specs.Run.{run}
use Rattle.circuit.proofs.Promises.{run_append, run_none, run_one}
use Rattle.checking.specs.Faults.{is_free, Fault, missing_control, gate_faults, everywhere, stands, mask_where, masks_from}
use Rattle.checking.specs.private.Narrowing.{kept, narrowed_gate, narrowed, narrowed_by}

-- ---- digits

last_digit : (d : ℕ) → d < 2 → differ d 1 ≡ 1 - d
last_digit zero h = refl
last_digit (suc zero) h = refl
last_digit (suc (suc d)) h = absurd (omega arith)

-- the other lines of a mask, as the code's `!` has them
pub flipped : (w x : ℕ) → x < 2 ^ w → 2 ^ w - 1 - x ≡ bit_xor x (2 ^ w - 1)
flipped zero x h = omega (arith, xor_zero_r x)
flipped (suc w) x h =
    let half : (2 ^ suc w - 1) / 2 ≡ 2 ^ w - 1 = omega arith in
    let odd : (2 ^ suc w - 1) % 2 ≡ 1 = omega arith in
    let last : differ (x % 2) 1 ≡ 1 - x % 2 = last_digit (x % 2) (omega arith) in
    let rest = flipped w (x / 2) (omega arith) in
    let step : bit_xor x (2 ^ suc w - 1) ≡ bit_xor (x / 2) (2 ^ w - 1) * 2 + differ (x % 2) 1 = xor_step x (2 ^ suc w - 1) ∙ ap₂ (λ (y d : ℕ). bit_xor (x / 2) y * 2 + differ (x % 2) d) half odd in
    omega arith

pub mask_below : (n : ℕ) (test : ℕ → Bool) → mask_where n test < 2 ^ n
unfolding mask_where
mask_below zero test = omega arith
mask_below (suc n) test = go (test n) (mask_below n test)
  where
    go : (b : Bool) → mask_where n test < 2 ^ n → mask_where n test + cond b (2 ^ n) 0 < 2 ^ suc n
    go true h = omega arith
    go false h = omega arith

-- one line more
module _ (n : ℕ) (test : ℕ → Bool) (k : ℕ) (now : bit (mask_where n test) k ≡ (ltb k n && test k)) where
  abbrev m : ℕ
  m = mask_where n test

  lower : (k ≡ n → ⊥) → ltb k n ≡ ltb k (suc n)
  lower h =
      either (ltb k n) (λ t. t ∙ sym (lt-ltb k (suc n) (omega (arith, ltb-true k n t)))) (λ t. t ∙ sym (le-ltb k (suc n) (above h (ltb-false k n t))))
    where
      above : (k ≡ n → ⊥) → n ≤ k → suc n ≤ k
      above f g = either (ltb n k) (λ t. ltb-true n k t) (λ t. absurd (f (omega (arith, ltb-false n k t))))

  other : (k ≡ n → ⊥) → bit m k ≡ (ltb k (suc n) && test k)
  other h = now ∙ ap (λ (b : Bool). b && test k) (lower h)

  line_set : test n ≡ true → bit (m + 2 ^ n) k ≡ (ltb k (suc n) && test k)
  line_set e =
      bit_sum m (2 ^ n) (line_clear m n (bit_above n m n (mask_below n test) (le_refl n))) k
      ∙ ap (λ (b : Bool). bit m k || b) (bit_pow n k)
      ∙ either (eqb k n)
      (λ t.
      let f : k ≡ n = eqb-true k n t in
      ap (λ (b : Bool). bit m k || b) t ∙ or-true (bit m k) ∙ sym (ap₂ ◌&&◌ (lt-ltb k (suc n) (omega arith)) (ap test f ∙ e)))
      (λ t. or_first (bit m k) t ∙ other (eqb-false k n t))

  line_not_set : test n ≡ false → bit m k ≡ (ltb k (suc n) && test k)
  line_not_set e =
      either (eqb k n)
      (λ t.
      let f : k ≡ n = eqb-true k n t in
      bit_above n m k (mask_below n test) (omega arith) ∙ sym (ap (λ (b : Bool). ltb k (suc n) && b) (ap test f ∙ e) ∙ and-false (ltb k (suc n))))
      (λ t. other (eqb-false k n t))

-- line k stands in the mask exactly when it is below n and the test holds of it
pub mask_bit : (n : ℕ) (test : ℕ → Bool) (k : ℕ) → bit (mask_where n test) k ≡ (ltb k n && test k)
unfolding mask_where
mask_bit zero test k = bit_none k ∙ sym (ap (λ (b : Bool). b && test k) (le-ltb k 0 (omega arith)))
mask_bit (suc n) test k =
    let z : mask_where n test + 0 ≡ mask_where n test = omega arith in
    either (test n)
    (λ e. ap (λ (x : ℕ). bit (mask_where n test + x) k) (cond-true (test n) (2 ^ n) 0 e) ∙ line_set n test k (mask_bit n test k) e)
    (λ e.
    ap (λ (x : ℕ). bit (mask_where n test + x) k) (cond-false (test n) (2 ^ n) 0 e)
    ∙ ap (λ (x : ℕ). bit x k) z
    ∙ line_not_set n test k (mask_bit n test k) e)

-- a number is the mask of a test where each line below n is right and nothing stands above
pub is_mask : (n : ℕ) (test : ℕ → Bool) (x : ℕ) → ((k : ℕ) → k < n → bit x k ≡ test k) → ((k : ℕ) → n ≤ k → bit x k ≡ false) → x ≡ mask_where n test
is_mask n test x low high =
    bits_equal _ _ (λ k.
    either (ltb k n)
    (λ t. low k (ltb-true k n t) ∙ sym (mask_bit n test k ∙ ap (λ (b : Bool). b && test k) t))
    (λ t. high k (ltb-false k n t) ∙ sym (mask_bit n test k ∙ ap (λ (b : Bool). b && test k) t)))

pub same_mask : (n : ℕ) (f g : ℕ → Bool) → ((k : ℕ) → k < n → f k ≡ g k) → mask_where n f ≡ mask_where n g
same_mask n f g e =
    is_mask n g (mask_where n f)
    (λ k h. mask_bit n f k ∙ ap (λ (b : Bool). b && f k) (lt-ltb k n h) ∙ e k h)
    (λ k h. mask_bit n f k ∙ ap (λ (b : Bool). b && f k) (le-ltb k n h))

-- all lines below n
pub all_lines : (n : ℕ) → 2 ^ n - 1 ≡ mask_where n (λ k. true)
unfolding mask_where
all_lines zero = refl
all_lines (suc n) = omega (arith, all_lines n, pow_pos n)

pub all_bit : (n k : ℕ) → bit (2 ^ n - 1) k ≡ ltb k n
all_bit n k = ap (λ (x : ℕ). bit x k) (all_lines n) ∙ mask_bit n (λ k. true) k ∙ and-true (ltb k n)

-- ---- the free lines of a gate

free_digit : (p q t : Bool) → not ((p || q) || t) ≡ (not t && (not p && not q))
free_digit = table₃ _ _ refl

pub free_mask : (n : ℕ) (g : Gate) → n ≤ max_lines
    → bit_and (2 ^ n - 1) (bit_xor (bit_or (bit_or g.positive g.negative) (2 ^ g.target)) (2 ^ max_lines - 1)) ≡ mask_where n (is_free g)
free_mask n g l =
    is_mask n (is_free g) _
    (λ k h.
    digit k
    ∙ ap₂ ◌&&◌ (lt-ltb k n h) (ap (xor (used k)) (lt-ltb k max_lines (omega arith)) ∙ xor_all (used k))
    ∙ free_digit (bit g.positive k) (bit g.negative k) (eqb k g.target))
    (λ k h. digit k ∙ ap (λ (b : Bool). b && xor (used k) (ltb k max_lines)) (le-ltb k n h))
  where
    used : ℕ → Bool
    used k = (bit g.positive k || bit g.negative k) || eqb k g.target

    digit : (k : ℕ) → bit (bit_and (2 ^ n - 1) (bit_xor (bit_or (bit_or g.positive g.negative) (2 ^ g.target)) (2 ^ max_lines - 1))) k
        ≡ (ltb k n && xor (used k) (ltb k max_lines))
    digit k =
        bit-and _ _ k
        ∙ ap₂ ◌&&◌ (all_bit n k)
        (bit-xor _ _ k ∙ ap₂ xor (bit-or _ _ k ∙ ap₂ ◌||◌ (bit-or _ _ k) (bit_pow g.target k)) (all_bit max_lines k))

-- ---- one state more

all_xor : (a : Bool) → xor a true ≡ xor true a
unfolding xor
all_xor = table₁ _ _ refl

-- what the state of a gate that fires leaves for a missing control, and that of a gate that does not
module _ (positive : Bool) (g : Gate) (s : ℕ) where
  pub kept_fired : s < 2 ^ max_lines → fires g s ≡ true → cond positive (bit_xor s (2 ^ max_lines - 1)) s ≡ kept (missing_control positive) g s
  unfolding kept
  kept_fired small e =
      is_mask max_lines _ _ (λ k h. low positive k h ∙ sym (ap (λ (b : Bool). b && xor positive (bit s k)) e)) (high positive)
    where
      low : (positive : Bool) (k : ℕ) → k < max_lines → bit (cond positive (bit_xor s (2 ^ max_lines - 1)) s) k ≡ xor positive (bit s k)
      low true k h = bit-xor _ _ k ∙ ap (xor (bit s k)) (all_bit max_lines k ∙ lt-ltb k max_lines h) ∙ all_xor (bit s k)
      low false k h = sym (none_xor (bit s k))

      high : (positive : Bool) (k : ℕ) → max_lines ≤ k → bit (cond positive (bit_xor s (2 ^ max_lines - 1)) s) k ≡ false
      high true k h = bit-xor _ _ k ∙ ap₂ xor (bit_above max_lines s k small h) (all_bit max_lines k ∙ le-ltb k max_lines h) ∙ none_xor false
      high false k h = bit_above max_lines s k small h

  pub kept_idle : fires g s ≡ false → 0 ≡ kept (missing_control positive) g s
  unfolding kept
  kept_idle e = is_mask max_lines _ 0 (λ k h. bit_none k ∙ sym (ap (λ (b : Bool). b && xor positive (bit s k)) e)) (λ k h. bit_none k)

-- a mask after one state more
kept_mask : (n : ℕ) (fault : Fault) (g : Gate) (s : ℕ) (f : ℕ → Bool) → n ≤ max_lines
    → bit_and (mask_where n f) (kept fault g s) ≡ mask_where n (λ k. f k && fault.pattern k g s)
unfolding kept
kept_mask n fault g s f l =
    is_mask n _ _
    (λ k h.
    bit-and _ _ k
    ∙ ap₂ ◌&&◌ (mask_bit n f k ∙ ap (λ (b : Bool). b && f k) (lt-ltb k n h))
    (mask_bit max_lines _ k ∙ ap (λ (b : Bool). b && fault.pattern k g s) (lt-ltb k max_lines (omega arith))))
    (λ k h. bit-and _ _ k ∙ ap (λ (b : Bool). b && bit (kept fault g s) k) (mask_bit n f k ∙ ap (λ (b : Bool). b && f k) (le-ltb k n h)))

every_more : (pattern : ℕ → Bool) (before : List Gate) (xs : List ℕ) (x : ℕ)
    → everywhere pattern before (xs ++ (x ∷ [])) ≡ (everywhere pattern before xs && pattern (run before x))
unfolding everywhere
every_more pattern before [] x = and-true (pattern (run before x))
every_more pattern before (y ∷ xs) x =
    ap (λ (b : Bool). pattern (run before y) && b) (every_more pattern before xs x)
    ∙ sym (and_assoc (pattern (run before y)) (everywhere pattern before xs) (pattern (run before x)))

stands_more : (fault : Fault) (before : List Gate) (g : Gate) (xs : List ℕ) (x k : ℕ)
    → (stands fault before g xs k && fault.pattern k g (run before x)) ≡ stands fault before g (xs ++ (x ∷ [])) k
stands_more fault before g xs x k =
    and_assoc (fault.lines g k) (everywhere (fault.pattern k g) before xs) (fault.pattern k g (run before x))
    ∙ ap (λ (b : Bool). fault.lines g k && b) (sym (every_more (fault.pattern k g) before xs x))

mask_more : (n : ℕ) (fault : Fault) (before : List Gate) (g : Gate) (xs : List ℕ) (x : ℕ) → n ≤ max_lines
    → bit_and (mask_where n (stands fault before g xs)) (kept fault g (run before x)) ≡ mask_where n (stands fault before g (xs ++ (x ∷ [])))
mask_more n fault before g xs x l =
    kept_mask n fault g (run before x) (stands fault before g xs) l ∙ same_mask n _ _ (λ k h. stands_more fault before g xs x k)

-- the masks of a gate after one state more
gate_more : (n : ℕ) (faults : List Fault) (before : List Gate) (g : Gate) (xs : List ℕ) (x : ℕ) (more : List ℕ → List ℕ) (rest : List ℕ) → n ≤ max_lines
    → narrowed_gate faults g (run before x) more (map (λ fault. mask_where n (stands fault before g xs)) faults ++ rest)
    ≡ map (λ fault. mask_where n (stands fault before g (xs ++ (x ∷ [])))) faults ++ more rest
gate_more n [] before g xs x more rest l = refl
gate_more n (fault ∷ faults) before g xs x more rest l = ap₂ (λ (m : ℕ) (ms : List ℕ). m ∷ ms) (mask_more n fault before g xs x l) (gate_more n faults before g xs x more rest l)

-- the masks of all gates after one state more
pub narrowed_masks : (n : ℕ) (before gs : List Gate) (xs : List ℕ) (x : ℕ) (rest : List ℕ) → n ≤ max_lines
    → narrowed gs (run before x) (masks_from n before gs xs ++ rest) ≡ masks_from n before gs (xs ++ (x ∷ [])) ++ rest
unfolding narrowed masks_from
narrowed_masks n before [] xs x rest l = refl
narrowed_masks n before (g ∷ gs) xs x rest l =
    gate_more n gate_faults before g xs x (narrowed gs (apply g (run before x))) (masks_from n (before ++ (g ∷ [])) gs xs ++ rest) l
    ∙ ap (λ (ms : List ℕ). map (λ fault. mask_where n (stands fault before g (xs ++ (x ∷ [])))) gate_faults ++ ms)
    (ap (λ (s : ℕ). narrowed gs s (masks_from n (before ++ (g ∷ [])) gs xs ++ rest)) (sym (run_append before (g ∷ []) x ∙ run_one g (run before x)))
    ∙ narrowed_masks n (before ++ (g ∷ [])) gs xs x rest l)

-- and after all states
pub narrowed_by_lem : (n : ℕ) (gs : List Gate) (xs ys rest : List ℕ) → n ≤ max_lines
    → narrowed_by gs ys (masks_from n [] gs xs ++ rest) ≡ masks_from n [] gs (xs ++ ys) ++ rest
unfolding narrowed_by
narrowed_by_lem n gs xs [] rest l = ap (λ (zs : List ℕ). masks_from n [] gs zs ++ rest) (sym (append-nil xs))
narrowed_by_lem n gs xs (y ∷ ys) rest l =
    ap (narrowed_by gs ys) (ap (λ (s : ℕ). narrowed gs s (masks_from n [] gs xs ++ rest)) (sym (run_none y)) ∙ narrowed_masks n [] gs xs y rest l)
    ∙ narrowed_by_lem n gs (xs ++ (y ∷ [])) ys rest l
    ∙ ap (λ (zs : List ℕ). masks_from n [] gs zs ++ rest) (append_assoc xs (y ∷ []) ys)

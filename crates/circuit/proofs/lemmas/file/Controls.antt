-- The laws of a gate's controls: a gate is the masks of its list of controls, and rising controls are those of their gate. Assumes nothing.
use Rattle.std.proofs.Common.{◌≡◌, ℕ, zero, suc, ◌+◌, ◌^◌, ◌<◌, ◌≤◌, Bool, true, false, cond, ◌&&◌, ◌||◌, eqb, ltb, leb, List, [], ◌∷◌, ◌++◌, sym, refl, ap, ◌∙◌, subst, ap₂, true≢false, append_assoc, append-nil, add-zero, arith, ltb-false, ltb-true, le-ltb, lt-ltb, eq-eqb, ne_eqb, eqb-true, le-leb, leb-true}
use mathlib.Core.Bool.{beq, false≢true, or-false, or_assoc, and-true, and-false, and_assoc}
use lib.Bits.{bit_or}
use borrow.Author.Tests.{eqb-false}
use Rattle.bits.specs.Digits.{bit}
use Rattle.bits.proofs.Bools.{either, and_parts, both, or_none, or_first, none_or, table₄}
use Rattle.bits.proofs.Lists.{all_append, all_implies}
use Rattle.bits.proofs.Digits.{bit-or, bit_pow, bit_none, bits_equal, bit_above}
use Rattle.circuit.specs.declared.gate.Gate.{Gate}
use Rattle.circuit.specs.Gate.{max_lines, valid, Control, Inside, control_at, controls_below, controls_of}
use Rattle.circuit.specs.File.{among, rising_from, mask_of, gate_of}
use Rattle.circuit.proofs.lemmas.gate.Valid.{Valid, valid_facts, valid_apart, valid_by_lines, lines_valid}

-- ---- the masks of a list of controls, line by line

-- the digit k of one control's mask
pub one_bit : (s : Bool) (l k : ℕ) → bit (cond s (2 ^ l) 0) k ≡ (s && eqb k l)
one_bit true l k = bit_pow l k
one_bit false l k = bit_none k

pub mask_bit : (s : Bool) (c : Control) (cs : List Control) (k : ℕ)
    → bit (mask_of s (c ∷ cs)) k ≡ ((beq c.positive s && eqb k c.line) || bit (mask_of s cs) k)
unfolding mask_of
mask_bit s c cs k =
    bit-or (cond (beq c.positive s) (2 ^ c.line) 0) (mask_of s cs) k
    ∙ ap (λ (b : Bool). b || bit (mask_of s cs) k) (one_bit (beq c.positive s) c.line k)

pub mask_none : (s : Bool) (k : ℕ) → bit (mask_of s []) k ≡ false
unfolding mask_of
mask_none s k = bit_none k

pub mask_append : (s : Bool) (xs ys : List Control) (k : ℕ) → bit (mask_of s (xs ++ ys)) k ≡ (bit (mask_of s xs) k || bit (mask_of s ys) k)
mask_append s [] ys k = sym (ap (λ (b : Bool). b || bit (mask_of s ys) k) (mask_none s k))
mask_append s (c ∷ xs) ys k =
    let h : Bool = beq c.positive s && eqb k c.line in
    mask_bit s c (xs ++ ys) k
    ∙ ap (λ (b : Bool). h || b) (mask_append s xs ys k)
    ∙ sym (or_assoc h (bit (mask_of s xs) k) (bit (mask_of s ys) k))
    ∙ ap (λ (b : Bool). b || bit (mask_of s ys) k) (sym (mask_bit s c xs k))

-- one control more at the end
pub mask_push : (s : Bool) (cs : List Control) (c : Control) → mask_of s (cs ++ (c ∷ [])) ≡ bit_or (mask_of s cs) (cond (beq c.positive s) (2 ^ c.line) 0)
mask_push s cs c =
    bits_equal _ _ (λ k.
    mask_append s cs (c ∷ []) k
    ∙ ap (λ (b : Bool). bit (mask_of s cs) k || b)
    (mask_bit s c [] k ∙ or_first (beq c.positive s && eqb k c.line) (mask_none s k) ∙ sym (one_bit (beq c.positive s) c.line k))
    ∙ sym (bit-or (mask_of s cs) (cond (beq c.positive s) (2 ^ c.line) 0) k))

-- a line stands among the controls exactly when it stands in one of the masks
pub among_masks : (t : ℕ) (cs : List Control) → among t cs ≡ (bit (mask_of true cs) t || bit (mask_of false cs) t)
unfolding among
among_masks t [] = sym (ap₂ ◌||◌ (mask_none true t) (mask_none false t))
among_masks t (c ∷ cs) =
    ap₂ ◌||◌ (swap c.line t) (among_masks t cs)
    ∙ merge c.positive (eqb t c.line) (bit (mask_of true cs) t) (bit (mask_of false cs) t)
    ∙ sym (ap₂ ◌||◌ (mask_bit true c cs t) (mask_bit false c cs t))
  where
    swap : (a b : ℕ) → eqb a b ≡ eqb b a
    swap a b = either (eqb a b) (λ e. e ∙ sym (eq-eqb b a (sym (eqb-true a b e)))) (λ e. e ∙ sym (ne_eqb b a (λ q. eqb-false a b e (sym q))))

    merge : (p e x y : Bool) → (e || (x || y)) ≡ (((beq p true && e) || x) || ((beq p false && e) || y))
    merge = table₄ _ _ refl

pub among_push : (t : ℕ) (cs : List Control) (c : Control) → among t (cs ++ (c ∷ [])) ≡ (among t cs || eqb c.line t)
unfolding among
among_push t [] c = or-false (eqb c.line t)
among_push t (d ∷ cs) c = ap (λ (b : Bool). eqb d.line t || b) (among_push t cs c) ∙ sym (or_assoc (eqb d.line t) (among t cs) (eqb c.line t))

-- ---- rising

-- the lowest line that may follow the controls
unfoldable pub next_line : ℕ → List Control → ℕ
next_line low [] = low
next_line low (c ∷ cs) = next_line (c.line + 1) cs

pub rising_append : (low : ℕ) (xs ys : List Control) → rising_from low (xs ++ ys) ≡ (rising_from low xs && rising_from (next_line low xs) ys)
unfolding rising_from next_line
rising_append low [] ys = refl
rising_append low (c ∷ xs) ys =
    ap (λ (b : Bool). leb low c.line && b) (rising_append (c.line + 1) xs ys)
    ∙ sym (and_assoc (leb low c.line) (rising_from (c.line + 1) xs) (rising_from (next_line (c.line + 1) xs) ys))

pub next_append : (low : ℕ) (xs ys : List Control) → next_line low (xs ++ ys) ≡ next_line (next_line low xs) ys
unfolding next_line
next_append low [] ys = refl
next_append low (c ∷ xs) ys = next_append (c.line + 1) xs ys

-- one control more at the end
pub rising_push : (cs : List Control) (c : Control) → rising_from 0 (cs ++ (c ∷ [])) ≡ (rising_from 0 cs && leb (next_line 0 cs) c.line)
unfolding rising_from
rising_push cs c = rising_append 0 cs (c ∷ []) ∙ ap (λ (b : Bool). rising_from 0 cs && b) (and-true (leb (next_line 0 cs) c.line))

pub next_push : (cs : List Control) (c : Control) → next_line 0 (cs ++ (c ∷ [])) ≡ c.line + 1
unfolding next_line
next_push cs c = next_append 0 cs (c ∷ [])

-- ---- below a limit

-- no line below the first one, and none at the limit or above, stands in a mask
one_not : (s : Bool) (k l : ℕ) → (k ≡ l → ⊥) → (s && eqb k l) ≡ false
one_not true k l h = ne_eqb k l h
one_not false k l h = refl

pub mask_inside : (s : Bool) (n : ℕ) (cs : List Control) → Inside n cs → (k : ℕ) → n ≤ k → bit (mask_of s cs) k ≡ false
mask_inside s n [] w k h = mask_none s k
mask_inside s n (c ∷ cs) w k h =
    mask_bit s c cs k ∙ none_or (one_not (beq c.positive s) k c.line (λ e. omega (arith, w.0))) (mask_inside s n cs w.1 k h)

pub mask_low : (s : Bool) (low : ℕ) (cs : List Control) → rising_from low cs ≡ true → (k : ℕ) → k < low → bit (mask_of s cs) k ≡ false
unfolding rising_from
mask_low s low [] w k h = mask_none s k
mask_low s low (c ∷ cs) w k h =
    let (a, b) = and_parts (leb low c.line) (rising_from (c.line + 1) cs) w in
    let l : low ≤ c.line = leb-true low c.line a in
    mask_bit s c cs k
    ∙ none_or (one_not (beq c.positive s) k c.line (λ e. omega arith)) (mask_low s (c.line + 1) cs b k (omega arith))

-- no line stands in both masks
pub masks_apart : (low : ℕ) (cs : List Control) → rising_from low cs ≡ true → (k : ℕ) → bit (mask_of true cs) k ≡ true → bit (mask_of false cs) k ≡ false
unfolding rising_from
masks_apart low [] w k e = mask_none false k
masks_apart low (c ∷ cs) w k e =
    let (a, b) = and_parts (leb low c.line) (rising_from (c.line + 1) cs) w in
    either (eqb k c.line)
    (λ t.
    let f : k ≡ c.line = eqb-true k c.line t in
    let x : bit (mask_of true cs) k ≡ false = mask_low true (c.line + 1) cs b k (omega arith) in
    let y : bit (mask_of false cs) k ≡ false = mask_low false (c.line + 1) cs b k (omega arith) in
    mask_bit false c cs k ∙ here c.positive (eqb k c.line) _ _ x y (sym (mask_bit true c cs k) ∙ e))
    (λ t.
    let f : k ≡ c.line → ⊥ = eqb-false k c.line t in
    let x : bit (mask_of true cs) k ≡ true = sym (ap (λ (q : Bool). q || bit (mask_of true cs) k) (one_not (beq c.positive true) k c.line f)) ∙ sym (mask_bit true c cs k) ∙ e in
    mask_bit false c cs k ∙ none_or (one_not (beq c.positive false) k c.line f) (masks_apart (c.line + 1) cs b k x))
  where
    here : (p e x y : Bool) → x ≡ false → y ≡ false → ((beq p true && e) || x) ≡ true → ((beq p false && e) || y) ≡ false
    here true e x y f g h = g
    here false e x y f g h = absurd (false≢true (sym f ∙ h))

-- controls that rise, are lines of the cascade and leave the target out make a gate
pub controls_valid : (n t : ℕ) (cs : List Control) → t < n → Inside n cs → among t cs ≡ false → rising_from 0 cs ≡ true → valid n (gate_of t cs) ≡ true
controls_valid n t cs h w a r =
    let (p, q) = or_none (bit (mask_of true cs) t) (bit (mask_of false cs) t) (sym (among_masks t cs) ∙ a) in
    lines_valid n (gate_of t cs)
    (record {
      target_below = h;
      positive_below = mask_inside true n cs w;
      negative_below = mask_inside false n cs w;
      apart = masks_apart 0 cs r;
      target_not_positive = p;
      target_not_negative = q;
    })

-- ---- the controls of a gate

-- the controls of one line, by the digits p and q of the two masks
abbrev on_line : ℕ → Bool → Bool → List Control
on_line k p q = cond p (record { line = k; positive = true } ∷ []) (cond q (record { line = k; positive = false } ∷ []) [])

-- the mask by sign
abbrev pub mask_in : Bool → Gate → ℕ
mask_in true g = g.positive
mask_in false g = g.negative

line_mask : (s : Bool) (n k : ℕ) (p q : Bool) → (p ≡ true → q ≡ false) → bit (mask_of s (on_line n p q)) k ≡ (eqb k n && cond s p q)
line_mask s n k true true h = absurd (true≢false (h refl))
line_mask true n k true false h = mask_bit true _ [] k ∙ or_first (eqb k n) (mask_none true k) ∙ sym (and-true (eqb k n))
line_mask false n k true false h = mask_bit false _ [] k ∙ mask_none false k ∙ sym (and-false (eqb k n))
line_mask true n k false true h = mask_bit true _ [] k ∙ mask_none true k ∙ sym (and-false (eqb k n))
line_mask false n k false true h = mask_bit false _ [] k ∙ or_first (eqb k n) (mask_none false k) ∙ sym (and-true (eqb k n))
line_mask true n k false false h = mask_none true k ∙ sym (and-false (eqb k n))
line_mask false n k false false h = mask_none false k ∙ sym (and-false (eqb k n))

pick_mask : (s : Bool) (g : Gate) (k : ℕ) → cond s (bit g.positive k) (bit g.negative k) ≡ bit (mask_in s g) k
pick_mask true g k = refl
pick_mask false g k = refl

module _ (g : Gate) (apart : (k : ℕ) → bit g.positive k ≡ true → bit g.negative k ≡ false) where
  below_mask : (s : Bool) (m k : ℕ) → bit (mask_of s (controls_below m g)) k ≡ (ltb k m && bit (mask_in s g) k)
  unfolding controls_below
  below_mask s zero k = mask_none s k ∙ sym (ap (λ (b : Bool). b && bit (mask_in s g) k) (le-ltb k 0 (omega arith)))
  below_mask s (suc m) k =
      mask_append s (controls_below m g) (control_at g m) k
      ∙ ap₂ ◌||◌ (below_mask s m k) (line_mask s m k (bit g.positive m) (bit g.negative m) (apart m) ∙ ap (λ (b : Bool). eqb k m && b) (pick_mask s g m))
      ∙ either (eqb k m)
      (λ t.
      let e : k ≡ m = eqb-true k m t in
      ap₂ (λ (x y : Bool). (x && bit (mask_in s g) k) || (y && bit (mask_in s g) m)) (le-ltb k m (omega arith)) t
      ∙ ap (bit (mask_in s g)) (sym e)
      ∙ sym (ap (λ (x : Bool). x && bit (mask_in s g) k) (lt-ltb k (suc m) (omega arith))))
      (λ t.
      let f : k ≡ m → ⊥ = eqb-false k m t in
      ap (λ (y : Bool). (ltb k m && bit (mask_in s g) k) || (y && bit (mask_in s g) m)) t
      ∙ or-false (ltb k m && bit (mask_in s g) k)
      ∙ ap (λ (x : Bool). x && bit (mask_in s g) k) (same_bound k m f))
    where
      same_bound : (k m : ℕ) → (k ≡ m → ⊥) → ltb k m ≡ ltb k (suc m)
      same_bound k m f =
          either (ltb k m)
          (λ t. t ∙ sym (lt-ltb k (suc m) (omega (arith, ltb-true k m t))))
          (λ t. t ∙ sym (le-ltb k (suc m) (omega (arith, ltb-false k m t))))

-- the masks of all controls are the gate's
pub mask_controls : (s : Bool) (g : Gate) → valid max_lines g ≡ true → mask_of s (controls_of g) ≡ mask_in s g
mask_controls s g e =
    let v = valid_facts max_lines g e in
    bits_equal _ _ (λ k.
    below_mask g (valid_apart max_lines g v) s max_lines k
    ∙ either (ltb k max_lines)
    (λ t. ap (λ (b : Bool). b && bit (mask_in s g) k) t)
    (λ t. ap (λ (b : Bool). b && bit (mask_in s g) k) t ∙ sym (bit_above max_lines (mask_in s g) k (mask_below s v) (ltb-false k max_lines t))))
  where
    mask_below : (s : Bool) → Valid max_lines g → mask_in s g < 2 ^ max_lines
    mask_below true v = v.positive_below
    mask_below false v = v.negative_below

pub gate_controls : (g : Gate) → valid max_lines g ≡ true → gate_of g.target (controls_of g) ≡ g
gate_controls g e = ap₂ (λ (p q : ℕ). record { positive = p; negative = q; target = g.target }) (mask_controls true g e) (mask_controls false g e)

-- the target is not among them
pub target_apart : (g : Gate) → valid max_lines g ≡ true → among g.target (controls_of g) ≡ false
target_apart g e =
    let v = valid_by_lines max_lines g e in
    among_masks g.target (controls_of g)
    ∙ none_or (ap (λ (m : ℕ). bit m g.target) (mask_controls true g e) ∙ v.target_not_positive)
    (ap (λ (m : ℕ). bit m g.target) (mask_controls false g e) ∙ v.target_not_negative)

-- they rise
below_rising : (g : Gate) (m : ℕ) → (rising_from 0 (controls_below m g) ≡ true) × (next_line 0 (controls_below m g) ≤ m)
unfolding controls_below
below_rising g zero = unfold rising_from next_line in (refl, omega arith)
below_rising g (suc m) =
    let (r, l) = below_rising g m in
    line (bit g.positive m) (bit g.negative m) r l
  where
    line : (p q : Bool) → rising_from 0 (controls_below m g) ≡ true → next_line 0 (controls_below m g) ≤ m
        → (rising_from 0 (controls_below m g ++ on_line m p q) ≡ true) × (next_line 0 (controls_below m g ++ on_line m p q) ≤ suc m)
    line true q r l =
        (rising_push (controls_below m g) _ ∙ both r (le-leb _ _ l), omega (arith, next_push (controls_below m g) (record { line = m; positive = true })))
    line false true r l =
        (rising_push (controls_below m g) _ ∙ both r (le-leb _ _ l), omega (arith, next_push (controls_below m g) (record { line = m; positive = false })))
    line false false r l =
        let e = append-nil (controls_below m g) in
        (ap (rising_from 0) e ∙ r, omega (arith, ap (next_line 0) e))

pub controls_rising : (g : Gate) → rising_from 0 (controls_of g) ≡ true
controls_rising g = (below_rising g max_lines).0

-- they are lines of the cascade
pub controls_inside : (n : ℕ) (g : Gate) → valid n g ≡ true → (m : ℕ) → Inside n (controls_below m g)
unfolding controls_below
controls_inside n g e zero = tt
controls_inside n g e (suc m) =
    let v = valid_by_lines n g e in
    all_append _ (controls_below m g) (control_at g m) (controls_inside n g e m)
    (either (ltb m n)
    (λ t. inside (bit g.positive m) (bit g.negative m) (ltb-true m n t))
    (λ t. subst (Inside n) (sym (ap₂ (on_line m) (v.positive_below m (ltb-false m n t)) (v.negative_below m (ltb-false m n t)))) tt))
  where
    inside : (p q : Bool) → m < n → Inside n (on_line m p q)
    inside true q t = (t, tt)
    inside false true t = (t, tt)
    inside false false t = tt

-- ---- rising controls are those of their gate

-- the controls on lines j to j + k - 1
unfoldable pub stretch : ℕ → ℕ → Gate → List Control
stretch j zero g = []
stretch j (suc k) g = control_at g j ++ stretch (suc j) k g

pub below_stretch : (g : Gate) (k j : ℕ) → controls_below (j + k) g ≡ controls_below j g ++ stretch j k g
unfolding controls_below stretch
below_stretch g zero j = ap (λ (m : ℕ). controls_below m g) (add-zero j) ∙ sym (append-nil (controls_below j g))
below_stretch g (suc k) j =
    let e : j + suc k ≡ suc j + k = omega arith in
    ap (λ (m : ℕ). controls_below m g) e ∙ below_stretch g k (suc j) ∙ append_assoc (controls_below j g) (control_at g j) (stretch (suc j) k g)

-- a gate has the controls cs from line j on
record Has (g : Gate) (j : ℕ) (cs : List Control) : Type 0 where
  on : (k : ℕ) → j ≤ k → bit g.positive k ≡ bit (mask_of true cs) k
  off : (k : ℕ) → j ≤ k → bit g.negative k ≡ bit (mask_of false cs) k

-- a line that stands in neither mask
none_at : (g : Gate) (j : ℕ) (cs : List Control) → Has g j cs → bit (mask_of true cs) j ≡ false → bit (mask_of false cs) j ≡ false → control_at g j ≡ []
none_at g j cs h p q = ap₂ (on_line j) (h.on j (omega arith) ∙ p) (h.off j (omega arith) ∙ q)

-- the first control, on line j
one_at : (g : Gate) (j : ℕ) (c : Control) (cs : List Control) → Has g j (c ∷ cs) → c.line ≡ j → rising_from (c.line + 1) cs ≡ true → control_at g j ≡ c ∷ []
one_at g j c cs h e r =
    ap₂ (on_line j) (h.on j (omega arith) ∙ here true) (h.off j (omega arith) ∙ here false)
    ∙ only c.positive
    ∙ ap (λ (l : ℕ). record { line = l; positive = c.positive } ∷ []) (sym e)
  where
    here : (s : Bool) → bit (mask_of s (c ∷ cs)) j ≡ beq c.positive s
    here s =
        mask_bit s c cs j
        ∙ ap₂ (λ (x y : Bool). (beq c.positive s && x) || y) (eq-eqb j c.line (sym e)) (mask_low s (c.line + 1) cs r j (omega arith))
        ∙ or-false (beq c.positive s && true)
        ∙ and-true (beq c.positive s)

    only : (p : Bool) → on_line j (beq p true) (beq p false) ≡ record { line = j; positive = p } ∷ []
    only true = refl
    only false = refl

has_later : (g : Gate) (j : ℕ) (cs : List Control) → Has g j cs → Has g (suc j) cs
has_later g j cs h = record { on = λ k l. h.on k (omega arith); off = λ k l. h.off k (omega arith) }

has_tail : (g : Gate) (j : ℕ) (c : Control) (cs : List Control) → Has g j (c ∷ cs) → c.line ≡ j → Has g (suc j) cs
has_tail g j c cs h e = record { on = λ k l. h.on k (omega arith) ∙ skip true k l; off = λ k l. h.off k (omega arith) ∙ skip false k l }
  where
    skip : (s : Bool) (k : ℕ) → suc j ≤ k → bit (mask_of s (c ∷ cs)) k ≡ bit (mask_of s cs) k
    skip s k l = mask_bit s c cs k ∙ ap (λ (x : Bool). x || bit (mask_of s cs) k) (one_not (beq c.positive s) k c.line (λ q. omega arith))

stretch_is : (k j : ℕ) (g : Gate) (cs : List Control) → rising_from j cs ≡ true → Inside (j + k) cs → Has g j cs → stretch j k g ≡ cs
unfolding stretch rising_from
stretch_is zero j g [] r w h = refl
stretch_is zero j g (c ∷ cs) r w h =
    let (a, b) = and_parts (leb j c.line) (rising_from (c.line + 1) cs) r in
    absurd (omega (arith, leb-true j c.line a, w.0))
stretch_is (suc k) j g [] r w h =
    ap₂ ◌++◌ (none_at g j [] h (mask_none true j) (mask_none false j)) (stretch_is k (suc j) g [] refl tt (has_later g j [] h))
stretch_is (suc k) j g (c ∷ cs) r w h =
    let (a, b) = and_parts (leb j c.line) (rising_from (c.line + 1) cs) r in
    let e : j + suc k ≡ suc j + k = omega arith in
    let l : j ≤ c.line = leb-true j c.line a in
    either (eqb c.line j)
    (λ t.
    let f : c.line ≡ j = eqb-true c.line j t in
    let u : c.line + 1 ≡ suc j = omega arith in
    ap₂ ◌++◌ (one_at g j c cs h f b)
    (stretch_is k (suc j) g cs (ap (λ (m : ℕ). rising_from m cs) (sym u) ∙ b) (subst (λ (m : ℕ). Inside m cs) e w.1) (has_tail g j c cs h f)))
    (λ t.
    let ne : c.line ≡ j → ⊥ = eqb-false c.line j t in
    let up : rising_from (suc j) (c ∷ cs) ≡ true = both (le-leb (suc j) c.line (above j c.line l ne)) b in
    ap₂ ◌++◌ (none_at g j (c ∷ cs) h (mask_low true (suc j) (c ∷ cs) up j (omega arith)) (mask_low false (suc j) (c ∷ cs) up j (omega arith)))
    (stretch_is k (suc j) g (c ∷ cs) up (subst (λ (m : ℕ). Inside m (c ∷ cs)) e w) (has_later g j (c ∷ cs) h)))
  where
    above : (j l : ℕ) → j ≤ l → (l ≡ j → ⊥) → suc j ≤ l
    above j l h ne = omega arith

pub controls_gate : (t : ℕ) (cs : List Control) → rising_from 0 cs ≡ true → Inside max_lines cs → controls_of (gate_of t cs) ≡ cs
unfolding controls_below
controls_gate t cs r w =
    below_stretch (gate_of t cs) max_lines 0
    ∙ stretch_is max_lines 0 (gate_of t cs) cs r w (record { on = λ k l. refl; off = λ k l. refl })

pub inside_more : (m n : ℕ) (cs : List Control) → m ≤ n → Inside m cs → Inside n cs
inside_more m n cs h = all_implies _ _ (λ c l. omega arith) cs

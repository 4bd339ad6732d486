-- The laws of the list of controls: it decides whether a gate fires, and has as many as the control count. Assumes nothing.
use Rattle.std.proofs.Common.{◌≡◌, ℕ, zero, suc, ◌+◌, ◌<◌, ◌≤◌, Bool, true, false, cond, not, ◌&&◌, ◌||◌, ltb, List, [], ◌∷◌, ◌++◌, map, length, sym, refl, ap, ◌∙◌, ap₂, true≢false, append-nil, arith, length-append, ltb-false, ltb-true}
use mathlib.Core.Bool.{false≢true, and-true, and_assoc}
use mathlib.Core.List.{map-append}
use native.Mathlib.Decide.{le_ind}
use lib.Bits.{bit_or}
use borrow.Author.Tests.{not-true}
use Rattle.bits.specs.Digits.{bit, lines_in}
use Rattle.bits.proofs.Bools.{and_parts, both, either, same_test}
use Rattle.bits.proofs.Digits.{bit-or, bit_above, lines_ones}
use Rattle.circuit.specs.declared.gate.Gate.{Gate}
use Rattle.circuit.specs.Gate.{max_lines, valid, fires, control_count, Control, control_at, controls_below, controls_of, met, all_met}
use Rattle.circuit.proofs.lemmas.gate.Valid.{Valid, valid_facts, valid_apart}
use Rattle.circuit.proofs.lemmas.gate.Effect.{fires_lines, lines_fires}

pub met_none : (s : ℕ) → all_met s [] ≡ true
unfolding all_met
met_none s = refl

pub met_one : (s : ℕ) (c : Control) → all_met s (c ∷ []) ≡ met s c
unfolding all_met
met_one s c = and-true (met s c)

pub met_next : (s : ℕ) (c : Control) (cs : List Control) → all_met s (c ∷ cs) ≡ (met s c && all_met s cs)
unfolding all_met
met_next s c cs = refl

pub met_append : (s : ℕ) (xs ys : List Control) → all_met s (xs ++ ys) ≡ (all_met s xs && all_met s ys)
unfolding all_met
met_append s [] ys = refl
met_append s (x ∷ xs) ys = ap (λ (b : Bool). met s x && b) (met_append s xs ys) ∙ sym (and_assoc (met s x) (all_met s xs) (all_met s ys))

-- a line whose controls are met
pub record LineMet (g : Gate) (s k : ℕ) : Type 0 where
  pub on : bit g.positive k ≡ true → bit s k ≡ true
  pub off : bit g.negative k ≡ true → bit s k ≡ false

-- the controls of one line, by the digits p and q of the two masks
abbrev on_line : ℕ → Bool → Bool → List Control
on_line k p q = cond p (record { line = k; positive = true } ∷ []) (cond q (record { line = k; positive = false } ∷ []) [])

-- one for a line at most
few_line : (k : ℕ) (p q : Bool) → length (on_line k p q) ≤ 1
few_line k true q = omega arith
few_line k false true = omega arith
few_line k false false = omega arith

pub few_controls : (n : ℕ) (g : Gate) → length (controls_below n g) ≤ n
unfolding controls_below
few_controls zero g = omega arith
few_controls (suc n) g =
    omega (arith, length-append (controls_below n g) (control_at g n), few_controls n g, few_line n (bit g.positive n) (bit g.negative n))

line_met : (s k : ℕ) (p q : Bool) → (p ≡ true → q ≡ false) → all_met s (on_line k p q) ≡ true → (p ≡ true → bit s k ≡ true) × (q ≡ true → bit s k ≡ false)
unfolding all_met
line_met s k true q h e = ((λ x. (and_parts (bit s k) true e).0), (λ x. absurd (true≢false (sym x ∙ h refl))))
line_met s k false true h e = ((λ x. absurd (false≢true x)), (λ x. not-true (bit s k) (and_parts (not (bit s k)) true e).0))
line_met s k false false h e = ((λ x. absurd (false≢true x)), (λ x. absurd (false≢true x)))

met_line : (s k : ℕ) (p q : Bool) → (p ≡ true → bit s k ≡ true) → (q ≡ true → bit s k ≡ false) → all_met s (on_line k p q) ≡ true
unfolding all_met
met_line s k true q f g = both (f refl) refl
met_line s k false true f g = both (ap not (g refl)) refl
met_line s k false false f g = refl

-- the controls below n are met exactly where those of each line are
below_met : (g : Gate) (s : ℕ) → ((k : ℕ) → bit g.positive k ≡ true → bit g.negative k ≡ false)
    → (n : ℕ) → all_met s (controls_below n g) ≡ true → (k : ℕ) → k < n → LineMet g s k
unfolding controls_below
below_met g s h zero e k l = absurd (omega arith)
below_met g s h (suc n) e k l =
    let (a, b) = and_parts (all_met s (controls_below n g)) (all_met s (control_at g n)) (sym (met_append s (controls_below n g) (control_at g n)) ∙ e) in
    either (ltb k n)
    (λ t. below_met g s h n a k (ltb-true k n t))
    (λ t.
    let f : k ≡ n = omega (arith, ltb-false k n t) in
    let (x, y) = line_met s n (bit g.positive n) (bit g.negative n) (h n) b in
    record {
      on = λ p. ap (bit s) f ∙ x (sym (ap (bit g.positive) f) ∙ p);
      off = λ q. ap (bit s) f ∙ y (sym (ap (bit g.negative) f) ∙ q);
    })

met_below : (g : Gate) (s n : ℕ) → ((k : ℕ) → k < n → LineMet g s k) → all_met s (controls_below n g) ≡ true
unfolding controls_below all_met
met_below g s zero f = refl
met_below g s (suc n) f =
    let l = f n (omega arith) in
    met_append s (controls_below n g) (control_at g n)
    ∙ both (met_below g s n (λ k h. f k (omega arith))) (met_line s n (bit g.positive n) (bit g.negative n) l.on l.off)

-- a gate fires exactly where all its controls are met
pub controls_fire : (g : Gate) (s : ℕ) → valid max_lines g ≡ true → fires g s ≡ all_met s (controls_of g)
controls_fire g s e =
    let v = valid_facts max_lines g e in
    same_test (fires g s) (all_met s (controls_of g))
    (λ f.
    let l = fires_lines g s f in
    met_below g s max_lines (λ k h. record { on = l.on k; off = l.off k }))
    (λ m.
    let l = below_met g s (valid_apart max_lines g v) max_lines m in
    lines_fires g s
    (record {
      on = λ k p. either (ltb k max_lines) (λ t. (l k (ltb-true k max_lines t)).on p)
          (λ t. absurd (false≢true (sym (bit_above max_lines g.positive k v.positive_below (ltb-false k max_lines t)) ∙ p)));
      off = λ k q. either (ltb k max_lines) (λ t. (l k (ltb-true k max_lines t)).off q)
          (λ t. absurd (false≢true (sym (bit_above max_lines g.negative k v.negative_below (ltb-false k max_lines t)) ∙ q)));
    }))

line_count : (k : ℕ) (p q : Bool) → (p ≡ true → q ≡ false) → length (on_line k p q) ≡ length (cond p (k ∷ []) []) + length (cond q (k ∷ []) [])
line_count k true true h = absurd (true≢false (h refl))
line_count k true false h = refl
line_count k false true h = refl
line_count k false false h = refl

below_count : (g : Gate) → ((k : ℕ) → bit g.positive k ≡ true → bit g.negative k ≡ false)
    → (n : ℕ) → length (controls_below n g) ≡ length (lines_in g.positive n) + length (lines_in g.negative n)
unfolding controls_below lines_in
below_count g h zero = refl
below_count g h (suc n) =
    let p = bit g.positive n in
    let q = bit g.negative n in
    let a = length-append (controls_below n g) (control_at g n) in
    let b = length-append (lines_in g.positive n) (cond p (n ∷ []) []) in
    let d = length-append (lines_in g.negative n) (cond q (n ∷ []) []) in
    omega (arith, a, b, d, below_count g h n, line_count n p q (h n))

-- as many controls as set bits in both masks
pub controls_count : (g : Gate) → valid max_lines g ≡ true → length (controls_of g) ≡ control_count g
unfolding control_count
controls_count g e =
    let v = valid_facts max_lines g e in
    below_count g (valid_apart max_lines g v) max_lines
    ∙ ap₂ ◌+◌ (lines_ones max_lines g.positive v.positive_below) (lines_ones max_lines g.negative v.negative_below)

-- the control on a line that stands in one of the masks
abbrev pub control_on : ℕ → ℕ → Control
control_on positive k = record { line = k; positive = bit positive k }

-- the controls by the lines of both masks
pub controls_lines : (g : Gate) (n : ℕ) → controls_below n g ≡ map (control_on g.positive) (lines_in (bit_or g.positive g.negative) n)
unfolding controls_below lines_in
controls_lines g zero = refl
controls_lines g (suc n) =
    let f = control_on g.positive in
    let lines = bit_or g.positive g.negative in
    ap₂ (λ (x y : List Control). x ++ y) (controls_lines g n)
    (one f n (bit g.positive n) (bit g.negative n) refl ∙ ap (λ (b : Bool). map f (cond b (n ∷ []) [])) (sym (bit-or g.positive g.negative n)))
    ∙ sym (map-append f (lines_in lines n) (cond (bit lines n) (n ∷ []) []))
  where
    one : (f : ℕ → Control) (k : ℕ) (p q : Bool) → f k ≡ record { line = k; positive = p } → on_line k p q ≡ map f (cond (p || q) (k ∷ []) [])
    one f k true q e = ap (λ (c : Control). c ∷ []) (sym e)
    one f k false true e = ap (λ (c : Control). c ∷ []) (sym e)
    one f k false false e = refl

-- a line at n or above has no control
no_control : (n : ℕ) (g : Gate) (k : ℕ) → Valid n g → n ≤ k → controls_below (suc k) g ≡ controls_below k g
unfolding controls_below
no_control n g k v h =
    ap₂ (λ (p q : Bool). controls_below k g ++ on_line k p q) (bit_above n g.positive k v.positive_below h) (bit_above n g.negative k v.negative_below h)
    ∙ append-nil (controls_below k g)

-- so the controls of a gate on n lines are those below n
pub controls_below_lem : (n : ℕ) (g : Gate) → n ≤ max_lines → valid n g ≡ true → controls_of g ≡ controls_below n g
controls_below_lem n g l e =
    let v = valid_facts n g e in
    le_ind (λ (k : ℕ). controls_below k g ≡ controls_below n g) refl (λ k h ih. no_control n g k v h ∙ ih) max_lines l

-- The laws of what stands at a position of a text: the field there, the fields and the line from there on. Assumes nothing.
use Rattle.std.proofs.Common.{◌≡◌, ℕ, zero, suc, ◌+◌, ◌-◌, ◌*◌, ◌<◌, ◌≤◌, Bool, true, false, not, ◌&&◌, ◌||◌, eqb, ltb, leb, List, [], ◌∷◌, ◌++◌, Option, None, Some, length, get_or, take, drop, sym, refl, ap, ◌∙◌, ap₂, true≢false, arith, get_or-drop, ltb-false, ltb-true, le-ltb, lt-ltb, eq-eqb, ne_eqb, eqb-true, le-leb, leb-true, length-drop, drop-drop, take_all}
use mathlib.Core.Bool.{false≢true}
use borrow.Author.Tests.{lt-leb}
use Rattle.std.specs.List.{starts_with}
use Rattle.std.proofs.lemmas.Bool.Decides.{Decides-eqb}
use Rattle.std.proofs.lemmas.Slice.Eq.{starts_is}
use Rattle.bits.proofs.Bools.{either, and_parts, both, cond-true, cond-false, table₂}
use Rattle.circuit.specs.Outcome.{Outcome, served, refused, and_then}
use Rattle.circuit.specs.Refusal.{wrong_form, line_outside}
use Rattle.circuit.specs.Text.{tab, line_feed, plus_sign, minus_sign}
use Rattle.circuit.specs.File.{is_digit, number_of, line_of, control_of}
use Rattle.circuit.specs.declared.file.scan.Numeral.{Numeral}
use Rattle.circuit.specs.private.Scan.{is_stop, field_at, width, numeral_at, line_next, control_next}
use Rattle.circuit.proofs.lemmas.Outcome.{unserved, demand_met, demand_failed, then_served, then_refused, then_both, then_fails}
use Rattle.circuit.proofs.lemmas.file.Numbers.{number_else, number_wrong}

-- ---- a byte

-- what an element is does not depend on what stands for a missing one
pub default_any : {A : Type 0} (l : List A) (i : ℕ) (d e : A) → i < length l → get_or l i d ≡ get_or l i e
default_any [] i d e h = absurd (omega arith)
default_any (x ∷ l) zero d e h = refl
default_any (x ∷ l) (suc i) d e h = default_any l i d e (omega arith)

-- the byte k places after a position
pub byte_after : (text : List ℕ) (at k : ℕ) → get_or text (at + k) 10 ≡ get_or (drop at text) k 10
byte_after text at k = sym (get_or-drop at text k 10)

pub byte_at : (text : List ℕ) (at : ℕ) → get_or text at 10 ≡ get_or (drop at text) 0 10
byte_at text at = let e : at ≡ at + 0 = omega arith in ap (λ (k : ℕ). get_or text k 10) e ∙ byte_after text at 0

pub width_short : (k : ℕ) → k < 10 → width k ≡ 1
width_short k h = cond-false (leb 10 k) 2 1 (lt-leb 10 k h)

pub width_long : (k : ℕ) → 10 ≤ k → width k ≡ 2
width_long k h = cond-true (leb 10 k) 2 1 (le-leb 10 k h)

pub width_two : (k : ℕ) → width k ≤ 2
width_two k =
    either (ltb k 10) (λ t. omega (arith, width_short k (ltb-true k 10 t))) (λ t. omega (arith, width_long k (ltb-false k 10 t)))

-- ---- the field at the start of a text

pub field_more : (b : ℕ) (r : List ℕ) → is_stop b ≡ false → field_at (b ∷ r) ≡ b ∷ field_at r
unfolding field_at
field_more b r e = cond-false (is_stop b) _ _ e

pub field_stop : (b : ℕ) (r : List ℕ) → is_stop b ≡ true → field_at (b ∷ r) ≡ []
unfolding field_at
field_stop b r e = cond-true (is_stop b) _ _ e

pub field_none : field_at [] ≡ []
unfolding field_at
field_none = refl

-- a byte that ends a field, or the end of the text
pub field_empty : (r : List ℕ) → is_stop (get_or r 0 10) ≡ true → field_at r ≡ []
field_empty [] e = field_none
field_empty (b ∷ r) e = field_stop b r e

pub digit_more : (b : ℕ) → is_digit b ≡ true → is_stop b ≡ false
digit_more b e =
    let (x, y) = and_parts (leb 48 b) (leb b 57) e in
    let l : 48 ≤ b = leb-true 48 b x in
    ap₂ ◌||◌ (ne_eqb b tab (λ q. omega arith)) (ne_eqb b line_feed (λ q. omega arith))

pub digit_low : (b : ℕ) → is_digit b ≡ true → 48 ≤ b
digit_low b e = let (x, y) = and_parts (leb 48 b) (leb b 57) e in leb-true 48 b x

pub digit_high : (b : ℕ) → is_digit b ≡ true → b ≤ 57
digit_high b e = let (x, y) = and_parts (leb 48 b) (leb b 57) e in leb-true b 57 y

-- ---- the number there, by its first three bytes

abbrev number_at : ℕ → List ℕ → Option Numeral
number_at at r = numeral_at at (number_of 0 (field_at r))

-- a field whose first byte is no digit
no_digit : (at a : ℕ) (f : List ℕ) → is_digit a ≡ false → numeral_at at (number_of 0 (a ∷ f)) ≡ None
unfolding number_of
no_digit at a [] e = ap (numeral_at at) (demand_failed _ _ _ _ e)
no_digit at a (b ∷ []) e = ap (numeral_at at) (demand_failed _ _ _ _ (ap (λ (x : Bool). x && (is_digit b && not (eqb a 48))) e))
no_digit at a (b ∷ d ∷ f) e = refl

first_none : (at : ℕ) (r : List ℕ) → is_digit (get_or r 0 10) ≡ false → None ≡ number_at at r
unfolding number_of
first_none at [] e = sym (ap (λ (f : List ℕ). numeral_at at (number_of 0 f)) field_none)
first_none at (a ∷ r) e =
    sym (either (is_stop a)
    (λ s. ap (λ (f : List ℕ). numeral_at at (number_of 0 f)) (field_stop a r s))
    (λ s. ap (λ (f : List ℕ). numeral_at at (number_of 0 f)) (field_more a r s) ∙ no_digit at a (field_at r) e))

-- the number k, in a field of so many bytes
numeral : (at k w : ℕ) → width k ≡ w → Some (record { value = k; next = at + w }) ≡ numeral_at at (served k)
numeral at k w e = ap (λ (x : ℕ). Some (record { value = k; next = at + x })) (sym e)

one_digit : (at : ℕ) (r : List ℕ) → is_digit (get_or r 0 10) ≡ true → is_stop (get_or r 1 10) ≡ true
    → Some (record { value = get_or r 0 10 - 48; next = at + 1 }) ≡ number_at at r
unfolding number_of
one_digit at [] e s = absurd (false≢true e)
one_digit at (a ∷ r) e s =
    numeral at (a - 48) 1 (width_short (a - 48) (omega (arith, digit_low a e, digit_high a e)))
    ∙ sym (ap (λ (f : List ℕ). numeral_at at (number_of 0 f)) (field_more a r (digit_more a e) ∙ ap (λ (f : List ℕ). a ∷ f) (field_empty r s))
    ∙ ap (numeral_at at) (demand_met _ _ _ _ e))

-- two bytes at least
two_bytes : (a : ℕ) (r : List ℕ) → is_digit a ≡ true → is_stop (get_or r 0 10) ≡ false → field_at (a ∷ r) ≡ a ∷ get_or r 0 10 ∷ field_at (drop 1 r)
two_bytes a [] e s = absurd (true≢false s)
two_bytes a (b ∷ r) e s = field_more a (b ∷ r) (digit_more a e) ∙ ap (λ (f : List ℕ). a ∷ f) (field_more b r s)

-- a field of two bytes at least that is no number
two_wrong : (at a b : ℕ) (f : List ℕ) → (is_digit a && (is_digit b && not (eqb a 48))) ≡ false → numeral_at at (number_of 0 (a ∷ b ∷ f)) ≡ None
unfolding number_of
two_wrong at a b [] e = ap (numeral_at at) (demand_failed _ _ _ _ e)
two_wrong at a b (d ∷ f) e = refl

and_last : (a b : Bool) → (a && (b && false)) ≡ false
and_last = table₂ _ _ refl

and_middle : (a c : Bool) → (a && (false && c)) ≡ false
and_middle = table₂ _ _ refl

zero_none : (at : ℕ) (r : List ℕ) → is_digit (get_or r 0 10) ≡ true → is_stop (get_or r 1 10) ≡ false → get_or r 0 10 ≡ 48 → None ≡ number_at at r
zero_none at [] e s z = absurd (false≢true e)
zero_none at (a ∷ r) e s z =
    sym (ap (λ (f : List ℕ). numeral_at at (number_of 0 f)) (two_bytes a r e s)
    ∙ two_wrong at a (get_or r 0 10) (field_at (drop 1 r))
    (ap (λ (x : Bool). is_digit a && (is_digit (get_or r 0 10) && not x)) (eq-eqb a 48 z) ∙ and_last (is_digit a) (is_digit (get_or r 0 10))))

second_none : (at : ℕ) (r : List ℕ) → is_digit (get_or r 0 10) ≡ true → is_stop (get_or r 1 10) ≡ false → is_digit (get_or r 1 10) ≡ false → None ≡ number_at at r
second_none at [] e s z = absurd (false≢true e)
second_none at (a ∷ r) e s z =
    sym (ap (λ (f : List ℕ). numeral_at at (number_of 0 f)) (two_bytes a r e s)
    ∙ two_wrong at a (get_or r 0 10) (field_at (drop 1 r))
    (ap (λ (x : Bool). is_digit a && (x && not (eqb a 48))) z ∙ and_middle (is_digit a) (not (eqb a 48))))

-- a third byte in the field
three_wrong : (at a b : ℕ) (f : List ℕ) → (f ≡ [] → ⊥) → numeral_at at (number_of 0 (a ∷ b ∷ f)) ≡ None
unfolding number_of
three_wrong at a b [] h = absurd (h refl)
three_wrong at a b (d ∷ f) h = refl

goes_on_lem : (r : List ℕ) → is_stop (get_or r 0 10) ≡ false → field_at r ≡ [] → ⊥
goes_on_lem [] s e = true≢false s
goes_on_lem (b ∷ r) s e = mathlib.Core.List.cons≢nil (sym (field_more b r s) ∙ e)

third_none : (at : ℕ) (r : List ℕ) → is_digit (get_or r 0 10) ≡ true → is_stop (get_or r 1 10) ≡ false → is_stop (get_or r 2 10) ≡ false → None ≡ number_at at r
third_none at [] e s z = absurd (false≢true e)
third_none at (a ∷ []) e s z = absurd (true≢false s)
third_none at (a ∷ b ∷ r) e s z =
    sym (ap (λ (f : List ℕ). numeral_at at (number_of 0 f)) (two_bytes a (b ∷ r) e s) ∙ three_wrong at a b (field_at r) (goes_on_lem r z))

both_digits : (at : ℕ) (r : List ℕ) → is_digit (get_or r 0 10) ≡ true → is_stop (get_or r 1 10) ≡ false → is_digit (get_or r 1 10) ≡ true → (get_or r 0 10 ≡ 48 → ⊥) → is_stop (get_or r 2 10) ≡ true
    → Some (record { value = 10 * (get_or r 0 10 - 48) + (get_or r 1 10 - 48); next = at + 2 }) ≡ number_at at r
unfolding number_of
both_digits at [] e s d h z = absurd (false≢true e)
both_digits at (a ∷ []) e s d h z = absurd (true≢false s)
both_digits at (a ∷ b ∷ r) e s d h z =
    numeral at (10 * (a - 48) + (b - 48)) 2 (width_long (10 * (a - 48) + (b - 48)) (omega (arith, digit_low a e, h)))
    ∙ sym (ap (λ (f : List ℕ). numeral_at at (number_of 0 f)) (two_bytes a (b ∷ r) e s ∙ ap (λ (f : List ℕ). a ∷ b ∷ f) (field_empty r z))
    ∙ ap (numeral_at at) (demand_met _ _ _ _ (both e (both d (ap not (ne_eqb a 48 h))))))

-- by the bytes a, b and d at a position and after it
module _ (text : List ℕ) (at a : ℕ) (is_a : a ≡ get_or text at 10) where
  byte_a : a ≡ get_or (drop at text) 0 10
  byte_a = is_a ∙ byte_at text at

  pub number_first : is_digit a ≡ false → None ≡ numeral_at at (number_of 0 (field_at (drop at text)))
  number_first e = first_none at (drop at text) (sym (ap is_digit byte_a) ∙ e)

  module _ (digit_a : is_digit a ≡ true) (b : ℕ) (is_b : b ≡ get_or text (at + 1) 10) where
    low : is_digit (get_or (drop at text) 0 10) ≡ true
    low = sym (ap is_digit byte_a) ∙ digit_a

    byte_b : b ≡ get_or (drop at text) 1 10
    byte_b = is_b ∙ byte_after text at 1

    pub number_one : is_stop b ≡ true → Some (record { value = a - 48; next = at + 1 }) ≡ numeral_at at (number_of 0 (field_at (drop at text)))
    number_one e =
        ap (λ (x : ℕ). Some (record { value = x - 48; next = at + 1 })) byte_a ∙ one_digit at (drop at text) low (sym (ap is_stop byte_b) ∙ e)

    module _ (more : is_stop b ≡ false) where
      goes : is_stop (get_or (drop at text) 1 10) ≡ false
      goes = sym (ap is_stop byte_b) ∙ more

      pub number_zero : a ≡ 48 → None ≡ numeral_at at (number_of 0 (field_at (drop at text)))
      number_zero e = zero_none at (drop at text) low goes (sym byte_a ∙ e)

      pub number_second : is_digit b ≡ false → None ≡ numeral_at at (number_of 0 (field_at (drop at text)))
      number_second e = second_none at (drop at text) low goes (sym (ap is_digit byte_b) ∙ e)

      module _ (d : ℕ) (is_d : d ≡ get_or text (at + 2) 10) where
        byte_d : d ≡ get_or (drop at text) 2 10
        byte_d = is_d ∙ byte_after text at 2

        pub number_third : is_stop d ≡ false → None ≡ numeral_at at (number_of 0 (field_at (drop at text)))
        number_third e = third_none at (drop at text) low goes (sym (ap is_stop byte_d) ∙ e)

        pub number_two : (a ≡ 48 → ⊥) → is_digit b ≡ true → is_stop d ≡ true
            → Some (record { value = 10 * (a - 48) + (b - 48); next = at + 2 }) ≡ numeral_at at (number_of 0 (field_at (drop at text)))
        number_two z e s =
            ap₂ (λ (x y : ℕ). Some (record { value = 10 * (x - 48) + (y - 48); next = at + 2 })) byte_a byte_b
            ∙ both_digits at (drop at text) low goes (sym (ap is_digit byte_b) ∙ e) (λ y. z (byte_a ∙ y)) (sym (ap is_stop byte_d) ∙ s)

pub ruleset number_rules = (number_first, number_one, number_zero, number_second, number_third, number_two)

-- ---- the target or control line there

-- a field that is no number, in line i
pub number_none : (i at : ℕ) (f : List ℕ) → None ≡ numeral_at at (number_of 0 f) → number_of i f ≡ refused wrong_form i
number_none i at f e = go (number_of i f) refl
  where
    go : (o : Outcome ℕ) → number_of i f ≡ o → number_of i f ≡ refused wrong_form i
    go (served k) q = let z : None ≡ numeral_at at (served k) = e ∙ ap (numeral_at at) (number_else i 0 f k q) in absurd (cc)
    go (refused number place) q = number_wrong i f number place q

-- a field that is one
pub number_told : (i at : ℕ) (f : List ℕ) (m : Numeral) → Some m ≡ numeral_at at (number_of 0 f) → (number_of i f ≡ served m.value) × (m.next ≡ at + width m.value)
number_told i at f m e = go (number_of 0 f) refl
  where
    go : (o : Outcome ℕ) → number_of 0 f ≡ o → (number_of i f ≡ served m.value) × (m.next ≡ at + width m.value)
    go (served k) q =
        let z : Some m ≡ numeral_at at (served k) = e ∙ ap (numeral_at at) q in
        let x : m ≡ record { value = k; next = at + width k } = cc in
        let v : m.value ≡ k = ap (λ (n : Numeral). n.value) x in
        (number_else 0 i f k q ∙ ap served (sym v), ap (λ (n : Numeral). n.next) x ∙ ap (λ (j : ℕ). at + width j) (sym v))
    go (refused number place) q = let z : Some m ≡ numeral_at at (refused number place) = e ∙ ap (numeral_at at) q in absurd (cc)

pub line_wrong : (n i at : ℕ) (f : List ℕ) → None ≡ numeral_at at (number_of 0 f) → line_next n i at f ≡ refused wrong_form i
unfolding line_of
line_wrong n i at f e = then_refused _ _ wrong_form i (then_refused _ _ wrong_form i (number_none i at f e))

pub line_outside_lem : (n i at : ℕ) (f : List ℕ) (m : Numeral) → Some m ≡ numeral_at at (number_of 0 f) → n ≤ m.value → line_next n i at f ≡ refused line_outside i
unfolding line_of
line_outside_lem n i at f m e l =
    then_refused _ _ line_outside i (then_served _ _ m.value (number_told i at f m e).0 ∙ demand_failed _ _ _ _ (le-ltb m.value n l))

pub line_good : (n i at : ℕ) (f : List ℕ) (m : Numeral) → Some m ≡ numeral_at at (number_of 0 f) → m.value < n → line_next n i at f ≡ served m
unfolding line_of
line_good n i at f m e l =
    let t = number_told i at f m e in
    then_served _ _ m.value (then_served _ _ m.value t.0 ∙ demand_met _ _ _ _ (lt-ltb m.value n l))
    ∙ ap (λ (k : ℕ). served (record { value = m.value; next = k })) (sym t.1)

pub ruleset line_rules = (line_wrong, line_outside_lem, line_good)

-- ---- the control there

sign_more : (s : ℕ) → (eqb s plus_sign || eqb s minus_sign) ≡ true → is_stop s ≡ false
sign_more s e =
    either (eqb s plus_sign)
    (λ t. ap is_stop (eqb-true s plus_sign t))
    (λ t. ap is_stop (eqb-true s minus_sign (sym (ap (λ (b : Bool). b || eqb s minus_sign) t) ∙ e)))

unsigned : (n i : ℕ) (r : List ℕ) → (eqb (get_or r 0 10) plus_sign || eqb (get_or r 0 10) minus_sign) ≡ false → control_of n i (field_at r) ≡ refused wrong_form i
unfolding control_of
unsigned n i [] e = ap (control_of n i) field_none
unsigned n i (s ∷ r) e =
    either (is_stop s)
    (λ t. ap (control_of n i) (field_stop s r t))
    (λ t. ap (control_of n i) (field_more s r t) ∙ demand_failed _ _ _ _ e)

signed : (n i : ℕ) (r : List ℕ) → (eqb (get_or r 0 10) plus_sign || eqb (get_or r 0 10) minus_sign) ≡ true
    → control_of n i (field_at r) ≡ and_then (line_of n i (field_at (drop 1 r))) (λ k. served (record { line = k; positive = eqb (get_or r 0 10) plus_sign }))
unfolding control_of
signed n i [] e = absurd (false≢true e)
signed n i (s ∷ r) e = ap (control_of n i) (field_more s r (sign_more s e)) ∙ demand_met _ _ _ _ e

-- by the byte s at a position
module _ (n i : ℕ) (text : List ℕ) (at s : ℕ) (is : s ≡ get_or text at 10) where
  first : s ≡ get_or (drop at text) 0 10
  first = is ∙ byte_at text at

  pub control_unsigned : (eqb s plus_sign || eqb s minus_sign) ≡ false → control_next n i at (field_at (drop at text)) ≡ refused wrong_form i
  control_unsigned e =
      then_refused _ _ wrong_form i (unsigned n i (drop at text) (sym (ap (λ (b : ℕ). eqb b plus_sign || eqb b minus_sign) first) ∙ e))

  module _ (e : (eqb s plus_sign || eqb s minus_sign) ≡ true) where
    there : (eqb (get_or (drop at text) 0 10) plus_sign || eqb (get_or (drop at text) 0 10) minus_sign) ≡ true
    there = sym (ap (λ (b : ℕ). eqb b plus_sign || eqb b minus_sign) first) ∙ e

    control_signed : control_of n i (field_at (drop at text)) ≡ and_then (line_of n i (field_at (drop (at + 1) text))) (λ k. served (record { line = k; positive = eqb s plus_sign }))
    control_signed =
        signed n i (drop at text) there
        ∙ ap₂ (λ (r : List ℕ) (b : ℕ). and_then (line_of n i (field_at r)) (λ k. served (record { line = k; positive = eqb b plus_sign }))) (drop-drop 1 at text) (sym first)

    pub control_refused : (number place : ℕ) → line_next n i (at + 1) (field_at (drop (at + 1) text)) ≡ refused number place
        → control_next n i at (field_at (drop at text)) ≡ refused number place
    control_refused number place q =
        then_refused _ _ number place (control_signed ∙ then_refused _ _ number place (then_fails _ _ number place q))

    pub control_good : (m : Numeral) → line_next n i (at + 1) (field_at (drop (at + 1) text)) ≡ served m
        → control_next n i at (field_at (drop at text)) ≡ served (record { line = m.value; positive = eqb s plus_sign; next = m.next })
    control_good m q =
        let (k, a, b) = then_both (line_of n i (field_at (drop (at + 1) text))) _ m q in
        let x : record { value = k; next = at + 1 + width k } ≡ m = unserved b in
        then_served _ _ (record { line = k; positive = eqb s plus_sign }) (control_signed ∙ then_served _ _ k a)
        ∙ ap (λ (y : Numeral). served (record { line = y.value; positive = eqb s plus_sign; next = y.next })) x

pub ruleset control_rules = (control_unsigned, control_refused, control_good)

-- ---- a text that starts with a word

pub starts_true : (w r : List ℕ) → starts_with eqb r w ≡ true → r ≡ w ++ drop (length w) r
starts_true w r e = (starts_is Decides-eqb r w (starts_with eqb r w) refl).0 e

pub true_starts : (w r : List ℕ) → starts_with eqb (w ++ r) w ≡ true
true_starts w r = (starts_is Decides-eqb (w ++ r) w (starts_with eqb (w ++ r) w) refl).1 r refl

-- the text from a position on, as a slice
pub starts_there : (text : List ℕ) (at : ℕ) (w : List ℕ) → starts_with eqb (take (length text - at) (drop at text)) w ≡ starts_with eqb (drop at text) w
starts_there text at w = ap (λ (x : List ℕ). starts_with eqb x w) (take_all (length text - at) (drop at text) (omega (arith, length-drop at text)))

-- The controls of two masks are those on lines below 10, then those from 10 on. Assumes nothing.
use Rattle.std.proofs.Common.{◌≡◌, ℕ, ◌+◌, ◌/◌, ◌%◌, ◌^◌, ◌<◌, Bool, List, [], ◌∷◌, ◌++◌, map, length, sym, refl, ap, ◌∙◌, ap₂, arith, length-append, mod-lt, pow_pos, div-lt_iff_lt-mul}
use Rattle.std.specs.List.{flat_map}
use Rattle.std.proofs.lemmas.Nat.{and_mask}
use Rattle.std.proofs.lemmas.List.Concat.{flat_map-append}
use Rattle.std.proofs.lemmas.List.Folds.{flat_map-map}
use lib.Bits.{bit_and, bit_or, or_lt}
use Rattle.bits.specs.Digits.{lines_in}
use Rattle.bits.proofs.Digits.{bit_low, bit_shifted}
use Rattle.bits.proofs.Lowest.{lines_none}
use Rattle.circuit.specs.Gate.{max_lines, controls_of}
use Rattle.circuit.specs.Text.{tab, digit, number_text, control_text, controls_text}
use Rattle.circuit.specs.private.Put.{mask_gate, control_piece, high_piece, low_controls, high_controls}
use Rattle.circuit.proofs.lemmas.file.Groups.{lines_same, lines_within_lines, texts_same}
use Rattle.circuit.proofs.lemmas.file.Numbers.{text_long}
use Rattle.circuit.proofs.lemmas.file.put.Laws.{lines_from_10, mask_text}

-- the texts of the lines of a mask, by a mask of those below 10 and one of those from 10 on
mask_cut : (f g : ℕ → List ℕ) (x : ℕ) → ((k : ℕ) → f (10 + k) ≡ g k) → x < 2 ^ 64
    → flat_map f (lines_in x max_lines) ≡ flat_map f (lines_in (x % 2 ^ 10) max_lines) ++ flat_map g (lines_in (x / 2 ^ 10) max_lines)
mask_cut f g x shifted h =
    let y : ℕ = x / 2 ^ 10 in
    let low : lines_in (x % 2 ^ 10) max_lines ≡ lines_in x 10 =
    lines_within_lines (x % 2 ^ 10) 10 64 (mod-lt x (pow_pos 10)) (omega arith) ∙ lines_same (x % 2 ^ 10) x 10 (λ j l. bit_low 10 x j l) in
    let high : lines_in y max_lines ≡ lines_in y 54 =
    lines_within_lines y 54 64 ((div-lt_iff_lt-mul (pow_pos 10)).1 h) (omega arith) in
    ap (flat_map f) (lines_from_10 x 54)
    ∙ flat_map-append f (lines_in x 10) (map (λ (k : ℕ). 10 + k) (lines_in y 54))
    ∙ ap₂ (λ (l m : List ℕ). l ++ m) (ap (flat_map f) (sym low))
    (flat_map-map f (λ (k : ℕ). 10 + k) (lines_in y 54) ∙ texts_same (λ (k : ℕ). f (10 + k)) g y y 54 (λ j l. refl) (λ j l e. shifted j) ∙ ap (flat_map g) (sym high))

low_mask : (x : ℕ) → bit_and x 1023 ≡ x % 2 ^ 10
low_mask x = and_mask x 10

pub low_below : (x : ℕ) → bit_and x 1023 < 2 ^ 10
low_below x = omega (arith, low_mask x)

pub controls_cut : (p q : ℕ) → p < 2 ^ 64 → q < 2 ^ 64
    → controls_text (controls_of (mask_gate p q)) ≡ low_controls p (bit_and (bit_or p q) 1023) ++ high_controls (p / 2 ^ 10) (bit_or p q / 2 ^ 10)
controls_cut p q hp hq =
    mask_text p q
    ∙ mask_cut (control_piece p) (high_piece (p / 2 ^ 10)) (bit_or p q)
    (λ k. ap (λ (b : Bool). tab ∷ control_text (record { line = 10 + k; positive = b })) (sym (bit_shifted 10 p k))) (or_lt 64 p q hp hq)
    ∙ ap (λ (x : ℕ). low_controls p x ++ high_controls (p / 2 ^ 10) (bit_or p q / 2 ^ 10)) (sym (low_mask (bit_or p q)))

pub parts_long : (p q : ℕ) → p < 2 ^ 64 → q < 2 ^ 64
    → length (low_controls p (bit_and (bit_or p q) 1023)) + length (high_controls (p / 2 ^ 10) (bit_or p q / 2 ^ 10)) ≡ length (controls_text (controls_of (mask_gate p q)))
parts_long p q hp hq = sym (ap length (controls_cut p q hp hq) ∙ length-append (low_controls p (bit_and (bit_or p q) 1023)) (high_controls (p / 2 ^ 10) (bit_or p q / 2 ^ 10)))

-- no line has no control
pub controls_none : (p q : ℕ) → bit_or p q ≡ 0 → controls_text (controls_of (mask_gate p q)) ≡ []
controls_none p q z = mask_text p q ∙ ap (λ (x : ℕ). flat_map (control_piece p) (lines_in x max_lines)) z ∙ ap (flat_map (control_piece p)) (lines_none max_lines)

-- a number from 10 on has two digits
pub text_above : (k : ℕ) → number_text (10 + k) ≡ digit (1 + k / 10) ∷ digit (k % 10) ∷ []
text_above k =
    let a : (10 + k) / 10 ≡ 1 + k / 10 = omega arith in
    let b : (10 + k) % 10 ≡ k % 10 = omega arith in
    text_long (10 + k) (omega arith) ∙ ap₂ (λ (i j : ℕ). digit i ∷ digit j ∷ []) a b

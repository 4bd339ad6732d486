-- What the calls that make a list of words wide or narrow answer and leave. Assumes nothing.
use Rattle.std.proofs.Common.{◌≡◌, ℕ, true, false, ◌↔◌, List, length, ℤ, pos, negsuc, sym, ap, ◌∙◌, arith, true≢false, le-leb, leb-true}
use mir.Val.{SFits, to_z, of_z}
use mir.ValLaws.{to_z-of_z}
use mir.Syntax.{w16, w32}
use Rattle.bits.proofs.Bools.{not_held}
use Rattle.circuit.specs.Outcome.{served}
use Rattle.circuit.specs.Refusal.{word_too_wide}
use Rattle.checking.specs.Each.{each_from, Every}
use Rattle.checking.specs.Stored.{FitsWord}
use Rattle.checking.specs.Widths.{Narrow, is_narrow}
use Rattle.checking.proofs.lemmas.Each.{each_good}

-- ---- one word

pub narrow_word : (w : ℤ) → (is_narrow w ≡ true) ↔ Narrow w
narrow_word (pos v) = ((λ t. omega (arith, leb-true _ _ t)), (λ h. le-leb _ _ (omega arith)))
narrow_word (negsuc i) = ((λ t. omega (arith, leb-true _ _ t)), (λ h. le-leb _ _ (omega arith)))

wide_word : (w : ℤ) → (is_narrow w ≡ false) ↔ (Narrow w → ⊥)
wide_word w = (
  (λ e h. true≢false (sym ((narrow_word w).1 h) ∙ e)),
  (λ f. not_held (is_narrow w) (λ t. f ((narrow_word w).0 t))),
)

pub narrow_bits : (w : ℤ) → Narrow w ↔ SFits w16 w
narrow_bits (pos v) = ((λ h. record { sfits = omega arith }), (λ f. omega (arith, f.sfits)))
narrow_bits (negsuc i) = ((λ h. record { sfits = omega arith }), (λ f. omega (arith, f.sfits)))

pub word_bits : (w : ℤ) → FitsWord w ↔ SFits w32 w
word_bits (pos v) = ((λ h. record { sfits = omega arith }), (λ f. omega (arith, f.sfits)))
word_bits (negsuc i) = ((λ h. record { sfits = omega arith }), (λ f. omega (arith, f.sfits)))

-- 32 bits hold what 16 hold
narrow_wide : (w : ℤ) → Narrow w → FitsWord w
narrow_wide (pos v) h = omega arith
narrow_wide (negsuc i) h = omega arith

-- such a word in 32 bits, cut to 16, is itself
pub cut_same : (w : ℤ) → Narrow w → to_z w16 (of_z w16 (to_z w32 (of_z w32 w))) ≡ w
cut_same w h = ap (λ (z : ℤ). to_z w16 (of_z w16 z)) (to_z-of_z w32 w ((word_bits w).0 (narrow_wide w h))) ∙ to_z-of_z w16 w ((narrow_bits w).0 h)

-- ---- a list

pub all_narrow : (ws : List ℤ) (k : ℕ) → (each_from is_narrow word_too_wide 0 ws ≡ served k) ↔ ((k ≡ length ws) × Every Narrow ws)
all_narrow ws = each_good is_narrow word_too_wide (λ w. Unit {0}) _ (λ w. Narrow w → ⊥) (λ w u. narrow_word w) (λ w u. wide_word w) ws (λ j h d. tt)

-- The literals that are left, and whether there are any. Assumes nothing.
use mathlib.Core.Path.{◌≡◌, refl, sym, ap, ◌∙◌}
use mathlib.Core.List.{List, [], ◌∷◌, ◌++◌}
use Prim.Native.Nat.{ℕ, ◌+◌, ◌≤◌, ◌<◌}
use native.Mathlib.Numerals.{add-one}
use lib.IntN.{ℤ, pos}
use lib.ListN.{length, drop, get_or, drop_of_length-le}
use lib.Seq.{drop-cons}
use Rattle.text.specs.Dimacs.{blank, literal_text, literals_text, body_text}

pub literals_next : (ls : List ℤ) (i : ℕ) → i < length ls → literals_text (drop i ls) ≡ (literal_text (get_or ls i (pos 0)) ++ (blank ∷ [])) ++ literals_text (drop (i + 1) ls)
unfolding literals_text
literals_next ls i h =
    ap literals_text (drop-cons ls i (pos 0) h) ∙ ap (λ (n : ℕ). (literal_text (get_or ls i (pos 0)) ++ (blank ∷ [])) ++ literals_text (drop n ls)) (sym (add-one i))

pub literals_end : (ls : List ℤ) (i : ℕ) → length ls ≤ i → literals_text (drop i ls) ≡ []
unfolding literals_text
literals_end ls i h = ap literals_text (drop_of_length-le ls h)

-- the first of them as it is passed on
pub literals_step : (ls : List ℤ) (i : ℕ) → i < length ls → (z : ℤ) → z ≡ get_or ls i (pos 0) → literals_text (drop i ls) ≡ (literal_text z ++ (blank ∷ [])) ++ literals_text (drop (i + 1) ls)
literals_step ls i h z is = literals_next ls i h ∙ ap (λ (x : ℤ). (literal_text x ++ (blank ∷ [])) ++ literals_text (drop (i + 1) ls)) (sym is)

-- a clause with some
pub body_some : (ls : List ℤ) → (length ls ≡ 0 → ⊥) → body_text ls ≡ literals_text ls
body_some [] h = absurd (h refl)
body_some (l ∷ ls) h = refl

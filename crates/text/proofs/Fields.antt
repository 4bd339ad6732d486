-- A word and three numbers, tab-parted, tell these numbers. Assumes nothing.
use mathlib.Core.Path.{◌≡◌, refl, sym, ap, ◌∙◌}
use mathlib.Core.Bool.{true}
use mathlib.Core.List.{List, [], ◌∷◌, ◌++◌}
use mathlib.Core.Option.{some}
use Prim.Native.Nat.{ℕ}
use Rattle.bits.proofs.Lists.{free, free_append}
use Rattle.circuit.specs.File.{parted_by, fields_of}
use Rattle.circuit.specs.Text.{tab, line_feed}
use Rattle.circuit.proofs.Promises.{parts_cut, parts_one}
use Rattle.text.specs.Dimacs.{decimal, number_read}
use Rattle.text.specs.FileOutcome.{numbers_text, refused_word, refusal_text}
use Rattle.text.specs.Compare.{differ_word, differ_text}
use Rattle.text.proofs.Reading.{decimal_free, number_back}

decimal_apart : (j k : ℕ) → decimal j ≡ decimal k → j ≡ k
decimal_apart j k e = let f : some j ≡ some k = sym (number_back j) ∙ ap number_read e ∙ number_back k in cc

-- a number before an LF
abbrev closed : ℕ → List ℕ
closed k = decimal k ++ (line_feed ∷ [])

closed_apart : (j k : ℕ) → closed j ≡ closed k → j ≡ k
closed_apart j k e =
    let f : decimal j ∷ parted_by line_feed [] ≡ decimal k ∷ parted_by line_feed [] =
    sym (parts_cut line_feed (decimal j) [] (decimal_free line_feed j refl)) ∙ ap (parted_by line_feed) e ∙ parts_cut line_feed (decimal k) [] (decimal_free line_feed k refl) in
    let g : decimal j ≡ decimal k = cc in
    decimal_apart j k g

module _ (word : List ℕ) (h : free tab word ≡ true) where
  three_fields : (a b c : ℕ) → fields_of (word ++ (tab ∷ numbers_text a b c)) ≡ word ∷ decimal a ∷ decimal b ∷ closed c ∷ []
  three_fields a b c =
      parts_cut tab word _ h
      ∙ ap (λ (l : List (List ℕ)). word ∷ l)
      (parts_cut tab (decimal a) _ (decimal_free tab a refl)
      ∙ ap (λ (l : List (List ℕ)). decimal a ∷ l)
      (parts_cut tab (decimal b) _ (decimal_free tab b refl)
      ∙ ap (λ (l : List (List ℕ)). decimal b ∷ l)
      (parts_one tab (closed c) (free_append tab (decimal c) (line_feed ∷ []) (decimal_free tab c refl) end_free))))
    where
      end_free : free tab (line_feed ∷ []) ≡ true
      end_free = unfold free in refl

  three_apart : (a b c a' b' c' : ℕ) → word ++ (tab ∷ numbers_text a b c) ≡ word ++ (tab ∷ numbers_text a' b' c') → (a ≡ a') × (b ≡ b') × (c ≡ c')
  three_apart a b c a' b' c' e =
      let f : word ∷ decimal a ∷ decimal b ∷ closed c ∷ [] ≡ word ∷ decimal a' ∷ decimal b' ∷ closed c' ∷ [] =
      sym (three_fields a b c) ∙ ap fields_of e ∙ three_fields a' b' c' in
      let x : decimal a ≡ decimal a' = cc in
      let y : decimal b ≡ decimal b' = cc in
      let z : closed c ≡ closed c' = cc in
      (decimal_apart a a' x, decimal_apart b b' y, closed_apart c c' z)

-- ---- a refusal

refused_free : free tab refused_word ≡ true
refused_free = unfold free in refl

pub refusal_fields : (number file place : ℕ) → fields_of (refusal_text number file place) ≡ refused_word ∷ decimal number ∷ decimal file ∷ (decimal place ++ (line_feed ∷ [])) ∷ []
unfolding refusal_text
refusal_fields number file place = three_fields refused_word refused_free number file place

pub refusal_apart : (number file place number' file' place' : ℕ) → refusal_text number file place ≡ refusal_text number' file' place'
    → (number ≡ number') × (file ≡ file') × (place ≡ place')
unfolding refusal_text
refusal_apart number file place number' file' place' e = three_apart refused_word refused_free number file place number' file' place' e

-- ---- a difference

differ_free : free tab differ_word ≡ true
differ_free = unfold free in refl

pub differ_fields : (state first second : ℕ) → fields_of (differ_text state first second) ≡ differ_word ∷ decimal state ∷ decimal first ∷ (decimal second ++ (line_feed ∷ [])) ∷ []
unfolding differ_text
differ_fields state first second = three_fields differ_word differ_free state first second

pub differ_apart : (x y z k l m : ℕ) → differ_text x y z ≡ differ_text k l m → (x ≡ k) × (y ≡ l) × (z ≡ m)
unfolding differ_text
differ_apart x y z k l m e = three_apart differ_word differ_free x y z k l m e

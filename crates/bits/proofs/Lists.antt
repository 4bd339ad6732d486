-- The laws of `fold`, of `All`, of lists in which a number does not stand, of no element and of three in a row, and of `over`. Assumes nothing.
use mathlib.Core.Path.{◌≡◌, refl, sym, ap, ap₂, ◌∙◌}
use mathlib.Core.Bool.{Bool, true, not, ◌&&◌}
use mathlib.Core.List.{List, [], ◌∷◌, ◌++◌, reverse, reverse-cons, append_assoc, append-nil, map}
use Prim.Native.Nat.{ℕ, suc, ◌+◌, ◌-◌, ◌≤◌, ◌<◌}
use native.Mathlib.Nat.{le_of_eq, le_of_lt}
use native.Mathlib.Numerals.{add-one}
use native.Mathlib.Omega.{arith}
use lib.Dec.{eqb}
use lib.ListN.{length, take, drop, get_or, set, length-append, length-drop}
use lib.Seq.{take_at, drop_at, drop-drop, take_all, drop-length, drop-cons, set_at, append_snoc, take-suc, length-take-le}
use borrow.Rule.Slice.PartMut.{put_mid, Post-is}
use Rattle.bits.specs.Lists.{fold, All, over}
use Rattle.bits.proofs.Bools.{and_parts, both}

-- ---- folds

module _ {A S : Type 0} (act : A → S → S) where
  -- two lists in a row
  pub fold_append : (xs ys : List A) (s : S) → fold act (xs ++ ys) s ≡ fold act ys (fold act xs s)
  unfolding fold
  fold_append [] ys s = refl
  fold_append (x ∷ xs) ys s = fold_append xs ys (act x s)

  -- the reversed list undoes a fold in which each element undoes itself
  pub fold_back : ((x : A) (s : S) → act x (act x s) ≡ s) → (xs : List A) (s : S) → fold act (reverse xs) (fold act xs s) ≡ s
  unfolding fold
  fold_back undo [] s = refl
  fold_back undo (x ∷ xs) s =
      ap (λ (l : List A). fold act l (fold act xs (act x s))) (reverse-cons x xs)
      ∙ fold_append (reverse xs) (x ∷ []) (fold act xs (act x s))
      ∙ ap (act x) (fold_back undo xs (act x s))
      ∙ undo x s

-- ---- a property of every element

module _ {A : Type 0} (P : A → Type 0) where
  pub all_append : (xs ys : List A) → All P xs → All P ys → All P (xs ++ ys)
  all_append [] ys a b = b
  all_append (x ∷ xs) ys a b = (a.0, all_append xs ys a.1 b)

  pub all_split : (xs ys : List A) → All P (xs ++ ys) → All P xs × All P ys
  all_split [] ys a = (tt, a)
  all_split (x ∷ xs) ys a = let (b, c) = all_split xs ys a.1 in ((a.0, b), c)

  -- a property that follows from it, and one of the elements of a mapped list
  pub all_implies : (Q : A → Type 0) → ((x : A) → P x → Q x) → (xs : List A) → All P xs → All Q xs
  all_implies Q h [] a = tt
  all_implies Q h (x ∷ xs) a = (h x a.0, all_implies Q h xs a.1)

  pub all_map : {B : Type 0} (Q : B → Type 0) (f : A → B) → ((x : A) → P x → Q (f x)) → (xs : List A) → All P xs → All Q (map f xs)
  all_map Q f h [] a = tt
  all_map Q f h (x ∷ xs) a = (h x a.0, all_map Q f h xs a.1)

-- ---- a number that does not stand in a list

unfoldable pub free : ℕ → List ℕ → Bool
free s [] = true
free s (b ∷ bs) = not (eqb b s) && free s bs

pub free_append : (s : ℕ) (f g : List ℕ) → free s f ≡ true → free s g ≡ true → free s (f ++ g) ≡ true
unfolding free
free_append s [] g p q = q
free_append s (b ∷ f) g p q = let (x, y) = and_parts (not (eqb b s)) (free s f) p in both x (free_append s f g y q)

-- ---- no element, and two and three in a row

module _ {A : Type 0} where
  pub empty : (xs : List A) → length xs ≡ 0 → xs ≡ []
  empty [] e = refl
  empty (x ∷ xs) e = absurd (omega arith)

  pub two : (d : A) (xs : List A) (k : ℕ) → k + 1 < length xs → drop k xs ≡ get_or xs k d ∷ get_or xs (k + 1) d ∷ drop (k + 2) xs
  two d xs k h =
      let one : suc k ≡ k + 1 = omega arith in
      let end : suc (k + 1) ≡ k + 2 = omega arith in
      drop-cons xs k d (omega arith)
      ∙ ap (λ (l : List A). get_or xs k d ∷ l) (ap (λ (n : ℕ). drop n xs) one ∙ drop-cons xs (k + 1) d h ∙ ap (λ (n : ℕ). get_or xs (k + 1) d ∷ drop n xs) end)

  pub three : (d : A) (xs : List A) (k : ℕ) → k + 2 < length xs → drop k xs ≡ get_or xs k d ∷ get_or xs (k + 1) d ∷ get_or xs (k + 2) d ∷ drop (k + 3) xs
  three d xs k h =
      let end : suc (k + 2) ≡ k + 3 = omega arith in
      two d xs k (omega arith)
      ∙ ap (λ (l : List A). get_or xs k d ∷ get_or xs (k + 1) d ∷ l) (drop-cons xs (k + 2) d h ∙ ap (λ (n : ℕ). get_or xs (k + 2) d ∷ drop n xs) end)

-- ---- a buffer that is filled from its start

module _ {B : Type 0} where
  pub over_length : (front out : List B) → length front ≤ length out → length (over front out) ≡ length out
  over_length front out h = length-append front _ ∙ ap (λ (n : ℕ). length front + n) (length-drop (length front) out) ∙ omega arith

  -- the rest of the buffer is lent, and filled from its start
  pub over_more : (front new out : List B) (at : ℕ) → length front ≡ at
      → take at (over front out) ++ over new (drop at (over front out)) ≡ over (front ++ new) out
  over_more front new out at e =
      let n : ℕ = length front in
      ap₂ (λ (x y : List B). x ++ over new y) (take_at front (drop n out) at e) (drop_at front (drop n out) at e)
      ∙ ap (λ (r : List B). front ++ (new ++ r)) (drop-drop (length new) n out ∙ ap (λ (k : ℕ). drop k out) (sym (length-append front new)))
      ∙ sym (append_assoc front new _)

  -- the rest of a buffer, as `&mut out[at..]` lends it and as it comes back
  pub rest_lent : (xs : List B) (at : ℕ) → take (length xs - at) (drop at xs) ≡ drop at xs
  rest_lent xs at = take_all (length xs - at) (drop at xs) (le_of_eq (length-drop at xs))

  pub rest_back : (xs ys : List B) (at : ℕ) → at ≤ length xs → put_mid at (length xs - at) xs ys ≡ take at xs ++ ys
  rest_back xs ys at h =
      ap (λ (l : List B). take at xs ++ (ys ++ l)) (Post-is at (length xs) xs h ∙ drop-length xs) ∙ ap (λ (l : List B). take at xs ++ l) (append-nil ys)

  -- a callee that was lent the rest has filled it from its start with `new`
  pub lent_over : (front new first xs last : List B) (at : ℕ) → xs ≡ over front first → length front ≡ at → at ≤ length xs
      → last ≡ over new (take (length xs - at) (drop at xs)) → put_mid at (length xs - at) xs last ≡ over (front ++ new) first
  lent_over front new first xs last at e f h l =
      rest_back xs last at h
      ∙ ap (λ (y : List B). take at xs ++ y) (l ∙ ap (over new) (rest_lent xs at))
      ∙ ap (λ (y : List B). take at y ++ over new (drop at y)) e
      ∙ over_more front new first at f

  -- one element more is stored
  pub over_push : (front out : List B) (v : B) (at : ℕ) → length front ≡ at → at < length out → set (over front out) at v ≡ over (front ++ (v ∷ [])) out
  over_push front out v at e h =
      let n : ℕ = length front in
      let long : suc n ≡ length (front ++ (v ∷ [])) = sym (length-append front (v ∷ []) ∙ add-one n) in
      ap (λ (l : List B). set (front ++ l) at v) (drop-cons out n v (omega arith))
      ∙ set_at front (get_or out n v) (drop (suc n) out) v at e
      ∙ sym (append_snoc front v (drop (suc n) out))
      ∙ ap (λ (k : ℕ). (front ++ (v ∷ [])) ++ drop k out) long

  -- a prefix, stored element by element
  pub over_prefix : (src out : List B) (d : B) (i : ℕ) → i < length src → i < length out
      → set (over (take i src) out) i (get_or src i d) ≡ over (take (i + 1) src) out
  over_prefix src out d i h k =
      over_push (take i src) out (get_or src i d) i (length-take-le i src (le_of_lt h)) k
      ∙ ap (λ (l : List B). over l out) (sym (ap (λ (n : ℕ). take n src) (add-one i) ∙ take-suc src i d h))

-- The test of each element of a list: served exactly where all meet it, else refused at the first that does not. Assumes nothing.
use Rattle.std.proofs.Common.{◌≡◌, ℕ, zero, suc, ◌+◌, ◌<◌, Bool, true, false, not, cond, ltb, None, Some, position, ◌↔◌, List, [], ◌∷◌, length, get_or, sym, refl, ap, ◌∙◌, subst, arith}
use Rattle.std.specs.List.{prefix_len}
use Rattle.std.proofs.lemmas.Grind.{common_steps}
use Rattle.bits.proofs.Bools.{either}
use Rattle.circuit.specs.Outcome.{Outcome, served, refused, demand}
use Rattle.circuit.proofs.Promises.{never, unserved, demand_met, demand_failed, demanded, same_refusal}
use Rattle.checking.specs.Each.{each_from, Every, First, AtFirst, at_first}

-- one element more in front
before_next : {A : Type 0} (Good : A → Type 0) (s : A) (xs : List A) (i : ℕ) → Good s → ((j : ℕ) → j < i → (d : A) → Good (get_or xs j d))
    → (j : ℕ) → j < suc i → (d : A) → Good (get_or (s ∷ xs) j d)
before_next Good s xs i g f zero h d = g
before_next Good s xs i g f (suc j) h d = f j (omega arith) d

-- ---- by the first that fails

module _ {A : Type 0} (test : A → Bool) (number : ℕ) where
  -- the number of elements before the first that fails
  abbrev met : List A → ℕ
  met xs = prefix_len (λ x. not (not (test x))) xs

  by_state : (i n m : ℕ) (b : Bool) (rest : Outcome ℕ) → rest ≡ cond (ltb n m) (refused number (i + 1 + n)) (served (i + 1 + m))
      → let k = cond (not (not b)) (1 + n) 0 in demand b number i rest ≡ cond (ltb k (suc m)) (refused number (i + k)) (served (i + suc m))
  by_state i n m true rest e = grind (arith, common_steps)
  by_state i n m false rest e = grind (arith, common_steps)

  each_told : (i : ℕ) (xs : List A) → each_from test number i xs ≡ cond (ltb (met xs) (length xs)) (refused number (i + met xs)) (served (i + length xs))
  unfolding each_from
  each_told i [] = let e : i ≡ i + 0 = omega arith in ap served e
  each_told i (x ∷ xs) = by_state i (met xs) (length xs) (test x) _ (each_told (i + 1) xs)

  pub each_met : (xs : List A) → position (λ x. not (test x)) xs ≡ None → each_from test number 0 xs ≡ served (length xs)
  each_met xs e = let t = each_told 0 xs in grind (arith, common_steps)

  pub each_failed : (xs : List A) (i : ℕ) → position (λ x. not (test x)) xs ≡ Some i → each_from test number 0 xs ≡ refused number i
  each_failed xs i e = let t = each_told 0 xs in grind (arith, common_steps)

-- ---- by every element

module _ {A : Type 0} (test : A → Bool) (number : ℕ) where
  abbrev Met : A → Type 0
  Met x = test x ≡ true

  abbrev Failed : A → Type 0
  Failed x = test x ≡ false

  -- served exactly where every element meets the test
  pub each_served : (i : ℕ) (xs : List A) (k : ℕ) → each_from test number i xs ≡ served k → Every Met xs
  unfolding each_from
  each_served i [] k e = λ j h d. absurd (omega arith)
  each_served i (s ∷ xs) k e =
      let (t, f) = demanded (test s) number i (each_from test number (i + 1) xs) k e in
      before_next Met s xs (length xs) t (each_served (i + 1) xs k f)

  pub served_each : (i : ℕ) (xs : List A) → Every Met xs → each_from test number i xs ≡ served (i + length xs)
  unfolding each_from
  served_each i [] f = let e : i ≡ i + 0 = omega arith in ap served e
  served_each i (s ∷ xs) f =
      let e : i + 1 + length xs ≡ i + suc (length xs) = omega arith in
      demand_met _ _ _ _ (f 0 (omega arith) s) ∙ served_each (i + 1) xs (λ j h d. f (suc j) (omega arith) d) ∙ ap served e

  -- refused exactly at the first that does not
  each_refused : (F : ℕ → ℕ → Type 0) (i : ℕ) (xs : List A) → ((j : ℕ) → First Met Failed xs j → F number (i + j))
      → (x y : ℕ) → each_from test number i xs ≡ refused x y → F x y
  unfolding each_from
  each_refused F i [] f x y e = absurd (never refl e)
  each_refused F i (s ∷ xs) f x y e =
      either (test s)
      (λ t. each_refused F (i + 1) xs (λ j w. subst (F number) (omega arith) (f (suc j) (later t j w))) x y (sym (demand_met _ _ _ _ t) ∙ e))
      (λ t. same_refusal F (sym (demand_failed _ _ _ _ t) ∙ e) (subst (F number) (omega arith) (f 0 (record { inside = omega arith; before = λ j h. absurd (omega arith); here = λ d. t }))))
    where
      later : Met s → (j : ℕ) → First Met Failed xs j → First Met Failed (s ∷ xs) (suc j)
      later t j w = record { inside = omega (arith, w.inside); before = before_next Met s xs j t w.before; here = w.here }

  refused_each : (i : ℕ) (xs : List A) (j : ℕ) → First Met Failed xs j → each_from test number i xs ≡ refused number (i + j)
  unfolding each_from
  refused_each i [] j f = absurd (omega (arith, f.inside))
  refused_each i (s ∷ xs) zero f = let e : i ≡ i + 0 = omega arith in demand_failed _ _ _ _ (f.here s) ∙ ap (refused number) e
  refused_each i (s ∷ xs) (suc j) f =
      let e : i + 1 + j ≡ i + suc j = omega arith in
      demand_met _ _ _ _ (f.before 0 (omega arith) s)
      ∙ refused_each (i + 1) xs j (record { inside = omega (arith, f.inside); before = λ l h d. f.before (suc l) (omega arith) d; here = f.here })
      ∙ ap (refused number) e

-- a list, by a test that says what it should of each element that has a property which all of them have
module _ {A : Type 0} (test : A → Bool) (number : ℕ) (Within Good Bad : A → Type 0) (yes : (x : A) → Within x → (test x ≡ true) ↔ Good x) (no : (x : A) → Within x → (test x ≡ false) ↔ Bad x)
    (xs : List A) (within : Every Within xs) where
  pub each_good : (k : ℕ) → (each_from test number 0 xs ≡ served k) ↔ ((k ≡ length xs) × Every Good xs)
  each_good k = (
    (λ e.
        let f = each_served test number 0 xs k e in
        let n : k ≡ 0 + length xs = unserved (sym e ∙ served_each test number 0 xs f) in
        (omega arith, (λ j h d. (yes _ (within j h d)).0 (f j h d)))),
    (λ (n, f). served_each test number 0 xs (λ j h d. (yes _ (within j h d)).1 (f j h d)) ∙ ap served (omega arith)),
  )

  told_good : (i : ℕ) → First (λ x. test x ≡ true) (λ x. test x ≡ false) xs i → First Good Bad xs i
  told_good i f = record { inside = f.inside; before = λ j h d. (yes _ (within j (omega (arith, f.inside)) d)).0 (f.before j h d); here = λ d. (no _ (within i f.inside d)).0 (f.here d) }

  good_told : (i : ℕ) → First Good Bad xs i → First (λ x. test x ≡ true) (λ x. test x ≡ false) xs i
  good_told i f = record { inside = f.inside; before = λ j h d. (yes _ (within j (omega (arith, f.inside)) d)).1 (f.before j h d); here = λ d. (no _ (within i f.inside d)).1 (f.here d) }

  pub each_wrong : (x y : ℕ) → (each_from test number 0 xs ≡ refused x y) ↔ AtFirst Good Bad xs number x y
  each_wrong x y = (
    each_refused test number (AtFirst Good Bad xs number) 0 xs
        (λ j f. subst (AtFirst Good Bad xs number number) (omega arith) (at_first j (told_good j f))) x y,
    back x y,
  )
    where
      back : (x y : ℕ) → AtFirst Good Bad xs number x y → each_from test number 0 xs ≡ refused x y
      back _ _ (at_first i f) = refused_each test number 0 xs i (good_told i f) ∙ ap (refused number) (omega arith)

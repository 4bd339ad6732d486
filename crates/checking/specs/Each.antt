-- A test of each element of a list, in turn, and what is refused by it.
use Rattle.std.specs.Prelude.{ℕ, ◌+◌, ◌<◌, Bool, List, [], ◌∷◌, length, slice_index_or}
use Rattle.circuit.specs.Outcome.{Outcome, served, demand}

-- the number of elements; refused at the first that fails the test; i is the index of the list's first
unfoldable pub each_from : {A : Type 0} → (A → Bool) → ℕ → ℕ → List A → Outcome ℕ
each_from test number i [] = served i
each_from test number i (x ∷ xs) = demand (test x) number i (each_from test number (i + 1) xs)

-- every element of a list is good
abbrev pub Every : {A : Type 0} → (A → Type 0) → List A → Type 0
Every {A} Good xs = (j : ℕ) → j < length xs → (d : A) → Good (slice_index_or xs j d)

-- the element at index i is bad, and every one before it is good
pub record First {A : Type 0} (Good Bad : A → Type 0) (xs : List A) (i : ℕ) : Type 0 where
  pub inside : i < length xs
  pub before : (j : ℕ) → j < i → (d : A) → Good (slice_index_or xs j d)
  pub here : (d : A) → Bad (slice_index_or xs i d)

-- a list is refused with a number, at its first bad element
pub data AtFirst {A : Type 0} (Good Bad : A → Type 0) (xs : List A) (number : ℕ) : ℕ → ℕ → Type 0 where
  at_first : (i : ℕ) → First Good Bad xs i → AtFirst Good Bad xs number number i

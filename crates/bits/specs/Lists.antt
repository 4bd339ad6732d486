-- Lists: a fold from the first element on, a property of every element, and a buffer that is filled from its start.
use Rattle.std.specs.Prelude.{◌≡◌, List, [], ◌∷◌, ◌++◌, ℕ, length, drop}

-- each element acts on the state in turn, the first one first
unfoldable pub fold : {A S : Type 0} → (A → S → S) → List A → S → S
fold act [] s = s
fold act (x ∷ xs) s = fold act xs (act x s)

-- every element has the property
abbrev pub All : {A : Type 0} → (A → Type 0) → List A → Type 0
All P [] = Unit {0}
All P (x ∷ xs) = P x × All P xs

-- a buffer with `front` at its start and the rest as it was
abbrev pub over : {B : Type 0} → List B → List B → List B
over front out = front ++ drop (length front) out

-- these items stand at the start of the buffer, and their number was told
pub record Put {B : Type 0} (told : ℕ) (last items first : List B) : Type 0 where
  pub count : told ≡ length items
  pub buffer : last ≡ over items first

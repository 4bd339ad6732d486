-- What a call answers and leaves, in document 01's numbers and values.
use Rattle.std.specs.Prelude.{◌≡◌, ℕ, Bool, cond, List, Result, Ok, Err}
use Rattle.bits.specs.Lists.{over}
use Rattle.circuit.specs.declared.refusal.Refusal.{Refusal}
use Rattle.circuit.specs.Refusal.{refusal_number, refusal_place}

-- served with a value, or refused with a number and a place
pub data Outcome (A : Type 0) : Type 0 where
  served : A → Outcome A
  refused : ℕ → ℕ → Outcome A

-- a result in document 01's numbers and values
abbrev pub outcome_of : {A : Type 0} → Result A Refusal → Outcome A
outcome_of (Ok a) = served a
outcome_of (Err why) = refused (refusal_number why) (refusal_place why)

-- the same with the value as f gives it
abbrev pub map_served : {A B : Type 0} → (A → B) → Outcome A → Outcome B
map_served f (served a) = served (f a)
map_served f (refused number place) = refused number place

-- the call goes on where the test holds, and is else refused
abbrev pub demand : {A : Type 0} → Bool → ℕ → ℕ → Outcome A → Outcome A
demand test number place more = cond test more (refused number place)

-- the call goes on with what was served; a refusal stands
abbrev pub and_then : {A B : Type 0} → Outcome A → (A → Outcome B) → Outcome B
and_then (served a) more = more a
and_then (refused number place) more = refused number place

-- why a call is refused that goes on after a first one: for what is wrong before; or, where the first one serves a value, for what is wrong then
pub data Wrong {A : Type 0} (Before : ℕ → ℕ → Type 0) (Good : A → Type 0) (Then : A → ℕ → ℕ → Type 0) : ℕ → ℕ → Type 0 where
  before : {number place : ℕ} → Before number place → Wrong Before Good Then number place
  then : (a : A) → Good a → {number place : ℕ} → Then a number place → Wrong Before Good Then number place

-- one thing is wrong, and has this number and place
pub data Fails (Bad : Type 0) (number place : ℕ) : ℕ → ℕ → Type 0 where
  fails : Bad → Fails Bad number place number place

-- a buffer after the call: the answer at its start and the rest as it was, or untouched by a refusal
abbrev pub written : {A B : Type 0} → Outcome A → List B → List B → List B
written (served a) front out = over front out
written (refused number place) front out = out

-- a refused call leaves its buffer as it was
abbrev pub Untouched : {A B : Type 0} → Outcome A → List B → List B → Type 0
Untouched o first last = (number place : ℕ) → o ≡ refused number place → last ≡ first

-- what a call that writes a buffer owes: its answer and the buffer's last contents
pub record Yields {R B : Type 0} (told : R) (last : List B) (expected : R) (contents : List B) : Type 0 where
  pub answer : told ≡ expected
  pub buffer : last ≡ contents

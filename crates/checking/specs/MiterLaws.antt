-- What is proved of the miter.
use Rattle.std.specs.Prelude.{◌≡◌, ℕ, ◌+◌, ◌*◌, ◌<◌, ◌≤◌, ◌↔◌, List, reverse, length, take, drop}
use Rattle.circuit.specs.declared.gate.Gate.{Gate}
use Rattle.circuit.specs.Gate.{max_gates, max_miter_gates}
use Rattle.circuit.specs.Outcome.{served, refused, Wrong, Fails, Untouched}
use Rattle.circuit.specs.Refusal.{no_room}
use Rattle.circuit.specs.Words.{gates_of, Cascade, GoodPair, PairRefused}
use Rattle.circuit.specs.Run.{run}
use Rattle.checking.specs.Miter.{miter_gates, miter_outcome, miter_buffer}

-- two cascades on as many lines, and room for the words of both; k gates in all
pub record MiterServed (na : ℕ) (a : List ℕ) (nb : ℕ) (b : List ℕ) (room k : ℕ) : Type 0 where
  pub first : ℕ
  pub second : ℕ
  pub first_good : Cascade na a max_gates first
  pub second_good : Cascade nb b max_gates second
  pub lines : na ≡ nb
  pub fits : length a + length b ≤ room
  pub count : k ≡ first + second

-- what is wrong with a miter's call: with the two cascades, or 10 where they are good and the buffer has fewer words than both together
abbrev pub MiterRefused : ℕ → List ℕ → ℕ → List ℕ → ℕ → ℕ → ℕ → Type 0
MiterRefused na a nb b room = Wrong (PairRefused na a nb b) (GoodPair na a nb b) (λ c. Fails (room < length a + length b) no_room 0)

-- what stands in the buffer after a served miter of k gates: the miter, which is the first's words as they are and then the second's gates in reverse order; a cascade that steps and reductions take; and the rest as it was
pub record MiterStands (na : ℕ) (a : List ℕ) (nb : ℕ) (b out : List ℕ) (k : ℕ) : Type 0 where
  pub gates : gates_of (take (3 * k) (miter_buffer na a nb b out)) ≡ miter_gates (gates_of a) (gates_of b)
  pub first_words : take (length a) (miter_buffer na a nb b out) ≡ a
  pub second_reversed : gates_of (take (length b) (drop (length a) (miter_buffer na a nb b out))) ≡ reverse (gates_of b)
  pub cascade : Cascade na (take (3 * k) (miter_buffer na a nb b out)) max_miter_gates k
  pub rest : drop (3 * k) (miter_buffer na a nb b out) ≡ drop (3 * k) out

pub record MiterLaws : Type 0 where
  -- the identity on a state exactly when the two agree on it
  pub identity : (a b : List Gate) (s : ℕ) → (run (miter_gates a b) s ≡ s) ↔ (run a s ≡ run b s)
  -- served exactly for valid pairs with room
  pub miter_served : (na : ℕ) (a : List ℕ) (nb : ℕ) (b : List ℕ) (room k : ℕ) → (miter_outcome na a nb b room ≡ served k) ↔ MiterServed na a nb b room k
  -- and refused exactly by what is wrong
  pub miter_refused : (na : ℕ) (a : List ℕ) (nb : ℕ) (b : List ℕ) (room number place : ℕ) → (miter_outcome na a nb b room ≡ refused number place) ↔ MiterRefused na a nb b room number place
  -- what it leaves: the miter where it is served, and the buffer as it was where it is refused
  pub miter_untouched : (na : ℕ) (a : List ℕ) (nb : ℕ) (b out : List ℕ) → Untouched (miter_outcome na a nb b (length out)) out (miter_buffer na a nb b out)
  pub miter_stands : (na : ℕ) (a : List ℕ) (nb : ℕ) (b out : List ℕ) (k : ℕ) → miter_outcome na a nb b (length out) ≡ served k → MiterStands na a nb b out k

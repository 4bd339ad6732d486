-- What is proved of the refusals of the sweep, the input check, the pick and the faults: the number and the place, in the words of documents 01 and 02.
use Rattle.std.specs.Prelude.{◌≡◌, ℕ, ◌*◌, ◌<◌, ◌≤◌, true, false, ◌↔◌, List, length}
use Rattle.circuit.specs.declared.header.Header.{Header}
use Rattle.circuit.specs.Header.{Permitted}
use Rattle.circuit.specs.Outcome.{served, refused, Wrong, Fails}
use Rattle.circuit.specs.Refusal.{bad_state, no_room, agreeing_state, too_wide}
use Rattle.circuit.specs.Words.{gates_of, PairRefused, HeadedPair, HeadedPairRefused}
use Rattle.circuit.specs.declared.words.Counts.{Counts}
use Rattle.circuit.specs.Run.{DiffersFor}
use Rattle.checking.specs.Compare.{Agree, max_sweep_lines, Difference, difference_outcome, Says, differs_outcome, pick_outcome}
use Rattle.checking.specs.Each.{Every, AtFirst}
use Rattle.checking.specs.Faults.{gate_masks, fault_outcome}

-- what is wrong with a sweep: with the pair, or 13 for a good pair on more lines than a sweep has
abbrev pub SweepRefused : Header → List ℕ → Header → List ℕ → ℕ → ℕ → Type 0
SweepRefused ha a hb b = Wrong (HeadedPairRefused ha a hb b) (HeadedPair ha a hb b) (λ c. Fails (max_sweep_lines < ha.lines) too_wide 0)

-- what is wrong with an input check: with the pair, or 9 for a good pair and a state that is not permitted
abbrev pub DiffersRefused : Header → List ℕ → Header → List ℕ → ℕ → ℕ → ℕ → Type 0
DiffersRefused ha a hb b x = Wrong (HeadedPairRefused ha a hb b) (HeadedPair ha a hb b) (λ c. Fails (Permitted ha x → ⊥) bad_state 0)

-- what is wrong with a pair and a list of states: with the pair; 9 at the first state that is not permitted; where there is none, 12 at the first state on which the two agree
abbrev pub StatesRefused : Header → List ℕ → Header → List ℕ → List ℕ → ℕ → ℕ → Type 0
StatesRefused ha a hb b states =
    Wrong (HeadedPairRefused ha a hb b) (HeadedPair ha a hb b) (λ c.
    Wrong (AtFirst (Permitted ha) (λ x. Permitted ha x → ⊥) states bad_state) (λ k. (k ≡ length states) × Every (Permitted ha) states) (λ k.
    AtFirst (DiffersFor ha (gates_of a) (gates_of b)) (Agree ha (gates_of a) (gates_of b)) states agreeing_state))

-- two cascades with the same header, the suspect of k gates, and permitted states on all of which they differ
pub record StatesGood (ha : Header) (a : List ℕ) (hb : Header) (b states : List ℕ) (k : ℕ) : Type 0 where
  pub second : ℕ
  pub pair : HeadedPair ha a hb b (record { first = k; second = second })
  pub differing : Every (DiffersFor ha (gates_of a) (gates_of b)) states

-- what is wrong with a fault call: with the pair and the states, or 10 for a buffer of fewer masks than its gates have
abbrev pub MasksRefused : Header → List ℕ → Header → List ℕ → List ℕ → ℕ → ℕ → ℕ → Type 0
MasksRefused ha a hb b states room = Wrong (StatesRefused ha a hb b states) (StatesGood ha a hb b states) (λ k. Fails (room < gate_masks * k) no_room 0)

-- each call is refused exactly by what is wrong, and served for the rest
pub record RefusalLaws : Type 0 where
  pub sweep_refused : (ha : Header) (a : List ℕ) (hb : Header) (b : List ℕ) (number place : ℕ) → (difference_outcome ha a hb b ≡ refused number place) ↔ SweepRefused ha a hb b number place
  pub input_refused : (ha : Header) (a : List ℕ) (hb : Header) (b : List ℕ) (x number place : ℕ) → (differs_outcome ha a hb b x ≡ refused number place) ↔ DiffersRefused ha a hb b x number place
  -- the sweep is served exactly for a good pair on at most 16 lines, with what it then says
  pub sweep_served : (ha : Header) (a : List ℕ) (hb : Header) (b : List ℕ) (d : Difference)
      → (difference_outcome ha a hb b ≡ served d) ↔ ((c : Counts) × (HeadedPair ha a hb b c) × (ha.lines ≤ max_sweep_lines) × (Says ha (gates_of a) (gates_of b) (served d)))
  -- the input check is served with true exactly for a good pair that differs on the state, and with false exactly for one that agrees on it
  pub input_differs : (ha : Header) (a : List ℕ) (hb : Header) (b : List ℕ) (x : ℕ)
      → (differs_outcome ha a hb b x ≡ served true) ↔ ((c : Counts) × (HeadedPair ha a hb b c) × (DiffersFor ha (gates_of a) (gates_of b) x))
  pub input_agrees : (ha : Header) (a : List ℕ) (hb : Header) (b : List ℕ) (x : ℕ)
      → (differs_outcome ha a hb b x ≡ served false) ↔ ((c : Counts) × (HeadedPair ha a hb b c) × (Permitted ha x) × (Agree ha (gates_of a) (gates_of b) x))
  pub pick_refused : (na : ℕ) (a : List ℕ) (nb : ℕ) (b : List ℕ) (number place : ℕ) → (pick_outcome na a nb b ≡ refused number place) ↔ PairRefused na a nb b number place
  -- the fault call is served exactly for these
  pub masks_served : (ha : Header) (a : List ℕ) (hb : Header) (b states : List ℕ) (room k : ℕ) → (fault_outcome ha a hb b states room ≡ served k) ↔ ((StatesGood ha a hb b states k) × (gate_masks * k ≤ room))
  pub masks_refused : (ha : Header) (a : List ℕ) (hb : Header) (b states : List ℕ) (room number place : ℕ)
      → (fault_outcome ha a hb b states room ≡ refused number place) ↔ MasksRefused ha a hb b states room number place

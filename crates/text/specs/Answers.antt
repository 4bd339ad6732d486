-- What the calls that write a text answer, and what they owe.
use Rattle.std.specs.Prelude.{◌≡◌, ◌↔◌, List, ℕ, nat_le, length}
use Rattle.bits.specs.Lists.{over}
use Rattle.circuit.specs.Outcome.{Outcome, served, refused, demand, written, Untouched}
use Rattle.circuit.specs.Refusal.{no_room}

-- a text is written where it fits: 10 where the buffer is shorter
unfoldable pub fit_outcome : List ℕ → ℕ → Outcome ℕ
fit_outcome text room = demand (nat_le (length text) room) no_room 0 (served (length text))

unfoldable pub fit_buffer : List ℕ → List ℕ → List ℕ
fit_buffer text out = written (fit_outcome text (length out)) text out

-- what a call owes that is lent rooms: its answer, the buffer's last contents, and the rooms as they were where one is too short
pub record Serves (told : Outcome ℕ) (last : List ℕ) (expected : Outcome ℕ) (contents : List ℕ) (Short Kept : Type 0) : Type 0 where
  pub answer : told ≡ expected
  pub buffer : last ≡ contents
  pub kept : Short → Kept

-- a call that writes a text at its buffer's start exactly where it fits, and is else refused with 10 and leaves the buffer
pub record WritesWhere (Fits : Type 0) (outcome : Outcome ℕ) (text out last : List ℕ) : Type 0 where
  pub served_exactly : (k : ℕ) → (outcome ≡ served k) ↔ (Fits × (k ≡ length text))
  pub refused_exactly : (number place : ℕ) → (outcome ≡ refused number place) ↔ ((Fits → ⊥) × (number ≡ no_room) × (place ≡ 0))
  pub leaves : (k : ℕ) → outcome ≡ served k → last ≡ over text out
  pub untouched : Untouched outcome out last

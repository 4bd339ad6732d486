-- Two cascades compared on permitted states and counted lines, by document 02; and the one with fewer gates, by document 01.
use Rattle.std.specs.Prelude.{◌≡◌, ℕ, zero, suc, ◌+◌, ◌^◌, ◌<◌, Bool, cond, not, ◌&&◌, List, [], Option, Some, None, nat_le}
use Rattle.bits.specs.Digits.{bit}
use Rattle.circuit.specs.declared.gate.Gate.{Gate}
use Rattle.circuit.specs.declared.header.Header.{Header}
use Rattle.circuit.specs.Header.{permits, alike, Permitted, LineCounts}
use Rattle.circuit.specs.Outcome.{Outcome, served, refused, demand, and_then}
use Rattle.circuit.specs.declared.refusal.Refusal.{Refusal}
use Rattle.circuit.specs.Refusal.{bad_state, too_wide, refusal_number, refusal_place}
use Rattle.circuit.specs.Words.{gates_of, pair_outcome, headed_pair_outcome}
use Rattle.circuit.specs.declared.words.Counts.{Counts}
use Rattle.circuit.specs.Run.{run, EqualFor, DiffersFor}

-- whether a line that counts comes out differently on x
abbrev pub outputs_differ : Header → List Gate → List Gate → ℕ → Bool
outputs_differ h a b x = not (alike h (run a x) (run b x))

-- every line that counts comes out alike on x
abbrev pub Agree : Header → List Gate → List Gate → ℕ → Type 0
Agree h a b x = (k : ℕ) → LineCounts h k → bit (run a x) k ≡ bit (run b x) k

-- ---- the sweep

-- the lines of a sweep
abbrev pub max_sweep_lines : ℕ
max_sweep_lines = 16

-- a state on which two cascades differ, or none
pub data Difference : Type 0 where
  none : Difference
  lowest : ℕ → Difference

-- the lowest of the k states from x on
unfoldable pub lowest_from : Header → List Gate → List Gate → ℕ → ℕ → Difference
lowest_from h a b x zero = none
lowest_from h a b x (suc k) = cond (permits h x && outputs_differ h a b x) (lowest x) (lowest_from h a b (x + 1) k)

-- 2, 14, 11, 6, 7 for each, 8, 15, 13
unfoldable pub difference_outcome : Header → List ℕ → Header → List ℕ → Outcome Difference
difference_outcome ha a hb b =
    and_then (headed_pair_outcome ha a hb b) (λ counts.
    demand (nat_le ha.lines max_sweep_lines) too_wide 0 (served (lowest_from ha (gates_of a) (gates_of b) 0 (2 ^ ha.lines))))

-- what a served sweep says: the two are equal; or they differ on this state, and agree on every lower one that is permitted
abbrev pub Says : Header → List Gate → List Gate → Outcome Difference → Type 0
Says h a b (served none) = EqualFor h a b
Says h a b (served (lowest x)) = DiffersFor h a b x × ((y : ℕ) → y < x → Permitted h y → Agree h a b y)
Says h a b (refused number place) = Unit {0}

-- what the call owes
pub record Sweeps (ha : Header) (a : List ℕ) (hb : Header) (b : List ℕ) (told : Outcome Difference) : Type 0 where
  pub answer : told ≡ difference_outcome ha a hb b
  pub says : Says ha (gates_of a) (gates_of b) told

-- ---- the input check

-- 2, 14, 11, 6, 7 for each, 8, 15, 9
unfoldable pub differs_outcome : Header → List ℕ → Header → List ℕ → ℕ → Outcome Bool
differs_outcome ha a hb b x =
    and_then (headed_pair_outcome ha a hb b) (λ counts.
    demand (permits ha x) bad_state 0 (served (outputs_differ ha (gates_of a) (gates_of b) x)))

-- ---- the pick

-- of two cascades the one with fewer gates, the first on a tie; what stands for a refusal
abbrev pub picked : {A : Type 0} → Outcome Counts → A → A → A → A
picked (served counts) first second neither = cond (nat_le counts.first counts.second) first second
picked (refused number place) first second neither = neither

-- whether the pick is refused: 2, 11, 6, 7 for each, 8
unfoldable pub pick_outcome : ℕ → List ℕ → ℕ → List ℕ → Outcome (Unit {0})
pick_outcome na a nb b = and_then (pair_outcome na a nb b) (λ counts. served tt)

-- what the pick owes: the words of one of the two, at that one's own place; the empty stretch at the first's start where it is refused
pub record Picks {P : Type 0} (o : Outcome Counts) (a b words : List ℕ) (at_a at_b at : P) : Type 0 where
  pub contents : words ≡ picked o a b []
  pub place : at ≡ picked o at_a at_b at_a

-- ---- the answers in document 01's values

abbrev pub of_difference : Option ℕ → Difference
of_difference (Some x) = lowest x
of_difference None = none

abbrev pub of_refusal : Option Refusal → Outcome (Unit {0})
of_refusal None = served tt
of_refusal (Some why) = refused (refusal_number why) (refusal_place why)

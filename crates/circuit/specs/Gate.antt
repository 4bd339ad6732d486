-- A gate: its record, its effect on a state, and its limits, by document 01.
use Rattle.std.specs.Prelude.{ℕ, zero, suc, ◌+◌, ◌%◌, ◌^◌, ◌<◌, Bool, true, false, cond, not, ◌&&◌, List, [], ◌∷◌, ◌++◌, ◌==◌, bit_and, bit_or, bit_xor, count_ones, nat_lt}
use Rattle.bits.specs.Digits.{bit}
use Rattle.bits.specs.Lists.{All}
use Rattle.circuit.specs.declared.gate.Gate.{Gate}

abbrev pub max_lines : ℕ
max_lines = 64

-- the gates of a cascade, and of a miter
abbrev pub max_gates : ℕ
max_gates = 16384

abbrev pub max_miter_gates : ℕ
max_miter_gates = 32768

-- the gate without controls
abbrev pub not_gate : ℕ → Gate
not_gate target = record { positive = 0; negative = 0; target = target }

-- the target is below n, neither mask has a bit at n or above, no bit stands in both, and the target's bit stands in neither
unfoldable pub valid : ℕ → Gate → Bool
valid n g =
    nat_lt g.target n
    && (nat_lt g.positive (2 ^ n)
    && (nat_lt g.negative (2 ^ n)
    && (bit_and g.positive g.negative == 0 && bit_and (bit_or g.positive g.negative) (2 ^ g.target) == 0)))

-- all positive controls are 1 and all negative ones 0
unfoldable pub fires : Gate → ℕ → Bool
fires g s = bit_and s g.positive == g.positive && bit_and s g.negative == 0

-- the target line is inverted where the gate fires
unfoldable pub inverted : Gate → ℕ → ℕ
inverted g s = cond (fires g s) (bit_xor s (2 ^ g.target)) s

-- the state after the gate; the same one if the record is no gate on 64 lines
unfoldable pub apply : Gate → ℕ → ℕ
apply g s = cond (valid max_lines g) (inverted g s) s

-- the lines on which a state misses a control, of records that were tested
unfoldable pub missed : Gate → ℕ → ℕ
missed g s = bit_and (bit_xor s g.positive) (bit_or g.positive g.negative)

-- the state after the gate without a test of the record, of those that were tested: inverted where no control is missed
unfoldable pub toggled : Gate → ℕ → ℕ
toggled g s = cond (missed g s == 0) (bit_xor s (2 ^ (g.target % max_lines))) s

-- the number of set bits in both masks
unfoldable pub control_count : Gate → ℕ
control_count g = count_ones g.positive + count_ones g.negative

-- a control: its line, and whether it is positive
pub record Control : Type 0 where
  pub line : ℕ
  pub positive : Bool

-- every control is on a line below n
abbrev pub Inside : ℕ → List Control → Type 0
Inside n cs = All (λ (c : Control). c.line < n) cs

-- the control on line k, where there is one
abbrev pub control_at : Gate → ℕ → List Control
control_at g k =
    cond (bit g.positive k) (record { line = k; positive = true } ∷ [])
    (cond (bit g.negative k) (record { line = k; positive = false } ∷ []) [])

-- the controls on lines below n, by rising line
unfoldable pub controls_below : ℕ → Gate → List Control
controls_below zero g = []
controls_below (suc n) g = controls_below n g ++ control_at g n

-- all controls, by rising line
abbrev pub controls_of : Gate → List Control
controls_of g = controls_below max_lines g

-- a positive control is met where its line is 1, a negative one where it is 0
abbrev pub met : ℕ → Control → Bool
met s c = cond c.positive (bit s c.line) (not (bit s c.line))

-- every control is met
unfoldable pub all_met : ℕ → List Control → Bool
all_met s [] = true
all_met s (c ∷ cs) = met s c && all_met s cs

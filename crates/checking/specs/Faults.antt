-- Faults: the lines that may be a missing control of a gate of the suspect, by document 01; over permitted states and counted lines, by document 02. A line that stands is a candidate.
use Rattle.std.specs.Prelude.{ℕ, zero, suc, ◌+◌, ◌*◌, ◌^◌, Bool, true, false, cond, not, ◌&&◌, List, [], ◌∷◌, ◌++◌, map, length, ◌==◌, nat_le}
use Rattle.std.specs.Bool.{xor}
use Rattle.bits.specs.Digits.{bit}
use Rattle.circuit.specs.declared.gate.Gate.{Gate}
use Rattle.circuit.specs.declared.header.Header.{Header}
use Rattle.circuit.specs.Gate.{fires}
use Rattle.circuit.specs.Header.{permits}
use Rattle.circuit.specs.Outcome.{Outcome, served, demand, and_then, written}
use Rattle.circuit.specs.Refusal.{bad_state, agreeing_state, no_room}
use Rattle.circuit.specs.Words.{gates_of, headed_pair_outcome}
use Rattle.circuit.specs.Run.{run}
use Rattle.checking.specs.Compare.{outputs_differ}
use Rattle.checking.specs.Each.{each_from}

-- line k is neither target nor control
abbrev pub is_free : Gate → ℕ → Bool
is_free g k = not (k == g.target) && (not (bit g.positive k) && not (bit g.negative k))

-- a fault of a gate: the lines on which it may be, and its pattern on line k at the state before the gate
pub record Fault : Type 0 where
  pub lines : Gate → ℕ → Bool
  pub pattern : ℕ → Gate → ℕ → Bool

-- the pattern of a missing control on line k: the gate fires, and the line is 0 for a positive one, 1 for a negative one
abbrev pub missing : Bool → ℕ → Gate → ℕ → Bool
missing positive k g s = fires g s && xor positive (bit s k)

abbrev pub missing_control : Bool → Fault
missing_control positive = record { lines = is_free; pattern = missing positive }

-- the faults that have a mask for each gate, in the order of the masks: a missing positive control, then a missing negative one
abbrev pub gate_faults : List Fault
gate_faults = missing_control true ∷ missing_control false ∷ []

-- the masks of a gate
abbrev pub gate_masks : ℕ
gate_masks = length gate_faults

-- the pattern matches for every given state, at the gate that comes after the gates `before`
unfoldable pub everywhere : (ℕ → Bool) → List Gate → List ℕ → Bool
everywhere pattern before [] = true
everywhere pattern before (x ∷ xs) = pattern (run before x) && everywhere pattern before xs

-- line k stands in the mask of a fault of gate g
abbrev pub stands : Fault → List Gate → Gate → List ℕ → ℕ → Bool
stands fault before g xs k = fault.lines g k && everywhere (fault.pattern k g) before xs

-- the mask of the lines below n of which the test holds
unfoldable pub mask_where : ℕ → (ℕ → Bool) → ℕ
mask_where zero test = 0
mask_where (suc n) test = mask_where n test + cond (test n) (2 ^ n) 0

-- the masks of each gate, one a fault
unfoldable pub masks_from : ℕ → List Gate → List Gate → List ℕ → List ℕ
masks_from n before [] xs = []
masks_from n before (g ∷ gs) xs = map (λ fault. mask_where n (stands fault before g xs)) gate_faults ++ masks_from n (before ++ (g ∷ [])) gs xs

abbrev pub fault_masks : ℕ → List Gate → List ℕ → List ℕ
fault_masks n suspect xs = masks_from n [] suspect xs

-- 2, 14, 11, 6, 7 for each, 8, 15, 9 over the whole list, 12
unfoldable pub fault_check : Header → List ℕ → Header → List ℕ → List ℕ → Outcome ℕ
fault_check ha a hb b xs =
    and_then (headed_pair_outcome ha a hb b) (λ counts.
    and_then (each_from (permits ha) bad_state 0 xs) (λ k.
    and_then (each_from (outputs_differ ha (gates_of a) (gates_of b)) agreeing_state 0 xs) (λ m. served counts.first)))

-- then 10
unfoldable pub fault_outcome : Header → List ℕ → Header → List ℕ → List ℕ → ℕ → Outcome ℕ
fault_outcome ha a hb b xs room = and_then (fault_check ha a hb b xs) (λ gates. demand (nat_le (gate_masks * gates) room) no_room 0 (served gates))

-- the masks at the buffer's start
unfoldable pub fault_buffer : Header → List ℕ → Header → List ℕ → List ℕ → List ℕ → List ℕ
fault_buffer ha a hb b xs out = written (fault_outcome ha a hb b xs (length out)) (fault_masks ha.lines (gates_of a) xs) out

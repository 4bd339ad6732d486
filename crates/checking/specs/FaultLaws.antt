-- What is proved of comparing cascades and of faults.
use Rattle.std.specs.Prelude.{◌≡◌, ℕ, ◌+◌, ◌-◌, ◌*◌, ◌^◌, ◌<◌, ◌≤◌, Bool, true, false, not, ◌↔◌, List, [], ◌∷◌, ◌++◌, map, length, take, drop, replicate, bit_or, slice_index}
use Rattle.bits.specs.Digits.{bit}
use Rattle.circuit.specs.declared.gate.Gate.{Gate}
use Rattle.circuit.specs.declared.header.Header.{Header}
use Rattle.circuit.specs.Gate.{max_lines, valid, fires, apply}
use Rattle.circuit.specs.Header.{marks_good}
use Rattle.circuit.specs.Outcome.{served, Untouched}
use Rattle.circuit.specs.Words.{gates_of, gate_in, all_valid}
use Rattle.circuit.specs.Run.{run, DiffersFor}
use Rattle.checking.specs.Compare.{Agree, Difference, none, lowest_from, Says}
use Rattle.checking.specs.Faults.{is_free, missing, gate_faults, gate_masks, mask_where, fault_masks, fault_outcome, fault_buffer}
use Rattle.checking.specs.Each.{Every}

-- ---- the sweep

-- a sweep that says what it found of every two cascades with the same header
abbrev pub Sweeping : (Header → List Gate → List Gate → Difference) → Type 0
Sweeping sweep = (h : Header) (a b : List Gate) → marks_good h ≡ true → all_valid h.lines a ≡ true → all_valid h.lines b ≡ true → Says h a b (served (sweep h a b))

-- a header without its constants, and one without its junk lines
abbrev pub without_constants : Header → Header
without_constants h = record { lines = h.lines; constants = 0; values = 0; junk = h.junk }

abbrev pub all_counted : Header → Header
all_counted h = record { lines = h.lines; constants = h.constants; values = h.values; junk = 0 }

-- ---- candidates and excluded lines

-- the state before gate i
abbrev pub state_at : List Gate → ℕ → List ℕ → ℕ → ℕ
state_at gs i xs j = run (take i gs) (slice_index xs j)

-- line k may be a missing control of gate i: it is neither target nor control, and for every given state the gate fires and the line is 0 (1 for a negative control)
pub record Candidate (n : ℕ) (gs : List Gate) (xs : List ℕ) (i : ℕ) (positive : Bool) (k : ℕ) : Type 0 where
  pub below : k < n
  pub not_target : k ≡ (gate_in gs i).target → ⊥
  pub not_positive : bit (gate_in gs i).positive k ≡ false
  pub not_negative : bit (gate_in gs i).negative k ≡ false
  pub fired : (j : ℕ) → j < length xs → fires (gate_in gs i) (state_at gs i xs j) ≡ true
  pub line : (j : ℕ) → j < length xs → bit (state_at gs i xs j) k ≡ not positive

-- the place of a gate's mask: positive, then negative
abbrev pub mask_place : Bool → ℕ → ℕ
mask_place true i = gate_masks * i
mask_place false i = gate_masks * i + 1

-- two masks a gate, in which exactly the candidates stand
pub record Masking (masks : ℕ → List Gate → List ℕ → List ℕ) : Type 0 where
  pub size : (n : ℕ) (gs : List Gate) (xs : List ℕ) → length (masks n gs xs) ≡ gate_masks * length gs
  pub lines : (n : ℕ) (gs : List Gate) (xs : List ℕ) (i line : ℕ) (positive : Bool) → i < length gs
      → (bit (slice_index (masks n gs xs) (mask_place positive i)) line ≡ true) ↔ Candidate n gs xs i positive line

-- what stands in the last contents of a buffer after a served call on k gates of a suspect: exactly the candidates, and the rest as it was
pub record MasksStand (n : ℕ) (suspect : List Gate) (states : List ℕ) (k : ℕ) (first last : List ℕ) : Type 0 where
  pub long : length last ≡ length first
  pub lines : (i line : ℕ) (positive : Bool) → i < k → (bit (slice_index last (mask_place positive i)) line ≡ true) ↔ Candidate n suspect states i positive line
  pub rest : drop (gate_masks * k) last ≡ drop (gate_masks * k) first

-- 01's stand-ins: nothing struck, everything struck
abbrev pub strikes_nothing : ℕ → List Gate → List ℕ → List ℕ
strikes_nothing n [] xs = []
strikes_nothing n (g ∷ gs) xs = map (λ fault. mask_where n (fault.lines g)) gate_faults ++ strikes_nothing n gs xs

abbrev pub strikes_all : ℕ → List Gate → List ℕ → List ℕ
strikes_all n [] xs = []
strikes_all n (g ∷ gs) xs = replicate gate_masks 0 ++ strikes_all n gs xs

-- ---- repairs

-- the cascade with gate i repaired, and every other gate as it was
abbrev pub repaired_at : ℕ → (Gate → Gate) → List Gate → List Gate
repaired_at i repair gs = take i gs ++ (repair (gate_in gs i) ∷ drop (i + 1) gs)

-- a fault: where its pattern does not match, the repaired gate acts as before
abbrev pub Repairs : (Gate → ℕ → Bool) → (Gate → Gate) → Gate → Type 0
Repairs pattern repair g = (s : ℕ) → pattern g s ≡ false → apply (repair g) s ≡ apply g s

-- a gate with one control more on line k
abbrev pub with_control : Bool → ℕ → Gate → Gate
with_control true k g = record { positive = bit_or g.positive (2 ^ k); negative = g.negative; target = g.target }
with_control false k g = record { positive = g.positive; negative = bit_or g.negative (2 ^ k); target = g.target }

pub record FaultLaws : Type 0 where
  -- the sweep says what it found; one that says none untried, starts at 1, tries states that break a constant, or counts junk lines, does not
  pub sweep : Sweeping (λ h a b. lowest_from h a b 0 (2 ^ h.lines))
  pub untried : Sweeping (λ h a b. none) → ⊥
  pub from_one : Sweeping (λ h a b. lowest_from h a b 1 (2 ^ h.lines - 1)) → ⊥
  pub constants_ignored : Sweeping (λ h a b. lowest_from (without_constants h) a b 0 (2 ^ h.lines)) → ⊥
  pub junk_counted : Sweeping (λ h a b. lowest_from (all_counted h) a b 0 (2 ^ h.lines)) → ⊥
  -- nor has any sweep that does not look at the constants, or at which lines are junk
  pub constants_unread : (sweep : Header → List Gate → List Gate → Difference) → ((h : Header) (a b : List Gate) → marks_good h ≡ true → sweep h a b ≡ sweep (without_constants h) a b) → Sweeping sweep → ⊥
  pub junk_unread : (sweep : Header → List Gate → List Gate → Difference) → ((h : Header) (a b : List Gate) → marks_good h ≡ true → sweep h a b ≡ sweep (all_counted h) a b) → Sweeping sweep → ⊥
  -- a gate has two masks, and these are those of the candidates; a call that strikes nothing, or everything, is none
  pub two_masks : gate_masks ≡ 2
  pub masks : Masking fault_masks
  pub nothing_struck : Masking strikes_nothing → ⊥
  pub all_struck : Masking strikes_all → ⊥
  -- the call leaves them in its buffer, and all of it as it was where it is refused
  pub masks_stand : (ha : Header) (a : List ℕ) (hb : Header) (b states out : List ℕ) (k : ℕ) → fault_outcome ha a hb b states (length out) ≡ served k
      → MasksStand ha.lines (gates_of a) states k out (fault_buffer ha a hb b states out)
  pub masks_untouched : (ha : Header) (a : List ℕ) (hb : Header) (b states out : List ℕ) → Untouched (fault_outcome ha a hb b states (length out)) out (fault_buffer ha a hb b states out)
  -- for any fault: where the pattern does not match on a state, the repair leaves that state as it was
  pub repair_leaves : (pattern : Gate → ℕ → Bool) (repair : Gate → Gate) (gs : List Gate) (i : ℕ) → i < length gs → Repairs pattern repair (gate_in gs i)
      → (x : ℕ) → pattern (gate_in gs i) (run (take i gs) x) ≡ false → run (repaired_at i repair gs) x ≡ run gs x
  -- an added control is such a repair, and gives a gate
  pub control_repairs : (positive : Bool) (k : ℕ) (g : Gate) → valid max_lines g ≡ true → k < max_lines → is_free g k ≡ true → Repairs (missing positive k) (with_control positive k) g
  pub control_valid : (n : ℕ) (positive : Bool) (k : ℕ) (g : Gate) → valid n g ≡ true → k < n → is_free g k ≡ true → valid n (with_control positive k g) ≡ true
  -- so for each line that is excluded and is neither target nor control, adding that control leaves some given state wrong
  pub excluded : (h : Header) (suspect reference : List Gate) (xs : List ℕ) (i k : ℕ) (positive : Bool) → h.lines ≤ max_lines → all_valid h.lines suspect ≡ true
      → Every (DiffersFor h suspect reference) xs → i < length suspect → k < h.lines → is_free (gate_in suspect i) k ≡ true
      → (Candidate h.lines suspect xs i positive k → ⊥)
      → (j : ℕ) × (j < length xs) × DiffersFor h (repaired_at i (with_control positive k) suspect) reference (slice_index xs j)
  -- no guilty gate is excluded: where the suspect with that control added to gate i agrees with the reference on every given state, the line stands in the buffer
  pub guilty_stands : (ha : Header) (a : List ℕ) (hb : Header) (b states out : List ℕ) (k : ℕ) → fault_outcome ha a hb b states (length out) ≡ served k
      → (i line : ℕ) (positive : Bool) → i < k → line < ha.lines → is_free (gate_in (gates_of a) i) line ≡ true
      → Every (Agree ha (repaired_at i (with_control positive line) (gates_of a)) (gates_of b)) states
      → bit (slice_index (fault_buffer ha a hb b states out) (mask_place positive i)) line ≡ true

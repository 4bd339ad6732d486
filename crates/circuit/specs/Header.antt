-- The header of a cascade: its line count, and its marks, by document 02. The input of a constant line is fixed, and the output of a junk line is ignored.
use Rattle.std.specs.Prelude.{◌≡◌, ℕ, ◌^◌, ◌<◌, Bool, true, false, not, ◌&&◌, ◌==◌, bit_and, bit_or, nat_lt}
use Rattle.bits.specs.Digits.{bit}
use Rattle.circuit.specs.declared.header.Header.{Header}

-- of a cascade without marks
abbrev pub unmarked : ℕ → Header
unmarked n = record { lines = n; constants = 0; values = 0; junk = 0 }

-- no mark at n or above, and value 1 on constant lines alone
unfoldable pub marks_good : Header → Bool
marks_good h = nat_lt h.constants (2 ^ h.lines) && (nat_lt h.junk (2 ^ h.lines) && bit_and h.values h.constants == h.values)

-- some line is a constant or junk
abbrev pub marked : Header → Bool
marked h = not (h.constants == 0 && h.junk == 0)

abbrev pub same_marks : Header → Header → Bool
same_marks h k = h.constants == k.constants && (h.values == k.values && h.junk == k.junk)

-- a state of the lines that agrees with the constants
unfoldable pub permits : Header → ℕ → Bool
permits h x = nat_lt x (2 ^ h.lines) && bit_and x h.constants == h.values

-- two states are the same on all lines but the junk ones
unfoldable pub alike : Header → ℕ → ℕ → Bool
alike h s t = bit_or s h.junk == bit_or t h.junk

-- the same line by line: good marks, a state that honours the constants, and a line that counts
pub record MarksByLines (h : Header) : Type 0 where
  pub constants_below : (k : ℕ) → bit h.constants k ≡ true → k < h.lines
  pub junk_below : (k : ℕ) → bit h.junk k ≡ true → k < h.lines
  pub values_constant : (k : ℕ) → bit h.values k ≡ true → bit h.constants k ≡ true

pub record Permitted (h : Header) (x : ℕ) : Type 0 where
  pub state : x < 2 ^ h.lines
  pub constants : (k : ℕ) → bit h.constants k ≡ true → bit x k ≡ bit h.values k

pub record LineCounts (h : Header) (k : ℕ) : Type 0 where
  pub below : k < h.lines
  pub kept : bit h.junk k ≡ false

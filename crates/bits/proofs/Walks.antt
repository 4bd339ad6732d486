-- Bounds of a turn over a slice of n elements at index i. Assumes nothing.
use Rattle.std.proofs.Common.{ℕ, ◌+◌, ◌-◌, ◌*◌, ◌^◌, ◌<◌, ◌≤◌, arith}
use Rattle.std.proofs.Math.Nat.{mul-le-mul_right}

-- the byte offset of element i fits
pub offset_fits : (size i n : ℕ) → i < n → n * size < 2 ^ 63 → i * size < 2 ^ 64
offset_fits size i n l room = let below = mul-le-mul_right {m = i} {n = n} size (omega arith) in omega arith

pub next_fits : (i n : ℕ) → i < n → n < 2 ^ 64 → i + 1 < 2 ^ 64
next_fits i n l room = omega arith

pub next_le : (i n : ℕ) → i < n → i + 1 ≤ n
next_le i n l = omega arith

pub nearer : (i n : ℕ) → i < n → n - (i + 1) < n - i
nearer i n l = omega arith

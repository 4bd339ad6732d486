-- `text::plain::digits` meets its contract. Assumes nothing.
use mathlib.Core.Path.{◌≡◌, ap, sym}
use Prim.Native.Nat.{ℕ, ◌+◌, ◌*◌, ◌^◌, ◌≤◌, ◌<◌}
use native.Mathlib.Omega.{arith}
use lib.ListN.{length}
use Rattle.std.specs.Prelude.{Option, None, Some, IfNone, IfSome}
use Rattle.std.specs.Option.{unwrap_or}
use Rattle.text.specs.Dimacs.{decimal}
use Rattle.text.proofs.Decimal.{decimal_short, decimal_digits}
use Rattle.text.proofs.plain.digits.Goals as goal

counted : (r : Option ℕ) (k : ℕ) → IfNone r (k ≡ 0) → IfSome r (λ m. 10 ^ m ≤ k) → IfSome r (λ m. k < 10 * 10 ^ m) → unwrap_or r 0 + 1 ≡ length (decimal k)
counted None k z h l = sym (ap length (decimal_short k (omega arith)))
counted (Some m) k z h l = sym (decimal_digits m k h l)

pub returns-clause-count : goal.returns-clause-count
returns-clause-count c = omega (arith, counted _ _ c.checked_ilog10.ensures.none c.checked_ilog10.ensures.power_le c.checked_ilog10.ensures.next_power_gt)

-- Words written to a buffer one stretch after another. Assumes nothing.
use Rattle.std.proofs.Common.{◌≡◌, ℕ, ◌+◌, ◌-◌, ◌≤◌, List, ◌++◌, length, take, drop, ℤ, sym, ap, ◌∙◌, arith, length-append}
use borrow.Rule.Slice.PartMut.{put_mid}
use Rattle.bits.specs.Lists.{Put}
use Rattle.bits.proofs.Lists.{over_length, lent_over}
use Rattle.checking.proofs.lemmas.emitter.Parts.{lent_long}

-- the lent rest of a buffer from a place on
abbrev pub lent : ℕ → List ℤ → List ℤ
lent at out = take (length out - at) (drop at out)

abbrev pub with_lent : ℕ → List ℤ → List ℤ → List ℤ
with_lent at out last = put_mid at (length out - at) out last

module _ (front new first out : List ℤ) (at : ℕ) (p : Put at out front first) (enough : length (front ++ new) ≤ length first) where
  long : length out ≡ length first
  long = ap length p.buffer ∙ over_length front first (omega (arith, length-append front new))

  at_inside : at ≤ length out
  at_inside = omega (arith, long, p.count, length-append front new)

  -- the rest has room for what comes next
  pub rest_room : length new ≤ length (lent at out)
  rest_room = omega (arith, lent_long out at, long, p.count, length-append front new)

  pub put_next : (last : List ℤ) (words : ℕ) → Put words last new (lent at out) → Put (at + words) (with_lent at out last) (front ++ new) first
  put_next last words q =
      record { count = omega (arith, p.count, q.count, length-append front new); buffer = lent_over front new first out last at p.buffer (sym p.count) at_inside q.buffer }

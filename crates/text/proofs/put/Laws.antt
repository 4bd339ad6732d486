-- Writes in a row at the start of a buffer: the first one is lent all of it, and each later one the rest. Assumes nothing.
use mathlib.Core.Path.{◌≡◌, refl, sym, ap, ◌∙◌}
use mathlib.Core.List.{List, [], ◌++◌, append_assoc, append-nil}
use Prim.Native.Nat.{ℕ, ◌+◌, ◌-◌, ◌≤◌}
use native.Mathlib.Omega.{arith}
use lib.ListN.{length, take, drop, length-append}
use borrow.Rule.Slice.PartMut.{put_mid}
use Rattle.bits.specs.Lists.{Put}
use Rattle.circuit.proofs.Promises.{Written, written_none, written_more, written_put, put_as, rest_length}

pub written_start : {first out : List ℕ} {r : ℕ} {new : List ℕ} → Put r out new first → length out ≡ length first → Written first out r new
written_start p l = record { is = p.buffer; long = p.count; same = l }

pub written_on : {first out : List ℕ} {at : ℕ} {front : List ℕ} → Written first out at front → {r : ℕ} {last new : List ℕ} → Put r last new (take (length out - at) (drop at out))
    → length last ≡ length (take (length out - at) (drop at out)) → Written first (put_mid at (length out - at) out last) (at + r) (front ++ new)
written_on {first} {out} {at} {front} w {r} {last} {new} p l =
    written_more first out at front w r last new (omega (arith, w.long, ap length w.is, length-append front (drop (length front) first))) p l

-- what is left of the buffer
pub written_left : {first out : List ℕ} {at : ℕ} {front : List ℕ} → Written first out at front → at + length (take (length out - at) (drop at out)) ≡ length first
written_left {first} {out} {at} {front} w =
    let h : at ≤ length out = omega (arith, w.long, ap length w.is, length-append front (drop (length front) first)) in
    omega (arith, rest_length out at h, w.same)

-- two in a row
pub then_put : {first out : List ℕ} {r : ℕ} {new : List ℕ} → Put r out new first → length out ≡ length first → {s : ℕ} {last new-2 : List ℕ}
    → Put s last new-2 (take (length out - r) (drop r out)) → length last ≡ length (take (length out - r) (drop r out))
    → Put (r + s) (put_mid r (length out - r) out last) (new ++ new-2) first
then_put p l q k = written_put _ _ _ _ (written_on (written_start p l) q k)

-- what a loop keeps that writes a text piece by piece: `left` is what is still to be written
pub record Filling (text first out : List ℕ) (at : ℕ) (left : List ℕ) : Type 0 where
  pub front : List ℕ
  pub filled : Written first out at front
  pub parts : front ++ left ≡ text
  pub room : length text ≤ length first

pub filling_start : (text out : List ℕ) → length text ≤ length out → Filling text out out 0 text
filling_start text out h = record { front = []; filled = written_none out; parts = refl; room = h }

module _ {text first out : List ℕ} {at : ℕ} {left : List ℕ} (t : Filling text first out at left) where
  pub filling_at : at ≤ length out
  filling_at = omega (arith, ap length t.parts, length-append t.front left, t.room, t.filled.long, t.filled.same)

  -- the next piece, and what follows it
  pub filling_room : (new more : List ℕ) → left ≡ new ++ more → length new ≤ length (take (length out - at) (drop at out))
  filling_room new more e =
      omega (arith, ap length t.parts, length-append t.front left, t.room, t.filled.long, t.filled.same, rest_length out at filling_at, ap length e, length-append new more)

  pub filling_on : {new more : List ℕ} → left ≡ new ++ more → {r : ℕ} {last : List ℕ} → Put r last new (take (length out - at) (drop at out)) → length last ≡ length (take (length out - at) (drop at out))
      → Filling text first (put_mid at (length out - at) out last) (at + r) more
  filling_on {new} {more} e p l =
      record { front = t.front ++ new; filled = written_on t.filled p l; parts = append_assoc t.front new more ∙ ap (λ (x : List ℕ). t.front ++ x) (sym e) ∙ t.parts; room = t.room }

  pub filling_done : left ≡ [] → Put at out text first
  filling_done e = put_as _ _ _ _ _ (sym (append-nil t.front) ∙ ap (λ (x : List ℕ). t.front ++ x) (sym e) ∙ t.parts) (written_put _ _ _ _ t.filled)

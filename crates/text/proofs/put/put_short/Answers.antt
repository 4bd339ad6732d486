-- `text::put::put_short` meets its contract. Assumes nothing.
use mathlib.Core.Path.{sym, ap, ◌∙◌}
use mathlib.Core.List.{List, [], ◌∷◌}
use Prim.Native.Nat.{ℕ}
use native.Mathlib.Omega.{arith}
use lib.ListN.{length}
use lib.Seq.{sets-eq}
use Rattle.bits.specs.Lists.{over}
use Rattle.circuit.proofs.Promises.{put_as}
use Rattle.text.proofs.Decimal.{decimal_short, decimal_two}
use Rattle.text.proofs.put.put_short.Goals as goal

pub bounds-out-0 : goal.bounds-out-0
bounds-out-0 c = omega (arith, c.requires.1, ap length (decimal_short c.args.k c.if-k-lt10.true))

pub returns-then-k-lt10 : goal.returns-then-k-lt10
returns-then-k-lt10 c =
    let e = decimal_short c.args.k c.if-k-lt10.true in
    record {
      count = sym (ap length e);
      buffer =
          sets-eq (c.digit.result ∷ []) c.args.out.now 0 (omega (arith, c.requires.1, ap length e))
          ∙ ap (λ (x : ℕ). over (x ∷ []) c.args.out.now) c.digit.ensures
          ∙ ap (λ (l : List ℕ). over l c.args.out.now) (sym e);
    }

pub put_two-requires : goal.put_two-requires
put_two-requires c =
    (c.requires.0, omega (arith, c.requires.1, ap length (decimal_two c.args.k c.if-k-lt10.false c.requires.0)))

pub returns : goal.returns
returns c =
    put_as _ _ _ _ _ (sym (decimal_two c.args.k c.if-k-lt10.false c.requires.0)) c.put_two.ensures

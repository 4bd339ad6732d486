-- `text::put::put_two` meets its contract. Assumes nothing.
use mathlib.Core.Path.{refl, ap₂, ◌∙◌}
use mathlib.Core.List.{[], ◌∷◌}
use Prim.Native.Nat.{ℕ}
use lib.Seq.{sets-eq}
use Rattle.bits.specs.Lists.{over}
use Rattle.text.proofs.put.put_two.Goals as goal

pub returns : goal.returns
returns c =
    record {
      count = refl;
      buffer =
          sets-eq (c.digit.result ∷ c.digit-2.result ∷ []) c.args.out.now 0 c.requires.1
          ∙ ap₂ (λ (x y : ℕ). over (x ∷ y ∷ []) c.args.out.now) c.digit.ensures c.digit-2.ensures;
    }

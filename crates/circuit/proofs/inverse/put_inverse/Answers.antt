-- `circuit::inverse::put_inverse` meets its contract.
use Rattle.std.proofs.Common.{◌≡◌, ℕ, ◌-◌, List, length, sym, refl, ap, ◌∙◌, arith}
use borrow.Rule.Slice.PartMut.{same_len_mid}
use Rattle.bits.specs.Lists.{over}
use Rattle.circuit.proofs.lemmas.inverse.Laws.{back_none, back_turn, put_fits, put_short}
use Rattle.circuit.proofs.inverse.put_inverse.Goals as goal

pub loop-j-init : goal.loop-j-init
loop-j-init c =
    (omega arith, refl, sym (ap (λ (l : List ℕ). over l c.args.out.now) (back_none c.args.words.now)))

pub loop-j-preserved : goal.loop-j-preserved
loop-j-preserved c = (
  omega arith,
  same_len_mid c.loop-j.at (length c.loop-j.out - c.loop-j.at) c.loop-j.out c.store_gate.new.out c.store_gate.auto.out ∙ c.loop-j.invariant.1,
  back_turn c.args.words.now c.args.out.now c.loop-j.out _ c.loop-j.j c.loop-j.at _ (omega arith) (omega arith) (omega arith) c.loop-j.invariant.2 c.gate_at.ensures c.store_gate.ensures,
)

pub returns-then-out-j : goal.returns-then-out-j
returns-then-out-j c =
    sym (put_short c.args.words.now c.args.out.now c.if-out-j.true)

pub shape_of-out : goal.shape_of-out
shape_of-out c = c.loop-j.invariant.1

pub returns : goal.returns
returns c =
    let z : c.loop-j.j ≡ 0 = omega arith in
    rw z at c.loop-j.invariant.2 ∙ sym (put_fits _ _ (omega arith))

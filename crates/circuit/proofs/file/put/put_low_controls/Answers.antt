-- `circuit::file::put::put_low_controls` meets its contract.
use Rattle.std.proofs.Common.{◌+◌, ◌-◌, ◌<◌, ◌≤◌, Bool, ◌∷◌, length, ap, ◌∙◌, mod-eq_of_lt, arith}
use lib.Bits.{and_le_l}
use Rattle.bits.specs.Digits.{bit}
use Rattle.circuit.specs.Text.{tab, control_text}
use Rattle.circuit.proofs.lemmas.file.Numbers.{text_short}
use Rattle.circuit.proofs.lemmas.file.put.Laws.{putting_start, putting_room, putting_on, putting_done, line_below_n, rest_length}
use Rattle.circuit.proofs.file.put.put_low_controls.Goals as goal
use Rattle.circuit.proofs.file.put.put_low_controls.Goals.{After-lowest-k}

pub loop-left-init : goal.loop-left-init
loop-left-init c = (putting_start _ _ _ c.ranges.lines.fits c.requires.1, c.requires.0)

-- it is below 10, and its control has room
below : (c : After-lowest-k) → c.lowest-k.result < 10
below c = line_below_n _ _ _ _ _ _ c.loop-left.invariant.0 c.loop-left-test.true c.lowest-k.result c.lowest-k.ensures 10 (omega arith) c.loop-left.invariant.1

room : (c : After-lowest-k) → c.loop-left.at + 3 ≤ length c.loop-left.out
room c = omega (arith, putting_room _ _ _ _ _ _ c.loop-left.invariant.0 c.loop-left-test.true c.lowest-k.result c.lowest-k.ensures, ap length (text_short c.lowest-k.result (below c)))

pub put_low_control-at-requires : goal.put_low_control-at-requires
put_low_control-at-requires c =
    let t = (goal.at.put_low_control-at-requires c).After-lowest-k in
    (below t, omega (arith, room t, rest_length c.loop-left.out c.loop-left.at (omega (arith, room t))))

pub loop-left-preserved : goal.loop-left-preserved
loop-left-preserved c =
    let k : c.lowest-k.result < 10 = below (goal.at.loop-left-preserved c).After-lowest-k in (
      putting_on _ _ _ _ _ _ c.loop-left.invariant.0 c.loop-left-test.true c.lowest-k.result c.lowest-k.ensures _ _ _
          (ap (λ (b : Bool). tab ∷ control_text (record { line = c.lowest-k.result; positive = b })) (c.has.ensures ∙ ap (bit _) (mod-eq_of_lt (omega (arith, k))))) c.put_low_control-at.ensures c.put_low_control-at.auto.out,
      omega (arith, and_le_l c.loop-left.left (c.loop-left.left - 1), c.loop-left.invariant.1),
    )

pub returns : goal.returns
returns c = putting_done _ _ _ _ _ _ c.loop-left.invariant.0 c.loop-left-test.false

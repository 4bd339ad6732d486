-- `circuit::file::put::put_high_controls` meets its contract.
use Rattle.std.proofs.Common.{◌+◌, ◌<◌, ◌≤◌, Bool, ◌∷◌, length, ap, ◌∙◌, mod-eq_of_lt, arith}
use Rattle.bits.specs.Digits.{bit}
use Rattle.circuit.specs.Gate.{max_lines}
use Rattle.circuit.specs.Text.{tab, control_text}
use Rattle.circuit.proofs.lemmas.file.put.Cut.{text_above}
use Rattle.circuit.proofs.lemmas.file.put.Laws.{putting_start, putting_room, putting_on, putting_done, line_below, rest_length}
use Rattle.circuit.proofs.file.put.put_high_controls.Goals as goal
use Rattle.circuit.proofs.file.put.put_high_controls.Goals.{After-lowest-k}

pub loop-left-init : goal.loop-left-init
loop-left-init c = putting_start _ _ _ c.ranges.lines.fits c.requires

-- its digit is below 64, and its control has room
below : (c : After-lowest-k) → c.lowest-k.result < max_lines
below c = line_below _ _ _ _ _ _ c.loop-left.invariant c.loop-left-test.true c.lowest-k.result c.lowest-k.ensures

room : (c : After-lowest-k) → c.loop-left.at + 4 ≤ length c.loop-left.out
room c = omega (arith, putting_room _ _ _ _ _ _ c.loop-left.invariant c.loop-left-test.true c.lowest-k.result c.lowest-k.ensures, ap length (text_above c.lowest-k.result))

pub put_high_control-at-requires : goal.put_high_control-at-requires
put_high_control-at-requires c =
    let t = (goal.at.put_high_control-at-requires c).After-lowest-k in
    (omega (arith, below t), omega (arith, room t, rest_length c.loop-left.out c.loop-left.at (omega (arith, room t))))

pub loop-left-preserved : goal.loop-left-preserved
loop-left-preserved c =
    putting_on _ _ _ _ _ _ c.loop-left.invariant c.loop-left-test.true c.lowest-k.result c.lowest-k.ensures _ _ _
    (ap (λ (b : Bool). tab ∷ control_text (record { line = 10 + c.lowest-k.result; positive = b })) (c.has.ensures ∙ ap (bit _) (mod-eq_of_lt (below (goal.at.loop-left-preserved c).After-lowest-k)))) c.put_high_control-at.ensures c.put_high_control-at.auto.out

pub returns : goal.returns
returns c = putting_done _ _ _ _ _ _ c.loop-left.invariant c.loop-left-test.false

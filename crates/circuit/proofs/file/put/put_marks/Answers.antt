-- `circuit::file::put::put_marks` meets its contract.
use Rattle.std.proofs.Common.{◌≡◌, ◌+◌, ◌<◌, ◌≤◌, Bool, length, ap, ◌∙◌, mod-eq_of_lt, arith}
use Rattle.bits.specs.Digits.{bit}
use Rattle.circuit.specs.Gate.{max_lines}
use Rattle.circuit.specs.private.Put.{mark_line}
use Rattle.circuit.proofs.lemmas.file.put.Laws.{putting_start, putting_room, putting_on, putting_done, line_below, rest_length}
use Rattle.circuit.proofs.file.put.put_marks.Goals as goal
use Rattle.circuit.proofs.file.put.put_marks.Goals.{After-has}

-- it is below 64, its value was told, and its line has room
below : (c : After-has) → c.lowest-k.result < max_lines
below c = line_below _ _ _ _ _ _ c.loop-left.invariant c.loop-left-test.true c.lowest-k.result c.lowest-k.ensures

told : (c : After-has) → c.has.result ≡ bit c.args.values c.lowest-k.result
told c = c.has.ensures ∙ ap (bit c.args.values) (mod-eq_of_lt (below c))

room : (c : After-has) → c.loop-left.at + length (mark_line c.args.constant c.lowest-k.result (bit c.args.values c.lowest-k.result)) ≤ length c.loop-left.out
room c = putting_room _ _ _ _ _ _ c.loop-left.invariant c.loop-left-test.true c.lowest-k.result c.lowest-k.ensures

pub loop-left-init : goal.loop-left-init
loop-left-init c = putting_start _ _ _ c.ranges.mask.fits c.requires

pub put_mark-at-requires : goal.put_mark-at-requires
put_mark-at-requires c =
    let t = (goal.at.put_mark-at-requires c).After-has in
    (omega (arith, below t), omega (arith, room t, rest_length c.loop-left.out c.loop-left.at (omega (arith, room t)), ap (λ (b : Bool). length (mark_line c.args.constant c.lowest-k.result b)) (told t)))

pub loop-left-preserved : goal.loop-left-preserved
loop-left-preserved c =
    putting_on _ _ _ _ _ _ c.loop-left.invariant c.loop-left-test.true c.lowest-k.result c.lowest-k.ensures _ _ _
    (ap (mark_line c.args.constant c.lowest-k.result) (told (goal.at.loop-left-preserved c).After-has)) c.put_mark-at.ensures c.put_mark-at.auto.out

pub returns : goal.returns
returns c = putting_done _ _ _ _ _ _ c.loop-left.invariant c.loop-left-test.false

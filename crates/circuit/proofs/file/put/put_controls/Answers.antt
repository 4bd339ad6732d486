-- `circuit::file::put::put_controls` meets its contract. Assumes nothing.
use Rattle.std.proofs.Common.{sym, bit_or, arith}
use Rattle.circuit.proofs.lemmas.file.put.Cut.{controls_cut, controls_none, low_below, parts_long}
use Rattle.circuit.proofs.lemmas.file.put.Laws.{put_as, put_then, written_none, written_put, rest_length}
use Rattle.circuit.proofs.file.put.put_controls.Goals as goal

pub returns-then-lines-eq0 : goal.returns-then-lines-eq0
returns-then-lines-eq0 c =
    put_as _ _ _ _ _ (sym (controls_none c.args.positive c.args.negative c.if-lines-eq0.true)) (written_put _ _ _ _ (written_none c.args.out.now))

pub put_low_controls-at-requires : goal.put_low_controls-at-requires
put_low_controls-at-requires c =
    (low_below (bit_or c.args.positive c.args.negative), omega (arith, c.requires, parts_long c.args.positive c.args.negative c.ranges.positive.fits c.ranges.negative.fits))

pub put_high_controls-requires : goal.put_high_controls-requires
put_high_controls-requires c =
    let long = parts_long c.args.positive c.args.negative c.ranges.positive.fits c.ranges.negative.fits in
    let same = c.put_low_controls-at.auto.out in
    let at = c.put_low_controls-at.ensures.count in
    omega (arith, c.requires, long, same, at, rest_length c.put_low_controls-at.new.out c.put_low_controls-at.result (omega (arith, c.requires, long, same, at)))

pub returns : goal.returns
returns c =
    let long = parts_long c.args.positive c.args.negative c.ranges.positive.fits c.ranges.negative.fits in
    let same = c.put_low_controls-at.auto.out in
    put_as _ _ _ _ _ (sym (controls_cut c.args.positive c.args.negative c.ranges.positive.fits c.ranges.negative.fits))
    (put_then _ _ _ _ c.put_low_controls-at.ensures same _ _ _ (omega (arith, c.requires, long, same, c.put_low_controls-at.ensures.count)) c.put_high_controls.ensures c.put_high_controls.auto.out)

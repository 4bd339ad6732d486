-- `checking::emission::put_list` meets its contract. Assumes nothing.
use Rattle.std.proofs.Common.{arith}
use Rattle.checking.proofs.lemmas.emission.Whole.{lines_ready, last_few, last_fits, last_room, list_filled}
use Rattle.checking.proofs.emission.put_list.Goals as goal

pub put_differences-lines-requires : goal.put_differences-lines-requires
put_differences-lines-requires c =
    lines_ready _ _ _ _ c.requires _ _ _ _ _ c.put_front-front.ensures
    (omega (arith, c.put_front-front.auto.left, c.set_inputs.auto.current, c.requires.lines))
    (omega (arith, c.put_front-front.auto.right, c.set_inputs-2.auto.current, c.requires.lines))

pub put_last-requires-clause-few_lines : goal.put_last-requires-clause-few_lines
put_last-requires-clause-few_lines c = last_few _ _ _ _ c.requires _ _ _ _ _ c.put_front-front.ensures _ _ _ c.put_differences-lines.ensures

pub put_last-requires-clause-fits_word : goal.put_last-requires-clause-fits_word
put_last-requires-clause-fits_word c = last_fits _ _ _ _ c.requires _ _ _ _ _ c.put_front-front.ensures _ _ _ c.put_differences-lines.ensures

pub put_last-requires-clause-out_room : goal.put_last-requires-clause-out_room
put_last-requires-clause-out_room c = last_room _ _ _ _ c.requires _ _ _ _ _ c.put_front-front.ensures _ _ _ c.put_differences-lines.ensures

pub returns : goal.returns
returns c = list_filled _ _ _ _ c.requires _ _ _ _ _ c.put_front-front.ensures _ _ _ c.put_differences-lines.ensures c.put_last.new.out c.put_last.ensures

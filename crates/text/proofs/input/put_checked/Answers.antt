-- `text::input::put_checked` meets its contract. Assumes nothing.
use mathlib.Core.List.{append_assoc}
use Rattle.circuit.proofs.Promises.{written_put, put_as}
use Rattle.text.specs.CheckInput.{outputs_text}
use Rattle.text.proofs.put.Laws.{written_start, written_on}
use Rattle.text.proofs.input.put_checked.Goals as goal

pub returns : goal.returns
unfolding outputs_text
returns c =
    let w = written_on (written_start c.put_verdict-at.ensures c.put_verdict-at.auto.out) c.put_output-at.ensures c.put_output-at.auto.out in
    let v = written_on w c.put_output-at-2.ensures c.put_output-at-2.auto.out in
    put_as _ _ _ _ _ (simp (append_assoc, c.alike.ensures)) (written_put _ _ _ _ (written_on v c.put.ensures c.put.auto.out))

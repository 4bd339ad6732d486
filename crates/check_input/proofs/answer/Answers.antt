-- The rooms suffice and the text fits, so it is written whole, and the call refuses nothing. Assumes nothing.
use Rattle.std.proofs.Common.{length, sym, ap, ◌∙◌, rules}
use Rattle.text.specs.CheckInput.{check_text, input_buffer}
use Rattle.circuit.specs.Outcome.{outcome_of}
use Rattle.text.proofs.Inputs.{room_enough}
use Rattle.text.proofs.Writes.{served_put, served_ok}
use Rattle.check_input.proofs.answer.Goals as goal

pub unwrap-requires : goal.unwrap-requires
unwrap-requires c =
    let a = c.args in
    let r = c.requires in
    let room = room_enough a.first.now a.second.now a.state.now (length a.a.now) (length a.b.now) (length a.out.now) (r.first_room, r.second_room) r.out_room in
    rw (served_ok _ _ (c.check_input.ensures.answer ∙ room)) (search rules)

pub returns : goal.returns
unfolding input_buffer
returns c =
    let a = c.args in
    let r = c.requires in
    let room = room_enough a.first.now a.second.now a.state.now (length a.a.now) (length a.b.now) (length a.out.now) (r.first_room, r.second_room) r.out_room in
    served_put (check_text a.first.now a.second.now a.state.now) a.out.now _ _ _ room (sym c.check_input.ensures.answer ∙ ap outcome_of c.unwrap.ensures) c.check_input.ensures.buffer

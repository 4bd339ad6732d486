-- The rooms suffice and the text fits, so it is written whole, and the call refuses nothing. Assumes nothing.
use Rattle.std.proofs.Common.{length, sym, ap, ◌∙◌, rules}
use Rattle.text.specs.Compare.{compare_text, rooms, compare_buffer}
use Rattle.circuit.specs.Outcome.{outcome_of}
use Rattle.text.proofs.Longest.{room_enough}
use Rattle.text.proofs.Writes.{served_put, served_ok}
use Rattle.compare.proofs.answer.Goals as goal

pub unwrap-requires : goal.unwrap-requires
unwrap-requires c =
    let a = c.args in
    let r = c.requires in
    let lent = rooms (length a.a.now) (length a.b.now) (length a.miter.now) (length a.clauses.now) in
    let room = room_enough a.first.now a.second.now lent (length a.out.now) (r.first_room, r.second_room, r.miter_room, r.clause_room) r.out_room in
    rw (served_ok _ _ (c.compare.ensures.answer ∙ room)) (search rules)

pub returns : goal.returns
unfolding compare_buffer
returns c =
    let a = c.args in
    let r = c.requires in
    let lent = rooms (length a.a.now) (length a.b.now) (length a.miter.now) (length a.clauses.now) in
    let room = room_enough a.first.now a.second.now lent (length a.out.now) (r.first_room, r.second_room, r.miter_room, r.clause_room) r.out_room in
    served_put (compare_text a.first.now a.second.now) a.out.now _ _ _ room (sym c.compare.ensures.answer ∙ ap outcome_of c.unwrap.ensures) c.compare.ensures.buffer

-- The text fits, so it is written whole, and the call refuses nothing. Assumes nothing.
use Rattle.std.proofs.Common.{length, sym, ap, ◌∙◌, rules}
use Rattle.circuit.specs.Outcome.{outcome_of}
use Rattle.text.specs.Tomiter.{tomiter_text}
use Rattle.text.specs.Answers.{fit_buffer}
use Rattle.text.proofs.Sizes.{room_enough}
use Rattle.text.proofs.Writes.{served_put, served_ok}
use Rattle.tomiter.proofs.answer.Goals as goal

pub unwrap-requires : goal.unwrap-requires
unwrap-requires c =
    rw (served_ok _ _ (c.tomiter.ensures.answer ∙ room_enough c.args.input.now (length c.args.out.now) c.requires)) (search rules)

pub returns : goal.returns
unfolding fit_buffer
returns c =
    let room = room_enough c.args.input.now (length c.args.out.now) c.requires in
    served_put (tomiter_text c.args.input.now) c.args.out.now _ _ _ room (sym c.tomiter.ensures.answer ∙ ap outcome_of c.unwrap.ensures) c.tomiter.ensures.buffer

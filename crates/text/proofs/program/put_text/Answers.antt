-- `text::program::put_text` meets its contract. Assumes nothing.
use Rattle.std.proofs.Common.{◌≡◌, length, sym, ap, arith, length-take-le}
use Rattle.circuit.proofs.Promises.{put_as}
use Rattle.circuit.specs.Refusal.{refusal_number, refusal_place}
use Rattle.text.specs.FileOutcome.{refusal_text, refused_text, file_number}
use Rattle.text.specs.Tomiter.{verdict, tomiter_text}
use Rattle.text.proofs.Sizes.{text_fits}
use Rattle.text.proofs.answer.Laws.{refusal_long}
use Rattle.text.proofs.program.Laws.{Written, refusal_text_lem, list_text}
use Rattle.text.proofs.program.put_text.Goals as goal
use Rattle.text.proofs.program.put_text.Goals.{In-Ok, In-Err}

-- the refusal's text
refused : (c : In-Err) → refused_text c.in-Err.r ≡ tomiter_text c.args.input.now
unfolding tomiter_text
refused c = refusal_text_lem c.in-Err.r c.list.new.clauses (verdict c.args.input.now) c.in-Err.ensures

-- the clause list's text
listed : (c : In-Ok) → Written c.in-Ok.totals c.list.new.clauses (tomiter_text c.args.input.now)
unfolding tomiter_text
listed c = list_text _ c.list.new.clauses (verdict c.args.input.now) (omega (arith, c.list.auto)) c.in-Ok.ensures

pub slice_bounds-clauses-end : goal.slice_bounds-clauses-end
slice_bounds-clauses-end c = (listed (goal.at.slice_bounds-clauses-end c).In-Ok).inside

pub slice_bounds-put_list-end : goal.slice_bounds-put_list-end
slice_bounds-put_list-end c = sym (length-take-le _ _ (listed (goal.at.slice_bounds-put_list-end c).In-Ok).inside)

pub put_list-requires : goal.put_list-requires
put_list-requires c =
    let w = listed (goal.at.put_list-requires c).In-Ok in
    record { stores_list = w.stores; out_room = omega (arith, ap length w.text, text_fits c.args.input.now, c.requires) }

pub put_three-requires : goal.put_three-requires
put_three-requires c =
    let r = c.in-Err.r in
    rw (c.number.ensures, c.number-in-Err.ensures, c.place.ensures)
    (omega (arith, ap length (refused (goal.at.put_three-requires c).In-Err), refusal_long (refusal_number r.why) (file_number r.file) (refusal_place r.why), text_fits c.args.input.now, c.requires))

pub returns-in-Ok : goal.returns-in-Ok
returns-in-Ok c = put_as _ _ _ _ _ (listed (goal.at.returns-in-Ok c).In-Ok).text c.put_list.ensures

pub returns-in-Err : goal.returns-in-Err
unfolding refusal_text
returns-in-Err c =
    put_as _ _ _ _ _ (refused (goal.at.returns-in-Err c).In-Err)
    (rw (c.number.ensures, c.number-in-Err.ensures, c.place.ensures) at c.put_three.ensures)

-- `text::pair::StartRead::read` meets its contract. Assumes nothing.
use Rattle.std.proofs.Common.{◌*◌, ◌++◌, take, drop, List, sym, ap, ◌∙◌, arith, length-take-le}
use Rattle.std.proofs.lemmas.Result.{err_from_is_err_and}
use Rattle.circuit.specs.declared.gate.Gate.{Gate}
use Rattle.circuit.specs.Outcome.{served}
use Rattle.text.proofs.list.Laws.{FileRead, file_bad, file_read, read_within, own_count}
use Rattle.text.proofs.pair.StartRead.read.Goals as goal
use Rattle.text.proofs.pair.StartRead.read.Goals.{In_ok-counts}

-- the file was read, and the rest of the room stands behind
whole : (c : In_ok-counts) → FileRead c.args.text.now c.args.most c.in_ok-counts.counts.header c.in_ok-counts.counts.gates c.in_ok-counts.counts.taken (c.read.new.out ++ drop (3 * c.args.most) c.args.room.now)
whole c =
    read_within _ (file_read _ c.args.most (take (3 * c.args.most) c.args.room.now) (length-take-le _ _ c.requires.long) _ _ _ c.read.new.out (sym c.in_ok-counts.ensures.answer) c.in_ok-counts.ensures.buffer)

pub returns-in_err-counts : goal.returns-in_err-counts
returns-in_err-counts c =
    let p = err_from_is_err_and c.from_residual.result c.from_residual.ensures.1 in
    rw (p.1, p.2) (sym (file_bad c.args.text.now c.args.most (take (3 * c.args.most) c.args.room.now) (length-take-le _ _ c.requires.long) _ _ (sym c.in_err-counts.ensures.answer)))

pub overflow_mul-result : goal.overflow_mul-result
overflow_mul-result c = omega (arith, (whole (goal.at.overflow_mul-result c).In_ok-counts).few, c.requires.few)

pub slice_bounds-result-end : goal.slice_bounds-result-end
slice_bounds-result-end c = sym (length-take-le _ _ (whole (goal.at.slice_bounds-result-end c).In_ok-counts).inside)

pub invariant_of-result : goal.invariant_of-result
invariant_of-result c =
    let w = whole (goal.at.invariant_of-result c).In_ok-counts in
    record { cascade = own_count _ _ w.words; few = omega (arith, length-take-le _ _ w.inside, w.few, c.requires.few) }

pub returns : goal.returns
returns c =
    let w = whole (goal.at.returns c).In_ok-counts in
    ap (λ (gs : List Gate). served (record { header = c.in_ok-counts.counts.header; gates = gs; taken = c.in_ok-counts.counts.taken })) w.gates_are ∙ sym w.is

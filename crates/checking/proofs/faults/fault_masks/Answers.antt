-- `checking::faults::fault_masks` meets its contract. Assumes nothing.
use Rattle.std.proofs.Common.{sym, refl, ap, ◌∙◌, arith}
use Rattle.circuit.specs.Gate.{max_lines, max_gates}
use Rattle.circuit.specs.Outcome.{served}
use Rattle.circuit.specs.Words.{Cascade, gates_of}
use Rattle.circuit.proofs.Promises.{valid_all_more}
use Rattle.checking.specs.private.Narrowing.{narrowed_by}
use Rattle.checking.proofs.lemmas.faults.Loops.{fault_suspect, fault_told, fault_made, all_narrowed}
use Rattle.checking.proofs.faults.fault_masks.Goals as goal
use Rattle.checking.proofs.faults.fault_masks.Goals.{In_ok-gates}

-- the suspect is a cascade
suspect : (c : In_ok-gates) → Cascade c.args.ha.lines c.args.suspect.now max_gates c.in_ok-gates.gates
suspect c = fault_suspect _ _ _ _ _ _ (sym c.in_ok-gates.ensures)

pub overflow_mul-gates : goal.overflow_mul-gates
overflow_mul-gates c = omega (arith, (suspect (goal.at.overflow_mul-gates c).In_ok-gates).few)

pub start_masks-requires : goal.start_masks-requires
start_masks-requires c =
    let k = suspect (goal.at.start_masks-requires c).In_ok-gates in
    record { few_lines = k.lines_high; valid_gates = k.gates; mask_room = omega (arith, k.size) }

pub invariant_of-narrow_all : goal.invariant_of-narrow_all
invariant_of-narrow_all c =
    let k = suspect (goal.at.invariant_of-narrow_all c).In_ok-gates in
    record { tested = valid_all_more c.args.ha.lines max_lines (gates_of c.args.suspect.now) k.lines_high k.gates }

pub narrow_all-requires : goal.narrow_all-requires
narrow_all-requires c = omega (arith, (suspect (goal.at.narrow_all-requires c).In_ok-gates).size, c.start_masks.auto.out)

pub returns : goal.returns
returns c =
    fault_told _ _ _ _ _ _ _ (served c.in_ok-gates.gates) _ refl (fault_made _ _ _ _ _ _ _ (sym c.in_ok-gates.ensures) c.if-out-gates.false)
    (c.narrow_all.ensures
    ∙ ap (narrowed_by (gates_of c.args.suspect.now) c.args.states.now) c.start_masks.ensures
    ∙ all_narrowed c.args.ha.lines (gates_of c.args.suspect.now) c.args.states.now c.args.out.now (suspect (goal.at.returns c).In_ok-gates).lines_high)

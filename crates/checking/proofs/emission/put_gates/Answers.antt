-- `checking::emission::put_gates` meets its contract.
use Rattle.std.proofs.Common.{◌<◌, ◌/◌, ◌≡◌, length, arith, ◌∙◌}
use Rattle.circuit.specs.Gate.{max_lines}
use Rattle.circuit.specs.Words.{gates_of}
use Rattle.circuit.proofs.Promises.{gates_length, valid_facts, valid_more}
use Rattle.checking.specs.private.Emission.{ordered}
use Rattle.checking.proofs.lemmas.emission.Gates.{ordered_length, emitted_none, gate_good, gate_ready, emitted_next, emitted_all}
use Rattle.checking.proofs.emission.put_gates.Goals as goal
use Rattle.checking.proofs.emission.put_gates.Goals.{Start, After-ordered_gate-g}

count : (c : Start) → length (ordered c.args.reversed (gates_of c.args.words.now)) ≡ length c.args.words.now / 3
count c = ordered_length c.args.reversed (gates_of c.args.words.now) ∙ gates_length c.args.words.now

turn : (c : After-ordered_gate-g) → c.loop-i.i < length (ordered c.args.reversed (gates_of c.args.words.now))
turn c = omega (arith, ordered_length c.args.reversed (gates_of c.args.words.now), gates_length c.args.words.now, c.loop-i-test.true)

target_below : (c : After-ordered_gate-g) → c.ordered_gate-g.result.target < c.args.n
target_below c = (valid_facts _ _ (gate_good _ _ _ _ _ _ _ _ _ _ c.requires c.loop-i.invariant (turn c) _ c.ordered_gate-g.ensures)).target_below

pub loop-i-init : goal.loop-i-init
loop-i-init c = emitted_none _ _ _ _ _ c.requires

pub control_count-k-requires : goal.control_count-k-requires
control_count-k-requires c =
    valid_more c.args.n max_lines c.ordered_gate-g.result c.requires.lines
    (gate_good _ _ _ _ _ _ _ _ _ _ c.requires c.loop-i.invariant (turn (goal.at.control_count-k-requires c).After-ordered_gate-g) c.ordered_gate-g.result c.ordered_gate-g.ensures)

pub put_gate-at-requires : goal.put_gate-at-requires
put_gate-at-requires c =
    gate_ready _ _ _ _ _ _ _ _ _ _ c.requires c.loop-i.invariant (turn (goal.at.put_gate-at-requires c).After-ordered_gate-g) c.ordered_gate-g.result c.ordered_gate-g.ensures

pub offset_bounds-current-target : goal.offset_bounds-current-target
offset_bounds-current-target c = omega (arith, target_below (goal.at.offset_bounds-current-target c).After-ordered_gate-g, c.requires.lines)

pub bounds-current-target : goal.bounds-current-target
bounds-current-target c = omega (arith, target_below (goal.at.bounds-current-target c).After-ordered_gate-g, c.requires.long, c.loop-i.invariant.kept)

pub loop-i-preserved : goal.loop-i-preserved
loop-i-preserved c =
    emitted_next _ _ _ _ _ _ _ _ _ _ c.requires c.loop-i.invariant (turn (goal.at.loop-i-preserved c).After-ordered_gate-g) c.ordered_gate-g.result c.ordered_gate-g.ensures c.put_gate-at.new.out
    c.put_gate-at.result c.control_count-k.result c.new_variable-used.result
    c.put_gate-at.ensures.count c.put_gate-at.ensures.buffer c.control_count-k.ensures c.new_variable-used.ensures

pub returns : goal.returns
returns c =
    emitted_all _ _ _ _ _ _ _ _ _ c.loop-i.i (omega (arith, count (goal.at.returns c).Start)) c.loop-i.invariant

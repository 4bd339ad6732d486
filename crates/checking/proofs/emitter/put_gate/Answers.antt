-- `checking::emitter::put_gate` meets its contract. Assumes nothing.
use Rattle.std.proofs.Common.{◌≡◌, ◌%◌, ◌<◌, ap, ◌∙◌, arith}
use Rattle.std.proofs.lemmas.Grind.{common_steps}
use Rattle.bits.specs.Digits.{bit}
use Rattle.circuit.specs.Gate.{max_lines}
use Rattle.circuit.proofs.Promises.{valid_more}
use Rattle.checking.proofs.lemmas.emitter.Whole.{target_below, target_small, written_none, line_below, written_one}
use Rattle.checking.proofs.emitter.put_gate.Goals as goal
use Rattle.checking.proofs.emitter.put_gate.Goals.{After-lowest-line}

pub offset_bounds-current-target : goal.offset_bounds-current-target
offset_bounds-current-target c = omega (arith, target_below _ _ _ _ _ c.requires, c.requires.currents.lines)

pub bounds-current-target : goal.bounds-current-target
bounds-current-target c = omega (arith, target_below _ _ _ _ _ c.requires, c.requires.currents.long)

pub control_count-k-requires : goal.control_count-k-requires
control_count-k-requires c = valid_more c.args.n max_lines c.args.g c.requires.currents.lines c.requires.gate

pub literal-requires-then-k-eq0 : goal.literal-requires-then-k-eq0
literal-requires-then-k-eq0 c = target_small _ _ _ _ _ c.requires

pub returns-then-k-eq0 : goal.returns-then-k-eq0
returns-then-k-eq0 c =
    let w = written_none _ _ _ _ _ c.requires _ c.control_count-k.ensures c.if-k-eq0.true in
    grind (arith, common_steps)

-- the line of the one control
line_in : (c : After-lowest-line) → c.lowest-line.result < c.args.n
line_in c = line_below _ _ _ _ _ c.requires _ c.control_count-k.ensures (omega arith) c.lowest-line.result c.lowest-line.ensures

pub bounds-current-line : goal.bounds-current-line
bounds-current-line c = omega (arith, line_in (goal.at.bounds-current-line c).After-lowest-line, c.requires.currents.long)

pub literal-c-requires : goal.literal-c-requires
literal-c-requires c = c.requires.currents.small _ (line_in (goal.at.literal-c-requires c).After-lowest-line)

pub literal-requires-3 : goal.literal-requires-3
literal-requires-3 c = target_small _ _ _ _ _ c.requires

pub returns : goal.returns
returns c =
    let w = written_one _ _ _ _ _ c.requires _ c.control_count-k.ensures (omega arith) c.lowest-line.result c.lowest-line.ensures in
    let below : c.lowest-line.result % max_lines ≡ c.lowest-line.result = omega (arith, line_in (goal.at.returns c).After-lowest-line, c.requires.currents.lines) in
    let sign : c.has.result ≡ bit c.args.g.positive c.lowest-line.result = c.has.ensures ∙ ap (bit c.args.g.positive) below in
    grind (arith, common_steps)

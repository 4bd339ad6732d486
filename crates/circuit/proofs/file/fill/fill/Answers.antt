-- `circuit::file::fill::fill` meets its contract.
use Rattle.std.proofs.Common.{◌≡◌, ◌+◌, ◌*◌, ◌≤◌, List, length, ap, arith}
use Rattle.circuit.specs.declared.gate.Gate.{Gate}
use Rattle.circuit.specs.declared.file.fill.GateRead.{GateRead}
use Rattle.circuit.specs.private.Fill.{GatesAt}
use Rattle.circuit.proofs.lemmas.file.fill.Laws.{filling_start, NextLine, filling_next}
use Rattle.circuit.proofs.file.fill.fill.Goals as goal
use Rattle.circuit.proofs.file.fill.fill.Goals.{In-loop-i}

pub loop-i-init : goal.loop-i-init
loop-i-init c = λ gs s e. filling_start _ gs _ _ s

-- the line at the position
next : (c : In-loop-i) (gs : List Gate) (s : GatesAt c.args.text.now c.args.start gs)
    (e : length gs ≡ c.args.gates) → NextLine _ gs _ _ _ _ (c.loop-i.invariant gs s e)
next c gs s e = filling_next _ gs _ _ _ _ (c.loop-i.invariant gs s e) (omega (arith, c.loop-i-test.true))

pub gate_line-read-requires : goal.gate_line-read-requires
gate_line-read-requires c =
    let (gs, s, e) = c.requires.0 in
    let n = next (goal.at.gate_line-read-requires c).In-loop-i gs s e in
    (n.gate, n.here)

-- the gate's words fit
room : (c : In-loop-i) → 3 * c.loop-i.i + 3 ≤ length c.loop-i.out
room c = omega (arith, c.loop-i-test.true, c.loop-i.auto.out, c.requires.1)

pub loop-i-preserved : goal.loop-i-preserved
loop-i-preserved c =
    λ gs s e.
    let n = next (goal.at.loop-i-preserved c).In-loop-i gs s e in
    let r = c.gate_line-read.ensures n.gate n.here in
    n.step (room (goal.at.loop-i-preserved c).In-loop-i) _ _ (ap (λ (x : GateRead). x.next) r) (ap (λ (x : GateRead). x.gate) r) _ c.store_gate.ensures

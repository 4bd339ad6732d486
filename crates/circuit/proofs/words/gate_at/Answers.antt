-- `circuit::words::gate_at` meets its contract. Assumes nothing.
use Rattle.std.proofs.Common.{sym, ◌∙◌, arith}
use Rattle.circuit.proofs.lemmas.words.Gates.{gate_at_lem, gate_none}
use Rattle.circuit.proofs.words.gate_at.Goals as goal

pub returns-then-i-words : goal.returns-then-i-words
returns-then-i-words c = sym (gate_at_lem c.args.words.now c.args.i (omega arith))

pub returns : goal.returns
returns c = c.not.ensures ∙ sym (gate_none c.args.words.now c.args.i (omega arith))

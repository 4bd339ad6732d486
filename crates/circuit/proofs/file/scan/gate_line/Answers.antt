-- `circuit::file::scan::gate_line` meets its contract. Assumes nothing.
use Rattle.std.proofs.Common.{sym, ◌∙◌}
use Rattle.circuit.proofs.lemmas.file.scan.Rest.{target_ready}
use Rattle.circuit.proofs.file.scan.gate_line.Goals as goal

pub controls-requires : goal.controls-requires
controls-requires c =
    target_ready c.args.text.now c.args.start (sym c.starts_with.ensures.value ∙ c.if-not-starts_with.false) _ _ _ c.if-gates-ge-MAX_GATES.false _ (sym c.in_ok-k.ensures) c.requires.1

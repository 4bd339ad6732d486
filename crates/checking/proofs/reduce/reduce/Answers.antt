-- `checking::reduce::reduce` meets its contract. Assumes nothing.
use Rattle.std.proofs.Common.{sym, arith}
use Rattle.circuit.specs.Gate.{max_lines}
use Rattle.circuit.proofs.Promises.{check_served, valid_all_more}
use Rattle.checking.proofs.reduce.reduce.Goals as goal

pub reduce_gates-requires : goal.reduce_gates-requires
reduce_gates-requires c =
    let k = check_served _ _ _ _ (sym c.in_ok-check_cascade.ensures) in
    record { whole_gates = omega (arith, k.size); valid_gates = valid_all_more _ max_lines _ k.lines_high k.gates }

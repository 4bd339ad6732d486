-- `checking::pair::pair_totals` meets its contract. Assumes nothing.
use Rattle.std.proofs.Common.{arith}
use lib.Count.{ones-le}
use Rattle.circuit.proofs.Promises.{marks_facts}
use Rattle.checking.proofs.pair.pair_totals.Goals as goal

pub overflow_sub-counted : goal.overflow_sub-counted
overflow_sub-counted c = omega (arith, c.count.ensures.0, ones-le c.args.h.lines c.args.h.junk (marks_facts c.args.h c.requires.marks).1)

-- `checking::compare::outputs_differ` meets its contract. Assumes nothing.
use Rattle.std.proofs.Common.{not, ◌∙◌, ap, ap₂}
use Rattle.circuit.specs.Header.{alike}
use Rattle.circuit.proofs.Promises.{tested_run}
use Rattle.checking.proofs.compare.outputs_differ.Goals as goal

pub returns : goal.returns
returns c =
    ap not (c.alike.ensures ∙ ap₂ (alike c.args.h) (c.run_tested.ensures ∙ tested_run _ c.args.a.tested _) (c.run_tested-2.ensures ∙ tested_run _ c.args.b.tested _))

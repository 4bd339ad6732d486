-- `text::comparison::list_gates` meets its contract. Assumes nothing.
use Rattle.std.proofs.Common.{ap, ◌∙◌}
use Rattle.text.specs.private.Comparing.{listed_as}
use Rattle.text.proofs.comparison.Laws.{gates_say}
use Rattle.text.proofs.comparison.list_gates.Goals as goal

pub returns : goal.returns
returns c =
    gates_say _ _ c.requires.miter_cascade c.args.clauses.now _ c.requires.clause_room c.emit.ensures.buffer _ (c.listed.ensures ∙ ap listed_as c.emit.ensures.answer)

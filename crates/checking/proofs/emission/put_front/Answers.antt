-- `checking::emission::put_front` meets its contract.
use Rattle.std.proofs.Common.{sym, ◌∙◌}
use Rattle.checking.proofs.lemmas.emission.Front.{constants_ready, first_ready, second_ready, marked_put, miter_ready, back_ready, unmarked_put}
use Rattle.checking.proofs.emission.put_front.Goals as goal

-- ---- with marks

pub put_constants-start-requires : goal.put_constants-start-requires
put_constants-start-requires c = constants_ready _ _ _ _ _ _ c.requires (sym c.marked.ensures ∙ c.if-marked.true)

pub put_gates-first-requires : goal.put_gates-first-requires
put_gates-first-requires c = first_ready _ _ _ _ _ _ c.requires (sym c.marked.ensures ∙ c.if-marked.true) _ _ c.put_constants-start.ensures

pub put_gates-second-requires : goal.put_gates-second-requires
put_gates-second-requires c =
    second_ready _ _ _ _ _ _ c.requires (sym c.marked.ensures ∙ c.if-marked.true) _ _ c.put_constants-start.ensures _ _ _ _ c.put_gates-first.ensures

pub returns-then-marked : goal.returns-then-marked
returns-then-marked c =
    marked_put _ _ _ _ _ _ c.requires (sym c.marked.ensures ∙ c.if-marked.true) _ _ c.put_constants-start.ensures _ _ _ _ c.put_gates-first.ensures _ _ _ _ c.put_gates-second.ensures

-- ---- without

pub put_gates-first-requires-2 : goal.put_gates-first-requires-2
put_gates-first-requires-2 c = miter_ready _ _ _ _ _ _ c.requires (sym c.marked.ensures ∙ c.if-marked.false)

pub put_gates-second-requires-2 : goal.put_gates-second-requires-2
put_gates-second-requires-2 c =
    back_ready _ _ _ _ _ _ c.requires (sym c.marked.ensures ∙ c.if-marked.false) _ _ _ _ c.put_gates-first-2.auto.current c.put_gates-first-2.ensures

pub returns : goal.returns
returns c =
    unmarked_put _ _ _ _ _ _ c.requires (sym c.marked.ensures ∙ c.if-marked.false) _ _ _ _ c.put_gates-first-2.auto.current c.put_gates-first-2.ensures _ _ _ _ c.put_gates-second-2.ensures

-- `checking::step::scan_after` meets its contract.
use Rattle.std.proofs.Common.{sym, ap, ◌∙◌, arith}
use Rattle.checking.specs.private.StepCode.{from_gate}
use Rattle.checking.proofs.lemmas.step.Relation.{target_low}
use Rattle.checking.proofs.lemmas.step.Searching.{words_hit, words_stop, words_on, words_end}
use Rattle.checking.proofs.step.scan_after.Goals as goal

pub returns-in-Some : goal.returns-in-Some
returns-in-Some c =
    sym (ap (from_gate c.args.i) (c.loop-j.invariant ∙ words_hit _ _ _ _ (omega arith) c.gate_at-h.ensures _ (sym c.in-Some.ensures)))

pub may_pass-requires-clause-first_target : goal.may_pass-requires-clause-first_target
may_pass-requires-clause-first_target c = target_low c.args.gates.words.now c.args.i _ c.args.gates.tested c.requires c.gate_at-g.ensures

pub may_pass-requires-clause-second_target : goal.may_pass-requires-clause-second_target
may_pass-requires-clause-second_target c = target_low c.args.gates.words.now c.loop-j.j _ c.args.gates.tested (omega arith) c.gate_at-h.ensures

pub returns-then-not-may_pass : goal.returns-then-not-may_pass
returns-then-not-may_pass c =
    sym (ap (from_gate c.args.i) (c.loop-j.invariant ∙ words_stop _ _ _ _ (omega arith) c.gate_at-h.ensures (sym c.in_default.ensures) (sym c.may_pass.ensures ∙ c.if-not-may_pass.true)))

pub loop-j-preserved : goal.loop-j-preserved
loop-j-preserved c =
    c.loop-j.invariant ∙ words_on _ _ _ _ (omega arith) c.gate_at-h.ensures (sym c.in_default.ensures) (sym c.may_pass.ensures ∙ c.if-not-may_pass.false)

pub returns : goal.returns
returns c = sym (ap (from_gate c.args.i) (c.loop-j.invariant ∙ words_end _ _ _ (omega arith)))

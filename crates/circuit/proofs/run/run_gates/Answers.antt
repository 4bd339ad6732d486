-- `circuit::run::run_gates` meets its contract.
use Rattle.std.proofs.Common.{sym, ◌∙◌, arith}
use Rattle.std.proofs.lemmas.Result.{err_from_is_err_and}
use Rattle.circuit.specs.Words.{gates_of}
use Rattle.circuit.proofs.lemmas.run.Laws.{gate_passed, gate_stopped, none_ran}
use Rattle.circuit.proofs.lemmas.words.Gates.{gates_length}
use Rattle.circuit.proofs.run.run_gates.Goals as goal

pub loop-i-preserved : goal.loop-i-preserved
loop-i-preserved c =
    c.loop-i.invariant
    ∙ gate_passed c.args.n (gates_of c.args.words.now) c.loop-i.i c.loop-i.s (omega (arith, gates_length c.args.words.now)) _ c.gate_at.ensures _ c.in_ok-s.ensures

pub returns-in_err-s : goal.returns-in_err-s
returns-in_err-s c =
    let p = err_from_is_err_and c.from_residual.result c.from_residual.ensures.1 in
    rw (p.1, p.2) (sym (c.loop-i.invariant
    ∙ gate_stopped c.args.n (gates_of c.args.words.now) c.loop-i.i c.loop-i.s (omega (arith, gates_length c.args.words.now)) _ c.gate_at.ensures _ _ c.in_err-s.ensures))

pub returns : goal.returns
returns c = sym (c.loop-i.invariant ∙ none_ran c.args.n (gates_of c.args.words.now) c.loop-i.i c.loop-i.s (omega (arith, gates_length c.args.words.now)))

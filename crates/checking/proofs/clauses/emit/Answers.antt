-- `checking::clauses::emit` meets its contract. Assumes nothing.
use Rattle.std.proofs.Common.{[], length, sym, ap, ◌∙◌, subst, List}
use Rattle.bits.specs.Lists.{over}
use Rattle.circuit.specs.declared.header.Header.{Header}
use Rattle.circuit.specs.Words.{gates_of}
use Rattle.checking.specs.Clauses.{Clause}
use Rattle.checking.specs.Pair.{pair_clauses}
use Rattle.checking.specs.Stored.{stored}
use Rattle.checking.specs.private.Emission.{ListReady}
use Rattle.checking.proofs.lemmas.clauses.Answers.{list_ready, alone_list, emit_served}
use Rattle.checking.proofs.clauses.emit.Goals as goal

pub put_list-requires : goal.put_list-requires
put_list-requires c =
    subst (λ (h : Header). ListReady h (gates_of c.args.words.now) (gates_of []) (length c.args.out.now)) (sym c.unmarked.ensures)
    (list_ready c.args.n c.args.words.now c.args.out.now c.in_ok-totals.totals (sym c.in_ok-totals.ensures) c.if-out-totals.false)

pub returns : goal.returns
returns c =
    emit_served c.args.n c.args.words.now c.args.out.now c.in_ok-totals.totals (sym c.in_ok-totals.ensures) c.put_list.new.out c.if-out-totals.false
    (c.put_list.ensures
    ∙ ap (λ (h : Header). over (stored (pair_clauses h (gates_of c.args.words.now) (gates_of []))) c.args.out.now) c.unmarked.ensures
    ∙ ap (λ (cs : List Clause). over (stored cs) c.args.out.now) (alone_list c.args.n (gates_of c.args.words.now)))

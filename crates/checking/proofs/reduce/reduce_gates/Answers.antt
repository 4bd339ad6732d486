-- `checking::reduce::reduce_gates` meets its contract.
use Rattle.std.proofs.Common.{◌≡◌, sym, ap, ⊎_elim, arith}
use Rattle.checking.specs.Match.{of_kind}
use Rattle.checking.proofs.lemmas.step.Calls.{found_at}
use Rattle.checking.proofs.lemmas.reduce.Turns.{standing_first, lent_valid, ended, fewer, onward, pairs_of, merges_of}
use Rattle.checking.proofs.reduce.reduce_gates.Goals as goal

pub loop-found-init : goal.loop-found-init
loop-found-init c = standing_first _ c.requires.whole_gates c.requires.valid_gates

pub invariant_of-search_gates : goal.invariant_of-search_gates
invariant_of-search_gates c = record { tested = lent_valid _ c.loop-found.words c.loop-found.gates c.loop-found.pairs c.loop-found.merges c.loop-found.invariant }

pub make_step-s-requires-clause-found_at : goal.make_step-s-requires-clause-found_at
make_step-s-requires-clause-found_at c = found_at _ _ (sym c.in-Some.ensures)

pub loop-found-smaller-in-Cancel : goal.loop-found-smaller-in-Cancel
loop-found-smaller-in-Cancel c = fewer _ c.loop-found.words c.loop-found.gates c.loop-found.pairs c.loop-found.merges c.loop-found.invariant _ _ c.make_step-s.ensures

pub loop-found-preserved-in-Cancel : goal.loop-found-preserved-in-Cancel
loop-found-preserved-in-Cancel c =
    onward _ c.loop-found.words c.loop-found.gates c.loop-found.pairs c.loop-found.merges c.loop-found.invariant _ _ c.make_step-s.ensures _ _
    (omega (arith, ap pairs_of (ap of_kind c.in-Cancel.is))) (omega (arith, ap merges_of (ap of_kind c.in-Cancel.is)))

pub loop-found-smaller : goal.loop-found-smaller
loop-found-smaller c = fewer _ c.loop-found.words c.loop-found.gates c.loop-found.pairs c.loop-found.merges c.loop-found.invariant _ _ c.make_step-s.ensures

pub loop-found-preserved : goal.loop-found-preserved
loop-found-preserved c =
    let counts : (pairs_of (of_kind c.make_step-s.result.kind) ≡ 0) × (merges_of (of_kind c.make_step-s.result.kind) ≡ 1) = ⊎_elim (λ e. (ap pairs_of (ap of_kind e), ap merges_of (ap of_kind e))) (λ e. (ap pairs_of (ap of_kind e), ap merges_of (ap of_kind e))) c.in-RemoveControl.is in
    onward _ c.loop-found.words c.loop-found.gates c.loop-found.pairs c.loop-found.merges c.loop-found.invariant _ _ c.make_step-s.ensures _ _ (omega arith) (omega arith)

pub returns : goal.returns
returns c = ended _ c.loop-found.words c.loop-found.gates c.loop-found.pairs c.loop-found.merges c.loop-found.invariant (sym c.in_default.ensures)

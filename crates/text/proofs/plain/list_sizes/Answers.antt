-- `text::plain::list_sizes` meets its contract. Assumes nothing.
use mathlib.Core.Path.{subst}
use native.Mathlib.Omega.{arith}
use lib.IntN.{ℤ}
use borrow.Author.Rules.{rules}
use Rattle.text.specs.private.Words.{Plainable}
use Rattle.text.proofs.stored.Sizing.{sizing_start, bytes_room, clauses_room, sizing_on, sizing_done}
use Rattle.text.proofs.plain.list_sizes.Goals as goal

pub loop-record-init : goal.loop-record-init
loop-record-init c = rw c.into_iter-record-iterator.ensures.into_iter_gives (c.requires, tt, sizing_start _ c.requires)

pub record_size-bytes-requires : goal.record_size-bytes-requires
record_size-bytes-requires c = subst (λ (z : ℤ). Plainable z c.in-Some.record.literals.now) (search rules) c.in-Some.ensures.steps.1

pub overflow_add-bytes : goal.overflow_add-bytes
overflow_add-bytes c = let h = bytes_room c.loop-record.invariant.2 c.in-Some.record.kind c.in-Some.record.literals.now c.in-Some.ensures.steps.0 _ (search rules) _ c.record_size-bytes.ensures in omega arith

pub record_clauses-clauses-requires : goal.record_clauses-clauses-requires
record_clauses-clauses-requires c = subst (λ (z : ℤ). Plainable z c.in-Some.record.literals.now) (search rules) c.in-Some.ensures.steps.1

pub overflow_add-clauses : goal.overflow_add-clauses
overflow_add-clauses c = let h = clauses_room c.loop-record.invariant.2 c.in-Some.record.kind c.in-Some.record.literals.now c.in-Some.ensures.steps.0 _ (search rules) _ c.record_clauses-clauses.ensures in omega arith

pub loop-record-preserved : goal.loop-record-preserved
loop-record-preserved c =
    (c.in-Some.ensures.goes.keeps, tt, sizing_on c.loop-record.invariant.2 c.in-Some.record.kind c.in-Some.record.literals.now c.in-Some.ensures.steps.0 _ (search rules) _ _ c.record_size-bytes.ensures c.record_clauses-clauses.ensures)

pub returns : goal.returns
returns c = sizing_done c.loop-record.invariant.2 c.in-None.ensures.steps.0.0

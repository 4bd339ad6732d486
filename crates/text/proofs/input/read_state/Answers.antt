-- `text::input::read_state` meets its contract. Assumes nothing.
use mathlib.Core.Path.{sym}
use native.Mathlib.Omega.{arith}
use Rattle.bits.proofs.Lists.{empty}
use Rattle.text.proofs.input.Laws.{other_length, spelling_start, spelled_low, spelled_high, spelled_fits, spelling_on, spelling_done}
use Rattle.text.proofs.input.read_state.Goals as goal
use Rattle.text.proofs.input.read_state.Goals.{then-b-lt48-via-then-b-lt48, then-b-lt48-via-else-b-lt48+then-b-gt49}

pub returns-then-text-n : goal.returns-then-text-n
returns-then-text-n c = sym (other_length _ _ c.if-text-n.true)

pub loop-b-init : goal.loop-b-init
loop-b-init c = rw (c.into_iter-b-iterator.ensures.into_iter_gives, c.rev-b-items.ensures.source, c.iter.ensures.rest) (spelling_start _ _ c.if-text-n.false c.requires)

pub overflow_mul-x : goal.overflow_mul-x
overflow_mul-x c = omega (arith, spelled_fits c.loop-b.invariant _ _ c.in-Some.ensures.steps (omega arith) (omega arith))

pub overflow_add-x : goal.overflow_add-x
overflow_add-x c = omega (arith, spelled_fits c.loop-b.invariant _ _ c.in-Some.ensures.steps (omega arith) (omega arith))

pub loop-b-preserved : goal.loop-b-preserved
loop-b-preserved c = rw c.from.ensures (spelling_on c.loop-b.invariant _ _ c.in-Some.ensures.steps (omega arith) (omega arith))

pub returns-then-b-lt48 : goal.returns-then-b-lt48
returns-then-b-lt48 c =
    elim c.then-b-lt48.branch [
      | then-b-lt48-via-then-b-lt48 w ↦ spelled_low c.loop-b.invariant _ _ c.in-Some.ensures.steps (omega arith)
      | then-b-lt48-via-else-b-lt48+then-b-gt49 w ↦ spelled_high c.loop-b.invariant _ _ c.in-Some.ensures.steps (omega arith)
    ]

pub returns : goal.returns
returns c = spelling_done c.loop-b.invariant (empty _ c.in-None.ensures.steps.0)

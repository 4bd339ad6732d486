-- `checking::emission::put_differences` meets its contract.
use Rattle.std.proofs.Common.{ℕ, ◌-◌, ◌^◌, ◌<◌, sym, subst, arith}
use lib.Bits.{bit_and}
use Rattle.circuit.specs.Gate.{max_lines}
use Rattle.checking.proofs.lemmas.emission.Lines.{Compared, compared_none, line_below, used_few, line_ready, compared_next, compared_all}
use Rattle.checking.proofs.emission.put_differences.Goals as goal
use Rattle.checking.proofs.emission.put_differences.Goals.{After-lowest-line}

below : (c : After-lowest-line) → c.lowest-line.result < c.args.n
below c = line_below _ _ _ _ _ _ _ _ _ _ c.requires c.loop-lines.invariant c.loop-lines-test.true _ c.lowest-line.ensures

pub loop-lines-init : goal.loop-lines-init
loop-lines-init c =
    subst
    (λ (lines : ℕ). Compared c.args.n c.args.junk c.args.left.now c.args.right.now c.args.used c.args.out.now c.args.out.now (bit_and lines (2 ^ max_lines - 1 - c.args.junk)) c.args.used 0)
    (sym c.lines_below.ensures)
    (compared_none _ _ _ _ _ _ c.requires.lines c.ranges.junk.fits)

pub overflow_add-used : goal.overflow_add-used
overflow_add-used c =
    omega (arith, used_few _ _ _ _ _ _ _ _ _ _ c.requires c.loop-lines.invariant c.loop-lines-test.true _ c.lowest-line.ensures, c.requires.few)

pub bounds-left-line : goal.bounds-left-line
bounds-left-line c = omega (arith, below (goal.at.bounds-left-line c).After-lowest-line, c.requires.long_left)

pub bounds-right-line : goal.bounds-right-line
bounds-right-line c = omega (arith, below (goal.at.bounds-right-line c).After-lowest-line, c.requires.long_right)

pub put_difference-at-requires : goal.put_difference-at-requires
put_difference-at-requires c = line_ready _ _ _ _ _ _ _ _ _ _ c.requires c.loop-lines.invariant c.loop-lines-test.true _ c.lowest-line.ensures

pub loop-lines-preserved : goal.loop-lines-preserved
loop-lines-preserved c =
    compared_next _ _ _ _ _ _ _ _ _ _ c.requires c.loop-lines.invariant c.loop-lines-test.true _ c.lowest-line.ensures c.put_difference-at.new.out c.put_difference-at.result
    c.put_difference-at.ensures

pub returns : goal.returns
returns c = compared_all _ _ _ _ _ _ _ _ _ _ c.requires c.loop-lines.invariant c.loop-lines-test.false

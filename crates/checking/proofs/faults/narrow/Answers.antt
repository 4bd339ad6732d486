-- `checking::faults::narrow` meets its contract.
use Rattle.std.proofs.Common.{◌≡◌, ℕ, ◌+◌, ◌*◌, true, get_or, sym, ap, ◌∙◌, ap₂, arith, get_or-set_other}
use lib.Bits.{bit_and}
use Rattle.circuit.specs.Gate.{max_lines, valid}
use Rattle.circuit.proofs.Promises.{toggled_apply, valid_next, valid_later}
use Rattle.checking.proofs.lemmas.faults.Loops.{narrow_turn, narrow_end}
use Rattle.checking.proofs.faults.narrow.Goals as goal
use Rattle.checking.proofs.faults.narrow.Goals.{After-gate_at-g}

-- the gate that is passed is one
good : (g : After-gate_at-g) → valid max_lines g.gate_at-g.result ≡ true
good g = valid_next max_lines g.args.gates.words.now g.loop-i.i _ (omega arith) g.gate_at-g.ensures g.loop-i.invariant.0

pub kept_lines-requires : goal.kept_lines-requires
kept_lines-requires c = good (goal.at.kept_lines-requires c).After-gate_at-g

pub kept_lines-requires-in-loop-i : goal.kept_lines-requires-in-loop-i
kept_lines-requires-in-loop-i c = good (goal.at.kept_lines-requires-in-loop-i c).After-gate_at-g

pub loop-i-preserved : goal.loop-i-preserved
loop-i-preserved c =
    let v : ℕ = bit_and (get_or c.loop-i.out (2 * c.loop-i.i) 0) c.kept_lines.result in (
      valid_later max_lines c.args.gates.words.now c.loop-i.i (omega arith) c.loop-i.invariant.0,
      c.loop-i.invariant.1
          ∙ narrow_turn c.args.gates.words.now c.loop-i.out c.loop-i.i _ (omega arith) (omega arith) c.gate_at-g.ensures c.loop-i.s _ _ _ (c.toggle-s.ensures ∙ toggled_apply _ c.loop-i.s (good (goal.at.loop-i-preserved c).After-gate_at-g))
          (ap (bit_and (get_or c.loop-i.out (2 * c.loop-i.i) 0)) c.kept_lines.ensures)
          (ap₂ bit_and (get_or-set_other c.loop-i.out (2 * c.loop-i.i) (2 * c.loop-i.i + 1) v 0 (λ e. omega arith)) c.kept_lines-in-loop-i.ensures),
    )

pub returns : goal.returns
returns c = sym (c.loop-i.invariant.1 ∙ narrow_end c.args.gates.words.now c.loop-i.out _ c.loop-i.i (omega arith))

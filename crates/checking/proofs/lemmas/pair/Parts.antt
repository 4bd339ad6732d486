-- The clause list of two cascades with the same header, by its parts: side by side where they have marks, else that of their miter. Assumes nothing.
use Rattle.std.proofs.Common.{◌≡◌, suc, true, false, List, [], ◌∷◌, ◌++◌, map, length}
use Rattle.bits.proofs.Bools.{cond-true, cond-false}
use Rattle.circuit.specs.declared.gate.Gate.{Gate}
use Rattle.circuit.specs.declared.header.Header.{Header}
use Rattle.circuit.specs.Header.{marked}
use Rattle.checking.specs.Miter.{miter_gates}
use Rattle.checking.specs.Clauses.{OR, plus, input_of, gates_clauses, used_after, current_after, up_from, difference_clauses, clauses_of, variables_of}
use Rattle.checking.specs.Pair.{constant_clauses, counted_lines, either_targets, used_after_both, side_by_side, pair_clauses, pair_variables}

module _ (h : Header) (a b : List Gate) where
  pub marked_parts : marked h ≡ true
      → pair_clauses h a b ≡ constant_clauses h
      ++ (gates_clauses h.lines input_of a
      ++ (gates_clauses (used_after h.lines a) input_of b
      ++ (difference_clauses (either_targets a b) (current_after h.lines input_of a) (current_after (used_after h.lines a) input_of b) (used_after_both h a b) (counted_lines h)
      ++ (OR (map plus (up_from (suc (used_after_both h a b)) (length (counted_lines h)))) ∷ []))))
  unfolding pair_clauses side_by_side
  marked_parts t = cond-true (marked h) _ _ t

  pub unmarked_clauses : marked h ≡ false → pair_clauses h a b ≡ clauses_of h.lines (miter_gates a b)
  unfolding pair_clauses
  unmarked_clauses t = cond-false (marked h) _ _ t

  pub unmarked_variables : marked h ≡ false → pair_variables h a b ≡ variables_of h.lines (miter_gates a b)
  unfolding pair_variables
  unmarked_variables t = cond-false (marked h) _ _ t

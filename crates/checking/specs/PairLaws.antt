-- The theorem for pairs holds of our emission, and not of the stand-ins for it.
use Rattle.std.specs.Prelude.{◌≡◌, ℕ, suc, ◌+◌, ◌≤◌, Bool, true, false, cond, ◌↔◌, List, [], ◌∷◌, ◌++◌, map, length, ℤ, nat_le}
use Rattle.circuit.specs.declared.gate.Gate.{Gate}
use Rattle.circuit.specs.declared.header.Header.{Header}
use Rattle.circuit.specs.Gate.{max_lines, max_gates}
use Rattle.circuit.specs.Header.{unmarked, marks_good, marked, LineCounts}
use Rattle.circuit.specs.Outcome.{Outcome, served, demand, written}
use Rattle.circuit.specs.Refusal.{no_room}
use Rattle.circuit.specs.Words.{gates_of, all_valid, Headed}
use Rattle.checking.specs.declared.check.Call.{Call}
use Rattle.checking.specs.declared.clauses.Totals.{Totals}
use Rattle.checking.specs.Miter.{miter_gates}
use Rattle.checking.specs.Clauses.{Clause, OR, plus, input_of, gates_clauses, used_after, current_after, up_from, difference_clauses, clauses_of, variables_of}
use Rattle.checking.specs.Stored.{stored}
use Rattle.checking.specs.Satisfaction.{satisfies, Tells}
use Rattle.checking.specs.Sizes.{totals}
use Rattle.checking.specs.Pair.{constant_clauses, counted_lines, either_targets, used_after_both, side_by_side, pair_clauses, pair_variables, pair_emit_outcome, pair_emit_buffer}
use Rattle.checking.specs.PairTold.{TellsFor, PairServedTells}
use Rattle.checking.specs.PairEquality.{PairEqualityOf, PairEqualityAfter, PairEquality}
use Rattle.checking.specs.StepsAlone.{StepsAlone}

-- an emitter of a clause list: where there is room, it serves with the sizes of the list, whose words then stand at the buffer's start
abbrev pub pair_list_outcome : (Header → List Gate → List Gate → ℕ) → (Header → List Gate → List Gate → List Clause) → Header → List ℕ → Header → List ℕ → ℕ → Outcome Totals
pair_list_outcome variables clauses ha a hb b room =
    demand (nat_le (length (stored (clauses ha (gates_of a) (gates_of b)))) room) no_room 0
    (served (totals (variables ha (gates_of a) (gates_of b)) (length (clauses ha (gates_of a) (gates_of b))) (length (stored (clauses ha (gates_of a) (gates_of b))))))

abbrev pub pair_list_buffer : (Header → List Gate → List Gate → ℕ) → (Header → List Gate → List Gate → List Clause) → Header → List ℕ → Header → List ℕ → List ℤ → List ℤ
pair_list_buffer variables clauses ha a hb b out =
    written (pair_list_outcome variables clauses ha a hb b (length out)) (stored (clauses ha (gates_of a) (gates_of b))) out

abbrev pub PairEqualityOfList : (Header → List Gate → List Gate → ℕ) → (Header → List Gate → List Gate → List Clause) → Type 0
PairEqualityOfList variables clauses = PairEqualityOf (pair_list_outcome variables clauses) (pair_list_buffer variables clauses)

-- side by side, but with these clauses of the constants, these variables where B starts, and a d for each of these lines
unfoldable pub side_with : List Clause → (ℕ → ℕ) → List ℕ → Header → List Gate → List Gate → List Clause
side_with constants start lines h a b =
    constants
    ++ (gates_clauses h.lines input_of a
    ++ (gates_clauses (used_after h.lines a) start b
    ++ (difference_clauses (either_targets a b) (current_after h.lines input_of a) (current_after (used_after h.lines a) start b) (used_after_both h a b) lines
    ++ (OR (map plus (up_from (suc (used_after_both h a b)) (length lines))) ∷ []))))

-- a list for pairs with marks; the others have that of their miter
abbrev pub where_marked : (Header → List Gate → List Gate → List Clause) → Header → List Gate → List Gate → List Clause
where_marked clauses h a b = cond (marked h) (clauses h a b) (clauses_of h.lines (miter_gates a b))

-- 02's stand-ins: the constants left out; a d for every line, junk or not; B's gates started from A's outputs; and one list for all pairs
unfoldable pub constants_left_out : Header → List Gate → List Gate → List Clause
constants_left_out = where_marked (λ h a b. side_with [] input_of (counted_lines h) h a b)

unfoldable pub junk_counted : Header → List Gate → List Gate → List Clause
junk_counted = where_marked (λ h a b. side_with (constant_clauses h) input_of (up_from 0 h.lines) h a b)

unfoldable pub junk_counted_variables : Header → List Gate → List Gate → ℕ
junk_counted_variables h a b = cond (marked h) (used_after_both h a b + h.lines) (variables_of h.lines (miter_gates a b))

unfoldable pub started_from_outputs : Header → List Gate → List Gate → List Clause
started_from_outputs = where_marked (λ h a b. side_with (constant_clauses h) (current_after h.lines input_of a) (counted_lines h) h a b)

abbrev pub one_for_all : List Clause → Header → List Gate → List Gate → List Clause
one_for_all cs = where_marked (λ h a b. cs)

-- what does not look at the values of the constants; and, of pairs with marks, not at which lines are junk
abbrev pub ValuesUnread : {A : Type 0} → (Header → List Gate → List Gate → A) → Type 0
ValuesUnread of =
    (h k : Header) (a b : List Gate) → marks_good h ≡ true → marks_good k ≡ true → h.lines ≡ k.lines → h.constants ≡ k.constants → h.junk ≡ k.junk
    → of h a b ≡ of k a b

abbrev pub JunkUnread : {A : Type 0} → (Header → List Gate → List Gate → A) → Type 0
JunkUnread of =
    (h k : Header) (a b : List Gate) → marks_good h ≡ true → marks_good k ≡ true → marked h ≡ true → marked k ≡ true
    → h.lines ≡ k.lines → h.constants ≡ k.constants → h.values ≡ k.values → of h a b ≡ of k a b

pub record PairLaws : Type 0 where
  -- our list tells of any two cascades with the same header
  pub list_tells : (h : Header) (a b : List Gate) → marks_good h ≡ true → h.lines ≤ max_lines → all_valid h.lines a ≡ true → all_valid h.lines b ≡ true
      → TellsFor h (pair_variables h a b) (pair_clauses h a b) a b
  -- where every line is junk there is no d, so that the last OR has no literals, and nothing satisfies the list
  pub all_junk : (h : Header) (a b : List Gate) → 1 ≤ h.lines → ((k : ℕ) → LineCounts h k → ⊥) → (counted_lines h ≡ []) × ((σ : List Bool) → satisfies σ (pair_clauses h a b) ≡ false)
  -- without marks it is the list of the miter, and any clauses tell what they tell by document 01
  pub unmarked_list : (n : ℕ) (a b : List Gate) → (pair_clauses (unmarked n) a b ≡ clauses_of n (miter_gates a b)) × (pair_variables (unmarked n) a b ≡ variables_of n (miter_gates a b))
  pub unmarked_tells : (n variables : ℕ) (cs : List Clause) (a b : List Gate) → all_valid n a ≡ true → all_valid n b ≡ true
      → TellsFor (unmarked n) variables cs a b ↔ Tells n variables cs a b
  -- the theorem of our emission, and of an emitter of our list
  pub ours : PairEquality
  pub our_list : PairEqualityOfList pair_variables pair_clauses
  -- where our emission is served, on any headers and words
  pub served_tells : (ha : Header) (a : List ℕ) (hb : Header) (b : List ℕ) (out : List ℤ)
      → PairServedTells ha a hb b (pair_emit_outcome ha a hb b (length out)) (pair_emit_buffer ha a hb b out)
  -- steps and reductions on each cascade alone; so, of any emission that has the theorem, what it emits for the two that are left tells of the two that were drawn
  pub steps_alone : (h : Header) (a b : List ℕ) (i j : ℕ) → Headed h a max_gates i → Headed h b max_gates j → (on_a on_b : List Call) → StepsAlone h a b i j on_a on_b
  pub after_calls : (emits : Header → List ℕ → Header → List ℕ → ℕ → Outcome Totals) (leaves : Header → List ℕ → Header → List ℕ → List ℤ → List ℤ)
      → PairEqualityOf emits leaves → PairEqualityAfter emits leaves
  -- of any emitter of a list that has the theorem: its list tells
  pub list_told : (variables : Header → List Gate → List Gate → ℕ) (clauses : Header → List Gate → List Gate → List Clause) → PairEqualityOfList variables clauses
      → (h : Header) (a b : List ℕ) (i j : ℕ) → Headed h a max_gates i → Headed h b max_gates j
      → TellsFor h (variables h (gates_of a) (gates_of b)) (clauses h (gates_of a) (gates_of b)) (gates_of a) (gates_of b)
  -- the stand-ins, each of which has one part of our list otherwise
  pub ours_with : (h : Header) (a b : List Gate) → side_by_side h a b ≡ side_with (constant_clauses h) input_of (counted_lines h) h a b
  pub constants_left_out_refuted : PairEqualityOfList pair_variables constants_left_out → ⊥
  pub junk_counted_refuted : PairEqualityOfList junk_counted_variables junk_counted → ⊥
  pub started_from_outputs_refuted : PairEqualityOfList pair_variables started_from_outputs → ⊥
  -- any list that does not look at the values of the constants, or not at which lines are junk
  pub values_unread_refuted : (variables : Header → List Gate → List Gate → ℕ) (clauses : Header → List Gate → List Gate → List Clause)
      → ValuesUnread variables → ValuesUnread clauses → PairEqualityOfList variables clauses → ⊥
  pub junk_unread_refuted : (variables : Header → List Gate → List Gate → ℕ) (clauses : Header → List Gate → List Gate → List Clause)
      → JunkUnread variables → JunkUnread clauses → PairEqualityOfList variables clauses → ⊥
  -- one fixed contradiction, over any variables
  pub contradiction_refuted : (variables : Header → List Gate → List Gate → ℕ) (cs : List Clause) → ((σ : List Bool) → satisfies σ cs ≡ false)
      → PairEqualityOfList variables (one_for_all cs) → ⊥
  -- any list that no assignment satisfies, whatever marked pair it is of
  pub unsatisfied_refuted : (variables : Header → List Gate → List Gate → ℕ) (clauses : Header → List Gate → List Gate → List Clause)
      → ((h : Header) (a b : List Gate) → marked h ≡ true → (σ : List Bool) → satisfies σ (clauses h a b) ≡ false) → PairEqualityOfList variables clauses → ⊥
  -- any list that tells of A and of A followed by B
  pub composed_refuted : (variables : Header → List Gate → List Gate → ℕ) (clauses : Header → List Gate → List Gate → List Clause)
      → ((h : Header) (a b : List Gate) → marks_good h ≡ true → marked h ≡ true → TellsFor h (variables h a b) (clauses h a b) a (a ++ b)) → PairEqualityOfList variables clauses → ⊥

-- Demand 3 holds of our emission, and not of document 01's stand-ins for it.
use Rattle.std.specs.Prelude.{◌≡◌, ℕ, suc, ◌<◌, Bool, false, List, [], ◌∷◌, ◌++◌, map, length, take, ℤ, nat_le}
use Rattle.circuit.specs.declared.gate.Gate.{Gate}
use Rattle.circuit.specs.Gate.{max_gates, max_miter_gates}
use Rattle.circuit.specs.Outcome.{Outcome, served, demand, written}
use Rattle.circuit.specs.Refusal.{no_room}
use Rattle.circuit.specs.Words.{gates_of, Cascade}
use Rattle.checking.specs.declared.clauses.Totals.{Totals}
use Rattle.checking.specs.Miter.{miter_gates}
use Rattle.checking.specs.Clauses.{Clause, OR, plus, input_of, gates_clauses, used_after, current_after, targeted, up_from, difference_clauses, clauses_of, variables_of}
use Rattle.checking.specs.Stored.{stored}
use Rattle.checking.specs.Satisfaction.{satisfies, Tells}
use Rattle.checking.specs.Sizes.{totals}
use Rattle.checking.specs.Equality.{EqualityOf, Equality}

-- an emitter of a clause list: where there is room, it serves with the sizes of the list, whose words then stand at the buffer's start
abbrev pub list_outcome : (ℕ → List Gate → ℕ) → (ℕ → List Gate → List Clause) → ℕ → List ℕ → ℕ → Outcome Totals
list_outcome variables clauses n ws room =
    demand (nat_le (length (stored (clauses n (gates_of ws)))) room) no_room 0
    (served (totals (variables n (gates_of ws)) (length (clauses n (gates_of ws))) (length (stored (clauses n (gates_of ws))))))

abbrev pub list_buffer : (ℕ → List Gate → ℕ) → (ℕ → List Gate → List Clause) → ℕ → List ℕ → List ℤ → List ℤ
list_buffer variables clauses n ws out = written (list_outcome variables clauses n ws (length out)) (stored (clauses n (gates_of ws))) out

abbrev pub EqualityOfList : (ℕ → List Gate → ℕ) → (ℕ → List Gate → List Clause) → Type 0
EqualityOfList variables clauses = EqualityOf (list_outcome variables clauses) (list_buffer variables clauses)

-- 01's stand-ins: the clauses of the gates after the first m dropped from the list; and the list of the first m gates alone
unfoldable pub without_later : ℕ → ℕ → List Gate → List Clause
without_later m n gs =
    gates_clauses n input_of (take m gs)
    ++ (difference_clauses (targeted gs) input_of (current_after n input_of gs) (used_after n gs) (up_from 0 n)
    ++ (OR (map plus (up_from (suc (used_after n gs)) n)) ∷ []))

unfoldable pub of_first : ℕ → ℕ → List Gate → List Clause
of_first m n gs = clauses_of n (take m gs)

unfoldable pub of_first_variables : ℕ → ℕ → List Gate → ℕ
of_first_variables m n gs = variables_of n (take m gs)

pub record EqualityLaws : Type 0 where
  -- demand 3 of our emission, and of an emitter of our list
  pub ours : Equality
  pub our_list : EqualityOfList variables_of clauses_of
  -- of any emitter of a list that has it: its list for the miter of two cascades tells on which states they differ
  pub list_told : (variables : ℕ → List Gate → ℕ) (clauses : ℕ → List Gate → List Clause) → EqualityOfList variables clauses
      → (n : ℕ) (a b : List ℕ) (i j : ℕ) → Cascade n a max_gates i → Cascade n b max_gates j
      → Tells n (variables n (miter_gates (gates_of a) (gates_of b))) (clauses n (miter_gates (gates_of a) (gates_of b))) (gates_of a) (gates_of b)
  -- one fixed contradiction, over any variables
  pub contradiction_refuted : (variables : ℕ → List Gate → ℕ) (cs : List Clause) → ((σ : List Bool) → satisfies σ cs ≡ false)
      → EqualityOfList variables (λ n gs. cs) → ⊥
  -- the clauses of later gates dropped, and the list of the first gates alone, wherever a miter can have more
  pub without_later_refuted : (m : ℕ) → m < max_miter_gates → EqualityOfList variables_of (without_later m) → ⊥
  pub of_first_refuted : (m : ℕ) → m < max_miter_gates → EqualityOfList (of_first_variables m) (of_first m) → ⊥

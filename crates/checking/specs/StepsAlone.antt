-- Steps and reductions on each of two cascades alone: they leave two cascades with the same header that differ on the same states.
use Rattle.std.specs.Prelude.{ℕ, ◌≤◌, ◌↔◌, List}
use Rattle.circuit.specs.declared.header.Header.{Header}
use Rattle.circuit.specs.Gate.{max_gates}
use Rattle.circuit.specs.Words.{gates_of, Headed}
use Rattle.circuit.specs.Run.{EqualFor, DiffersFor}
use Rattle.checking.specs.declared.check.Call.{Call}
use Rattle.checking.specs.Clauses.{Clause}
use Rattle.checking.specs.Equality.{after_all}
use Rattle.checking.specs.PairTold.{TellsFor}

-- of two cascades with the header h, the words a of i gates and b of j, after a list of calls on a and one on b
pub record StepsAlone (h : Header) (a b : List ℕ) (i j : ℕ) (on_a on_b : List Call) : Type 0 where
  pub first : ℕ
  pub first_good : Headed h (after_all on_a a) max_gates first
  pub first_fewer : first ≤ i
  pub second : ℕ
  pub second_good : Headed h (after_all on_b b) max_gates second
  pub second_fewer : second ≤ j
  pub equal : EqualFor h (gates_of (after_all on_a a)) (gates_of (after_all on_b b)) ↔ EqualFor h (gates_of a) (gates_of b)
  pub differing : (x : ℕ) → DiffersFor h (gates_of (after_all on_a a)) (gates_of (after_all on_b b)) x ↔ DiffersFor h (gates_of a) (gates_of b) x
  -- clauses that tell of the two that are left tell of the two that were drawn
  pub tells : (variables : ℕ) (cs : List Clause)
      → TellsFor h variables cs (gates_of (after_all on_a a)) (gates_of (after_all on_b b)) → TellsFor h variables cs (gates_of a) (gates_of b)

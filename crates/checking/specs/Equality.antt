-- Demand 3 of document 01: after any list of calls on the miter of two cascades, the emitted clauses tell on which states the two differ.
use Rattle.std.specs.Prelude.{◌≡◌, ℕ, ◌+◌, ◌*◌, ◌≤◌, List, [], ◌∷◌, length, take, ℤ}
use Rattle.circuit.specs.Gate.{max_gates}
use Rattle.circuit.specs.Outcome.{Outcome, served, refused}
use Rattle.circuit.specs.Words.{gates_of, Cascade}
use Rattle.checking.specs.declared.check.Call.{Call}
use Rattle.checking.specs.declared.check.Call.TheVariants.{StepOn, ReduceOn}
use Rattle.checking.specs.declared.clauses.Totals.{Totals}
use Rattle.checking.specs.Miter.{miter_outcome, miter_buffer}
use Rattle.checking.specs.Step.{Step, found, none, step_outcome, step_buffer}
use Rattle.checking.specs.Reduce.{Reduced, reduce_outcome, reduce_buffer}
use Rattle.checking.specs.Clauses.{clauses_of}
use Rattle.checking.specs.Stored.{stored}
use Rattle.checking.specs.Told.{Told}
use Rattle.checking.specs.Emit.{emit_outcome, emit_buffer}

-- the words that stand after a call, in its buffer: as many as its answer counts; all of them where it is refused or answers none, since the count is then as it was
abbrev pub step_leaves : Outcome (Step ℕ) → List ℕ → List ℕ
step_leaves (served (found i j kind gates)) buffer = take (3 * gates) buffer
step_leaves (served none) buffer = buffer
step_leaves (refused number place) buffer = buffer

abbrev pub reduce_leaves : Outcome (Reduced ℕ) → List ℕ → List ℕ
reduce_leaves (served r) buffer = take (3 * r.left) buffer
reduce_leaves (refused number place) buffer = buffer

unfoldable pub after : Call → List ℕ → List ℕ
after (StepOn n) ws = step_leaves (step_outcome n ws) (step_buffer n ws)
after (ReduceOn n) ws = reduce_leaves (reduce_outcome n ws) (reduce_buffer n ws)

-- after a list of calls, each given the words that stood after the one before
unfoldable pub after_all : List Call → List ℕ → List ℕ
after_all [] ws = ws
after_all (c ∷ cs) ws = after_all cs (after c ws)

-- the words of a served miter's gates, in its buffer
abbrev pub miter_leaves : Outcome ℕ → List ℕ → List ℕ
miter_leaves (served gates) buffer = take (3 * gates) buffer
miter_leaves (refused number place) buffer = []

-- the words that stand after the miter of A and B on n lines and a list of calls
abbrev pub left_after : ℕ → List ℕ → List ℕ → List ℕ → List Call → List ℕ
left_after n a b work calls = after_all calls (miter_leaves (miter_outcome n a n b (length work)) (miter_buffer n a n b work))

-- what an emission with this answer and this final buffer says of A and B on n lines: it is served, and its clauses tell on which states A and B differ
pub record Emitted (n : ℕ) (a b : List ℕ) (answer : Outcome Totals) (buffer : List ℤ) : Type 0 where
  pub totals : Totals
  pub is_served : answer ≡ served totals
  pub told : Told n a b totals buffer

-- of A and B as words of cascades on n lines, a buffer for their miter, a list of calls, a clause buffer, and the answer and the final buffer of an emission of the gates that then stand
pub record Claim (n : ℕ) (a b work : List ℕ) (calls : List Call) (out : List ℤ) (answer : Outcome Totals) (buffer : List ℤ) : Type 0 where
  -- the miter is served
  pub gates : ℕ
  pub miter_served : miter_outcome n a n b (length work) ≡ served gates
  -- where the clause buffer is at least as long as the clause list of the gates that stand
  pub emission : length (stored (clauses_of n (gates_of (left_after n a b work calls)))) ≤ length out → Emitted n a b answer buffer

-- of any emission, by its answer and its final buffer
abbrev pub EqualityOf : (ℕ → List ℕ → ℕ → Outcome Totals) → (ℕ → List ℕ → List ℤ → List ℤ) → Type 0
EqualityOf emits leaves =
    (n : ℕ) (a b : List ℕ) (i j : ℕ) → Cascade n a max_gates i → Cascade n b max_gates j
    → (work : List ℕ) → length a + length b ≤ length work → (calls : List Call) (out : List ℤ)
    → Claim n a b work calls out (emits n (left_after n a b work calls) (length out)) (leaves n (left_after n a b work calls) out)

-- demand 3, of the very definitions that the calls' contracts cite
abbrev pub Equality : Type 0
Equality = EqualityOf emit_outcome emit_buffer

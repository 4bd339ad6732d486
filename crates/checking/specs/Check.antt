-- The whole way from two cascades to clauses: the miter, a list of calls on it, and the emission.
use Rattle.std.specs.Prelude.{◌≡◌, ℕ, zero, suc, ◌+◌, ◌*◌, ◌≤◌, List, [], ◌∷◌, length, take, ℤ}
use Rattle.bits.specs.Lists.{over}
use Rattle.circuit.specs.Gate.{max_gates}
use Rattle.circuit.specs.Outcome.{Outcome, served, refused, and_then}
use Rattle.circuit.specs.Words.{Cascade}
use Rattle.checking.specs.declared.clauses.Totals.{Totals}
use Rattle.checking.specs.Miter.{miter_outcome, miter_buffer}
use Rattle.checking.specs.Step.{Step, found, none, step_outcome, step_buffer}
use Rattle.checking.specs.Reduce.{Reduced, reduce_outcome, reduce_buffer}
use Rattle.checking.specs.Emit.{emit_outcome, emit_buffer}
use Rattle.checking.specs.Told.{ServedTells}
use Rattle.checking.specs.Equality.{Claim}
use Rattle.checking.specs.declared.check.Call.TheVariants.{ReduceOn}
use Rattle.checking.specs.declared.check.Call.TheVariants.{StepOn}
use Rattle.checking.specs.declared.check.Call.{Call}

-- two words a call: 0 for a step or anything else for a full reduction, and its n; a last word alone is no call
abbrev pub call_of : ℕ → ℕ → Call
call_of zero n = StepOn n
call_of (suc kind) n = ReduceOn n

unfoldable pub calls_of : List ℕ → List Call
calls_of [] = []
calls_of (kind ∷ []) = []
calls_of (kind ∷ n ∷ ws) = call_of kind n ∷ calls_of ws

-- a buffer and the number of gates that stand at its start
pub record Held : Type 0 where
  pub gates : ℕ
  pub words : List ℕ

abbrev pub held_words : Held → List ℕ
held_words h = take (3 * h.gates) h.words

-- the number of gates after a call
abbrev pub step_gates_left : Outcome (Step ℕ) → ℕ → ℕ
step_gates_left (served (found i j kind gates)) before = gates
step_gates_left (served none) before = before
step_gates_left (refused number place) before = before

abbrev pub reduce_gates_left : Outcome (Reduced ℕ) → ℕ → ℕ
reduce_gates_left (served r) before = r.left
reduce_gates_left (refused number place) before = before

-- a call is given the gates that stand, and leaves the rest of the buffer
unfoldable pub called : Call → Held → Held
called (StepOn n) h =
    record { gates = step_gates_left (step_outcome n (held_words h)) h.gates; words = over (step_buffer n (held_words h)) h.words }
called (ReduceOn n) h =
    record { gates = reduce_gates_left (reduce_outcome n (held_words h)) h.gates; words = over (reduce_buffer n (held_words h)) h.words }

unfoldable pub called_all : List Call → Held → Held
called_all [] h = h
called_all (c ∷ cs) h = called_all cs (called c h)

-- after the miter of k gates and the calls
abbrev pub held : ℕ → List ℕ → ℕ → List ℕ → List Call → List ℕ → ℕ → Held
held na a nb b calls work k = called_all calls (record { gates = k; words = miter_buffer na a nb b work })

-- what is wrong with the miter, else what the emission answers
unfoldable pub checked_outcome : ℕ → List ℕ → ℕ → List ℕ → List Call → List ℕ → ℕ → Outcome Totals
checked_outcome na a nb b calls work size =
    and_then (miter_outcome na a nb b (length work)) (λ k. emit_outcome na (held_words (held na a nb b calls work k)) size)

-- the miter's buffer and the clause buffer after it
abbrev pub work_left : Outcome ℕ → ℕ → List ℕ → ℕ → List ℕ → List Call → List ℕ → List ℕ
work_left (served k) na a nb b calls work = (held na a nb b calls work k).words
work_left (refused number place) na a nb b calls work = work

abbrev pub clauses_left : Outcome ℕ → ℕ → List ℕ → ℕ → List ℕ → List Call → List ℕ → List ℤ → List ℤ
clauses_left (served k) na a nb b calls work out = emit_buffer na (held_words (held na a nb b calls work k)) out
clauses_left (refused number place) na a nb b calls work out = out

-- what the function owes: its answer, both buffers, that where it is served its clauses tell on which states the cascades differ, and demand 3 of this answer and this clause buffer
pub record Checks (na : ℕ) (a : List ℕ) (nb : ℕ) (b : List ℕ) (calls : List Call) (work : List ℕ) (out : List ℤ)
    (told : Outcome Totals) (work_last : List ℕ) (out_last : List ℤ) : Type 0 where
  pub answer : told ≡ checked_outcome na a nb b calls work (length out)
  pub words : work_last ≡ work_left (miter_outcome na a nb b (length work)) na a nb b calls work
  pub clauses : out_last ≡ clauses_left (miter_outcome na a nb b (length work)) na a nb b calls work out
  pub tells : ServedTells na a nb b told out_last
  pub claim : (i j : ℕ) → Cascade na a max_gates i → Cascade nb b max_gates j → na ≡ nb → length a + length b ≤ length work
      → Claim na a b work calls out told out_last

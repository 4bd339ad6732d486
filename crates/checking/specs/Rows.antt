-- The starred rows of document 01, as one table with one fact about all its rows; and rows of T-01 of document 02.
use Rattle.std.specs.Prelude.{◌≡◌, ℕ, ◌+◌, ◌*◌, Bool, true, false, ◌&&◌, List, [], ◌∷◌, length, take, replicate, ◌==◌}
use Rattle.bits.specs.Lists.{All}
use Rattle.circuit.specs.declared.gate.Gate.{Gate}
use Rattle.circuit.specs.Header.{unmarked}
use Rattle.circuit.specs.Outcome.{Outcome, served, refused, and_then}
use Rattle.circuit.specs.Words.{words_of}
use Rattle.circuit.specs.Run.{run_outcome}
use Rattle.circuit.specs.File.{same}
use Rattle.checking.specs.declared.clauses.Totals.{Totals}
use Rattle.checking.specs.Miter.{miter_outcome, miter_buffer}
use Rattle.checking.specs.Sizes.{sizes_outcome}
use Rattle.checking.specs.Faults.{fault_outcome, fault_buffer}
use Rattle.checking.specs.Step.{Step, found, none, filled, step_outcome, step_buffer}

-- what a row says of a call on n lines
pub data Row : Type 0 where
  -- the cascade gives this output on this state
  run : (n : ℕ) (gates : List Gate) (state output : ℕ) → Row
  -- after a step on these gates those stand; or it answers none
  step : (n : ℕ) (gates after : List Gate) → Row
  step_none : (n : ℕ) (gates : List Gate) → Row
  -- the clause list of the miter of two cascades has these variables, clauses and words
  sizes : (n : ℕ) (a b : List Gate) (variables clauses words : ℕ) → Row
  -- the fault masks of a suspect against a reference on these states
  faults : (n : ℕ) (suspect reference : List Gate) (states masks : List ℕ) → Row

-- t2+0-1: target 2, positive control 0, negative control 1; masks have bit k for line k
abbrev pub gate : ℕ → ℕ → ℕ → Gate
gate target positive negative = record { positive = positive; negative = negative; target = target }

abbrev pub t0 : Gate
t0 = gate 0 0 0

abbrev pub t1 : Gate
t1 = gate 1 0 0

abbrev pub t2+0 : Gate
t2+0 = gate 2 1 0

abbrev pub t2+1 : Gate
t2+1 = gate 2 2 0

abbrev pub t2+0+1 : Gate
t2+0+1 = gate 2 3 0

abbrev pub t2+0-1 : Gate
t2+0-1 = gate 2 1 2

abbrev pub t2_0_1 : Gate
t2_0_1 = gate 2 0 3

abbrev pub t1+2 : Gate
t1+2 = gate 1 4 0

abbrev pub t1+2-0 : Gate
t1+2-0 = gate 1 4 1

abbrev pub rows : List Row
rows =
    run 3 (t2+0+1 ∷ []) 3 7
    ∷ run 3 (t2+0+1 ∷ []) 1 1
    ∷ run 3 (t2+0-1 ∷ []) 1 5
    ∷ run 3 (t2+0-1 ∷ []) 3 3
    ∷ run 1 (t0 ∷ []) 0 1
    ∷ step 3 (t2+0+1 ∷ t2+0+1 ∷ []) []
    ∷ step 3 (t2+0+1 ∷ t2+0-1 ∷ []) (t2+0 ∷ [])
    ∷ step 3 (t2+0+1 ∷ t2+0 ∷ []) (t2+0-1 ∷ [])
    ∷ step_none 3 (t2+0+1 ∷ t2_0_1 ∷ [])
    ∷ step 3 (t2+0 ∷ t1 ∷ t2+0 ∷ []) (t1 ∷ [])
    ∷ step_none 3 (t2+1 ∷ t1 ∷ t2+1 ∷ [])
    ∷ sizes 1 [] [] 2 2 6
    ∷ sizes 3 (t2+0+1 ∷ []) [] 8 8 34
    ∷ faults 3 (t2+0 ∷ []) (t2+0+1 ∷ []) (1 ∷ []) (2 ∷ 0 ∷ [])
    ∷ []

-- T-01: t2+0 may pass t1+2-0, since line 0 is a positive control of one and a negative control of the other. It may not pass t1+2. Its target is a control of both.
abbrev pub passing_rows : List Row
passing_rows =
    step 3 (t2+0 ∷ t1+2-0 ∷ t2+0 ∷ []) (t1+2-0 ∷ [])
    ∷ step_none 3 (t2+0 ∷ t1+2 ∷ t2+0 ∷ [])
    ∷ []

-- a call is served with this number
abbrev pub served_with : ℕ → Outcome ℕ → Bool
served_with k (served a) = a == k
served_with k (refused number place) = false

-- a step found something and left so many gates; a step answered none
abbrev pub found_with : ℕ → Outcome (Step ℕ) → Bool
found_with k (served (found i j m gates)) = gates == k
found_with k (served none) = false
found_with k (refused number place) = false

abbrev pub found_none : Outcome (Step ℕ) → Bool
found_none (served (found i j m gates)) = false
found_none (served none) = true
found_none (refused number place) = false

-- a sizes call is served with these totals
abbrev pub served_totals : ℕ → ℕ → ℕ → Outcome Totals → Bool
served_totals v c w (served t) = t.variables == v && (t.clauses == c && t.words == w)
served_totals v c w (refused number place) = false

-- a buffer of so many words, all 0
abbrev pub empty : ℕ → List ℕ
empty room = replicate room 0

-- sizes, given the gates of the miter that stands in a buffer just long enough
abbrev pub miter_sizes : ℕ → List ℕ → List ℕ → Outcome Totals
miter_sizes n a b =
    and_then (miter_outcome n a n b (length a + length b)) (λ gates. sizes_outcome n (take (3 * gates) (miter_buffer n a n b (empty (length a + length b)))))

-- the call answers and leaves what the row says
abbrev pub right : Row → Bool
right (run n gates state output) = served_with output (run_outcome n (words_of gates) state)
right (step n gates after) =
    found_with (length after) (step_outcome n (words_of gates)) && same (step_buffer n (words_of gates)) (filled after (length (words_of gates)))
right (sizes n a b v c w) = served_totals v c w (miter_sizes n (words_of a) (words_of b))
right (faults n suspect reference states masks) =
    served_with (length suspect) (fault_outcome (unmarked n) (words_of suspect) (unmarked n) (words_of reference) states (length masks))
    && same (fault_buffer (unmarked n) (words_of suspect) (unmarked n) (words_of reference) states (empty (length masks))) masks
right (step_none n gates) = found_none (step_outcome n (words_of gates)) && same (step_buffer n (words_of gates)) (words_of gates)

abbrev pub RowsHold : List Row → Type 0
RowsHold rs = All (λ (r : Row). right r ≡ true) rs

-- every row is right
pub record RowLaws : Type 0 where
  pub all : RowsHold rows
  pub passing : RowsHold passing_rows

-- The reduction step: the search, and what a step answers and leaves, by document 01, with T-01's rule of passing.
use Rattle.std.specs.Prelude.{ℕ, ◌+◌, ◌-◌, ◌*◌, cond, List, [], ◌∷◌, ◌++◌, length, take, drop, replicate, Option, Some, None}
use Rattle.circuit.specs.declared.gate.Gate.{Gate}
use Rattle.circuit.specs.Gate.{max_miter_gates}
use Rattle.circuit.specs.Outcome.{Outcome, served, refused, and_then}
use Rattle.circuit.specs.Words.{gates_of, words_of, check_outcome}
use Rattle.checking.specs.declared.step.Stepped.{Stepped}
use Rattle.checking.specs.Match.{may_pass, Kind, Match, Compared, apart, matched, match_of, kind_of, remaining, of_kind}

-- what a scan from one gate on finds: the place of the gate that it matches, and the match; and what the search finds: the places of both
pub data Scan : Type 0 where
  at : ℕ → Match → Scan
  nothing : Scan

pub data Search : Type 0 where
  at : ℕ → ℕ → Match → Search
  nothing : Search

-- the first of the gates hs that g matches, where g may pass those before it; j is the place of the first of hs
abbrev pub judged : Compared → ℕ → Scan → Scan
judged (matched m) j later = Scan.at j m
judged apart j later = later

unfoldable pub scan_from : ℕ → Gate → List Gate → Scan
scan_from j g [] = Scan.nothing
scan_from j g (h ∷ hs) = judged (match_of g h) j (cond (may_pass g h) (scan_from (j + 1) g hs) Scan.nothing)

-- the first of the gates that finds a match after it; i is the place of the first of the list
abbrev pub scanned : Scan → ℕ → Search → Search
scanned (Scan.at j m) i later = Search.at i j m
scanned Scan.nothing i later = later

unfoldable pub search_from : ℕ → List Gate → Search
search_from i [] = Search.nothing
search_from i (g ∷ gs) = scanned (scan_from (i + 1) g gs) i (search_from (i + 1) gs)

-- the gates strictly between i and j
abbrev pub between : ℕ → ℕ → List Gate → List Gate
between i j gs = take (j - (i + 1)) (drop (i + 1) gs)

-- gate i goes, and place j takes what remains
unfoldable pub replaced : ℕ → ℕ → List Gate → List Gate → List Gate
replaced i j rest gs = take i gs ++ (between i j gs ++ (rest ++ drop (j + 1) gs))

-- what a step finds: i, j, which match, and the gates that then stand, or their number; or none
pub data Step (A : Type 0) : Type 0 where
  found : ℕ → ℕ → Kind → A → Step A
  none : Step A

abbrev pub searched : Search → List Gate → Step (List Gate)
searched (Search.at i j m) gs = found i j (kind_of m) (replaced i j (remaining m) gs)
searched Search.nothing gs = none

-- the step on a list of gates
unfoldable pub step_gates : List Gate → Step (List Gate)
step_gates gs = searched (search_from 0 gs) gs

-- the same with the number of gates
abbrev pub with_count : Step (List Gate) → Step ℕ
with_count (found i j k gs) = found i j k (length gs)
with_count none = none

-- the words of gates, and zeros after them up to `room` words
unfoldable pub filled : List Gate → ℕ → List ℕ
filled gs room = words_of gs ++ replicate (room - 3 * length gs) 0

-- the words after a step
abbrev pub step_words : Step (List Gate) → List ℕ → List ℕ
step_words (found i j k gs) ws = filled gs (length ws)
step_words none ws = ws

-- 2, 11, 6, 7
unfoldable pub step_outcome : ℕ → List ℕ → Outcome (Step ℕ)
step_outcome n ws = and_then (check_outcome n ws max_miter_gates) (λ k. served (with_count (step_gates (gates_of ws))))

-- a refused step leaves the words as they were
abbrev pub served_words : {A : Type 0} → Outcome A → List ℕ → List ℕ → List ℕ
served_words (served a) after ws = after
served_words (refused number place) after ws = ws

unfoldable pub step_buffer : ℕ → List ℕ → List ℕ
step_buffer n ws = served_words (step_outcome n ws) (step_words (step_gates (gates_of ws)) ws) ws

-- the answers in document 01's values
abbrev pub of_stepped : Stepped → Step ℕ
of_stepped s = found s.i s.j (of_kind s.kind) s.gates

abbrev pub of_step : Option Stepped → Step ℕ
of_step (Some s) = of_stepped s
of_step None = none

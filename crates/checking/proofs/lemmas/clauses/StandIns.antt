-- Miters of NOTs, of m gates and one gate more, on which 01's stand-ins for the clause list go wrong. Assumes nothing.
use Rattle.std.proofs.Common.{◌≡◌, ℕ, zero, suc, ◌+◌, ◌-◌, ◌/◌, ◌<◌, Bool, true, ◌↔◌, List, [], ◌∷◌, ◌++◌, map, reverse, length, take, replicate, sym, refl, ap, ◌∙◌, append_assoc, arith, length-append, take_at}
use mathlib.Core.Path.{fun_ext}
use mathlib.Core.List.{reverse-cons}
use lib.ListN.{length-replicate, length-reverse}
use Rattle.bits.specs.Digits.{bit}
use Rattle.bits.specs.Lists.{fold}
use Rattle.circuit.specs.declared.gate.Gate.{Gate}
use Rattle.circuit.specs.Gate.{not_gate, valid, fires, inverted, apply, controls_below}
use Rattle.circuit.specs.Words.{all_valid}
use Rattle.circuit.specs.Run.{run}
use Rattle.circuit.proofs.Promises.{valid_append, run_one, run_append, run_below, inverse_valid, valid_none, valid_both}
use Rattle.checking.specs.Miter.{miter_gates}
use Rattle.checking.specs.Clauses.{Clause, OR, plus, input_of, used_by, moved, gates_clauses, used_after, current_after, targeted, up_from, difference_clauses, variables_of}
use Rattle.checking.specs.EqualityLaws.{without_later}

-- NOT on line 0, and with a control on line 1: both have one new variable
abbrev pub free : Gate
free = not_gate 0

abbrev pub controlled : Gate
controlled = record { positive = 2; negative = 0; target = 0 }

abbrev pub nots : ℕ → List Gate
nots k = replicate k free

pub nots_valid : (n : ℕ) → valid n free ≡ true → (k : ℕ) → all_valid n (nots k) ≡ true
nots_valid n v zero = valid_none n
nots_valid n v (suc k) = valid_both n free (nots k) v (nots_valid n v k)

-- on one line and on two
pub free_one : valid 1 free ≡ true
unfolding valid
free_one = refl

pub free_two : valid 2 free ≡ true
unfolding valid
free_two = refl

pub controlled_two : valid 2 controlled ≡ true
unfolding valid
controlled_two = refl

-- NOT does something, and the other one nothing on a state of line 0 alone
pub free_differs : run (free ∷ []) 0 ≡ run [] 0 → ⊥
unfolding fold apply valid inverted fires
free_differs e = let z : ◌≡◌ {A = ℕ} 1 0 = e in omega arith

pub controlled_keeps : (apply controlled 0 ≡ 0) × (apply controlled 1 ≡ 1)
unfolding apply valid inverted fires
controlled_keeps = (refl, refl)

-- ---- m NOTs as the start of a miter, and g as its last gate

module _ (m : ℕ) where
  -- how many of them are the first cascade's
  abbrev pub half : ℕ
  half = (m + 1) / 2

  abbrev pub first : List Gate
  first = nots half

  abbrev pub second : Gate → List Gate
  second g = g ∷ nots (m - half)

  abbrev pub start : List Gate
  start = first ++ reverse (nots (m - half))

  pub miter_split : (g : Gate) → miter_gates first (second g) ≡ start ++ (g ∷ [])
  miter_split g = ap (λ (l : List Gate). first ++ l) (reverse-cons g (nots (m - half))) ∙ sym (append_assoc first (reverse (nots (m - half))) (g ∷ []))

  pub start_length : length start ≡ m
  start_length =
      omega (arith, length-append first (reverse (nots (m - half))), length-reverse (nots (m - half)), length-replicate half free, length-replicate (m - half) free)

  pub start_taken : (g : Gate) → take m (miter_gates first (second g)) ≡ start
  start_taken g = ap (take m) (miter_split g) ∙ take_at start (g ∷ []) m start_length

  pub start_valid : all_valid 1 start ≡ true
  start_valid = valid_append 1 first (reverse (nots (m - half))) (nots_valid 1 free_one half) (inverse_valid 1 (nots (m - half)) (nots_valid 1 free_one (m - half)))

  -- the state after them, from 0
  abbrev pub reached : ℕ
  reached = run start 0

  reached_low : reached < 2
  reached_low = run_below 1 start start_valid 0 (omega arith)

  pub last_runs : (g : Gate) → run (miter_gates first (second g)) 0 ≡ apply g reached
  last_runs g = ap (λ (l : List Gate). run l 0) (miter_split g) ∙ run_append start (g ∷ []) 0 ∙ run_one g reached

  -- from a state of line 0 alone, NOT comes back to 0 exactly where what keeps the state does not
  pub unlike : (f : ℕ → ℕ) → f 0 ≡ 0 → f 1 ≡ 1 → (apply free reached ≡ 0) ↔ (f reached ≡ 0) → ⊥
  unlike f z o e = go reached reached_low e
    where
      up : apply free 0 ≡ 1
      up = unfold apply valid inverted fires in refl

      down : apply free 1 ≡ 0
      down = unfold apply valid inverted fires in refl

      go : (y : ℕ) → y < 2 → (apply free y ≡ 0) ↔ (f y ≡ 0) → ⊥
      go zero h e = let q : ◌≡◌ {A = ℕ} 1 0 = sym up ∙ e.1 z in omega arith
      go (suc zero) h e = let q : ◌≡◌ {A = ℕ} 1 0 = sym o ∙ e.0 down in omega arith
      go (suc (suc y)) h e = omega arith

-- ---- the clauses of the last gate dropped: the rest does not tell which gate it was

used_same : (used : ℕ) (xs : List Gate) → used_after used (xs ++ (free ∷ [])) ≡ used_after used (xs ++ (controlled ∷ []))
unfolding used_after controls_below bit
used_same used [] = refl
used_same used (x ∷ xs) = used_same (used_by used x) xs

current_same : (used : ℕ) (current : ℕ → ℕ) (xs : List Gate) (k : ℕ) → current_after used current (xs ++ (free ∷ [])) k ≡ current_after used current (xs ++ (controlled ∷ [])) k
unfolding current_after moved controls_below bit
current_same used current [] k = refl
current_same used current (x ∷ xs) k = current_same (used_by used x) (moved used current x) xs k

targeted_same : (xs : List Gate) (k : ℕ) → targeted (xs ++ (free ∷ [])) k ≡ targeted (xs ++ (controlled ∷ [])) k
unfolding targeted
targeted_same [] k = refl
targeted_same (x ∷ xs) k = rw (targeted_same xs k)

pub variables_same : (n : ℕ) (xs : List Gate) → variables_of n (xs ++ (free ∷ [])) ≡ variables_of n (xs ++ (controlled ∷ []))
unfolding variables_of
variables_same n xs = ap (λ (used : ℕ). used + n) (used_same n xs)

-- what the list is made of
abbrev made : ℕ → List Gate → (ℕ → Bool) → (ℕ → ℕ) → ℕ → List Clause
made n xs hit last used = gates_clauses n input_of xs ++ (difference_clauses hit input_of last used (up_from 0 n) ++ (OR (map plus (up_from (suc used) n)) ∷ []))

pub without_same : (m n : ℕ) (xs : List Gate) → length xs ≡ m → without_later m n (xs ++ (free ∷ [])) ≡ without_later m n (xs ++ (controlled ∷ []))
unfolding without_later
without_same m n xs long =
    let gs : List Gate = xs ++ (free ∷ []) in
    let hs : List Gate = xs ++ (controlled ∷ []) in
    ap (λ (l : List Gate). made n l (targeted gs) (current_after n input_of gs) (used_after n gs)) (take_at xs (free ∷ []) m long ∙ sym (take_at xs (controlled ∷ []) m long))
    ∙ ap (λ (hit : ℕ → Bool). made n (take m hs) hit (current_after n input_of gs) (used_after n gs)) (fun_ext (targeted_same xs))
    ∙ ap (λ (last : ℕ → ℕ). made n (take m hs) (targeted hs) last (used_after n gs)) (fun_ext (current_same n input_of xs))
    ∙ ap (λ (used : ℕ). made n (take m hs) (targeted hs) (current_after n input_of hs) used) (used_same n xs)

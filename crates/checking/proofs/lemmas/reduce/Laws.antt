-- The laws of the reduction: a step takes one gate or two away, so a reduction ends, and it is its first step and the reduction of what then stands. Assumes nothing.
use Rattle.std.proofs.Common.{◌≡◌, ℕ, zero, suc, ◌+◌, ◌<◌, ◌≤◌, List, [], ◌∷◌, length, sym, refl, ap, ◌∙◌, subst, arith}
use Rattle.circuit.specs.declared.gate.Gate.{Gate}
use Rattle.circuit.specs.Gate.{max_miter_gates}
use Rattle.circuit.specs.Outcome.{Outcome, served, refused, Yields}
use Rattle.circuit.specs.Words.{gates_of, check_outcome}
use Rattle.circuit.proofs.Promises.{then_served, then_refused}
use Rattle.checking.specs.Match.{Kind, remaining}
use Rattle.checking.specs.Step.{Search, search_from, Step, found, none, searched, step_gates, filled, served_words}
use Rattle.checking.specs.StepLaws.{taken}
use Rattle.checking.specs.Reduce.{Reduced, tallied, continued, reduce_by, reduce_gates, numbered, reduce_outcome, reduce_buffer}
use Rattle.checking.proofs.lemmas.step.Moving.{replaced_length}
use Rattle.checking.proofs.lemmas.step.Relation.{search_places}
use Rattle.checking.proofs.lemmas.step.Keeping.{match_taken}

pub taken_some : (k : Kind) → 0 < taken k
taken_some Kind.pair = omega arith
taken_some Kind.drop = omega arith
taken_some Kind.turn = omega arith

abbrev Shrinks : List Gate → Step (List Gate) → Type 0
Shrinks gs (found i j k hs) = length hs + taken k ≡ length gs
Shrinks gs none = Unit {0}

shrinks : (gs : List Gate) → Shrinks gs (step_gates gs)
unfolding step_gates
shrinks gs = go (search_from 0 gs) refl
  where
    go : (r : Search) → search_from 0 gs ≡ r → Shrinks gs (searched r gs)
    go (Search.at i j m) e =
        let (a, b) = search_places gs i j m e in
        let n = replaced_length i j (remaining m) gs a b in
        let t = match_taken m in
        omega arith
    go Search.nothing e = tt

-- a step takes one gate or two away
pub step_shrinks : (gs : List Gate) (i j : ℕ) (k : Kind) (hs : List Gate) → step_gates gs ≡ found i j k hs → length hs + taken k ≡ length gs
step_shrinks gs i j k hs e = subst (Shrinks gs) e (shrinks gs)

-- ---- enough steps

step_nothing : step_gates [] ≡ none
unfolding step_gates search_from
step_nothing = refl

enough : (f e : ℕ) (gs : List Gate) → length gs ≤ f → length gs ≤ e → reduce_by f gs ≡ reduce_by e gs
unfolding reduce_by
enough zero zero gs h l = refl
enough zero (suc e) [] h l = sym (ap (λ (t : Step (List Gate)). continued t [] (reduce_by e)) step_nothing)
enough zero (suc e) (g ∷ gs) h l = absurd (omega arith)
enough (suc f) zero [] h l = ap (λ (t : Step (List Gate)). continued t [] (reduce_by f)) step_nothing
enough (suc f) zero (g ∷ gs) h l = absurd (omega arith)
enough (suc f) (suc e) gs h l = go (λ hs. enough f e hs) (step_gates gs) (shrinks gs)
  where
    go : ((hs : List Gate) → length hs ≤ f → length hs ≤ e → reduce_by f hs ≡ reduce_by e hs) → (t : Step (List Gate)) → Shrinks gs t
        → continued t gs (reduce_by f) ≡ continued t gs (reduce_by e)
    go ih (found i j k hs) s = let p = taken_some k in ap (tallied k) (ih hs (omega arith) (omega arith))
    go ih none s = refl

-- the reduction is its first step, and the reduction of what then stands
pub reduce_found : (gs : List Gate) (i j : ℕ) (k : Kind) (hs : List Gate) → step_gates gs ≡ found i j k hs → reduce_gates gs ≡ tallied k (reduce_gates hs)
unfolding reduce_gates reduce_by
reduce_found gs i j k hs e =
    let s = step_shrinks gs i j k hs e in
    let n : ℕ = length gs in
    enough n (suc n) gs (omega arith) (omega arith)
    ∙ ap (λ (t : Step (List Gate)). continued t gs (reduce_by n)) e
    ∙ ap (tallied k) (enough n (length hs) hs (omega arith) (omega arith))

pub reduce_none : (gs : List Gate) → step_gates gs ≡ none → reduce_gates gs ≡ record { left = gs; pairs = 0; merges = 0 }
unfolding reduce_gates reduce_by
reduce_none gs e =
    let n : ℕ = length gs in
    enough n (suc n) gs (omega arith) (omega arith) ∙ ap (λ (t : Step (List Gate)). continued t gs (reduce_by n)) e

-- ---- what the call answers and leaves

module _ (n : ℕ) (ws : List ℕ) where
  abbrev after : List ℕ
  after = filled (reduce_gates (gates_of ws)).left (length ws)

  pub reduce_refused : (number place : ℕ) → check_outcome n ws max_miter_gates ≡ refused number place → Yields (refused number place) ws (reduce_outcome n ws) (reduce_buffer n ws)
  unfolding reduce_outcome reduce_buffer
  reduce_refused number place e =
      let o : reduce_outcome n ws ≡ refused number place = then_refused _ _ number place e in
      record { answer = sym o; buffer = sym (ap (λ (x : Outcome (Reduced ℕ)). served_words x after ws) o) }

  pub reduce_made : (k : ℕ) → check_outcome n ws max_miter_gates ≡ served k → (r : Reduced ℕ) (last : List ℕ)
      → Yields r last (numbered (reduce_gates (gates_of ws))) after → Yields (served r) last (reduce_outcome n ws) (reduce_buffer n ws)
  unfolding reduce_outcome reduce_buffer
  reduce_made k e r last y =
      let o : reduce_outcome n ws ≡ served (numbered (reduce_gates (gates_of ws))) = then_served _ _ k e in
      record { answer = ap served y.answer ∙ sym o; buffer = y.buffer ∙ sym (ap (λ (x : Outcome (Reduced ℕ)). served_words x after ws) o) }

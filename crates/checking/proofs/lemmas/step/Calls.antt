-- What a step on words answers and leaves. Assumes nothing.
use Rattle.std.proofs.Common.{◌≡◌, ℕ, ◌+◌, ◌/◌, List, length, sym, refl, ap, ◌∙◌, arith}
use Rattle.circuit.specs.declared.gate.Gate.{Gate}
use Rattle.circuit.specs.Gate.{max_miter_gates}
use Rattle.circuit.specs.Outcome.{Outcome, served, refused, Yields}
use Rattle.circuit.specs.Words.{gates_of, check_outcome}
use Rattle.circuit.proofs.Promises.{then_served, then_refused, gates_length}
use Rattle.checking.specs.declared.step.Match as code
use Rattle.checking.specs.declared.step.Found.{Found}
use Rattle.checking.specs.Match.{Match, kind_of, remaining, of_match}
use Rattle.checking.specs.Step.{Search, search_from, replaced, filled, Step, found, none, searched, step_gates, with_count, step_words, step_outcome, served_words, step_buffer}
use Rattle.checking.specs.private.StepCode.{of_found, FoundAt}
use Rattle.checking.proofs.lemmas.step.Moving.{replaced_length}
use Rattle.checking.proofs.lemmas.step.Relation.{search_places}

module _ (ws : List ℕ) where
  abbrev gs : List Gate
  gs = gates_of ws

  -- what the search tells stands in the words
  pub found_at : (f : Found) → search_from 0 gs ≡ of_found f → FoundAt ws f
  found_at f e =
      let (a, b) = search_places gs f.i f.j (of_match f.by) e in
      let g = gates_length ws in
      record { rising = a; inside = omega arith; found = e }

  told : (last : List ℕ) (r : Step ℕ) (t : Step (List Gate)) → step_gates gs ≡ t → r ≡ with_count t → last ≡ step_words t ws
      → Yields r last (with_count (step_gates gs)) (step_words (step_gates gs) ws)
  told last r t e a b = record { answer = a ∙ sym (ap with_count e); buffer = b ∙ sym (ap (λ (x : Step (List Gate)). step_words x ws) e) }

  -- the step that it makes, by the match
  pub told_found : (f : Found) → FoundAt ws f → (by : code.Match) → f.by ≡ by → (k : ℕ) → k + 2 ≡ length ws / 3 + length (remaining (of_match by))
      → (last : List ℕ) → last ≡ filled (replaced f.i f.j (remaining (of_match by)) gs) (length ws)
      → Yields (found f.i f.j (kind_of (of_match by)) k) last (with_count (step_gates gs)) (step_words (step_gates gs) ws)
  unfolding step_gates
  told_found f at by same k s last l =
      let m : Match = of_match by in
      let e : search_from 0 gs ≡ Search.at f.i f.j m = at.found ∙ ap (λ (by : code.Match). Search.at f.i f.j (of_match by)) same in
      let g = gates_length ws in
      let n = replaced_length f.i f.j (remaining m) gs at.rising (omega (arith, at.inside)) in
      let q : k ≡ length (replaced f.i f.j (remaining m) gs) = omega arith in
      told last (found f.i f.j (kind_of m) k) (found f.i f.j (kind_of m) (replaced f.i f.j (remaining m) gs)) (ap (λ (x : Search). searched x gs) e) (ap (found f.i f.j (kind_of m)) q) l

  pub told_none : search_from 0 gs ≡ Search.nothing → Yields none ws (with_count (step_gates gs)) (step_words (step_gates gs) ws)
  unfolding step_gates
  told_none e = told ws none none (ap (λ (x : Search). searched x gs) e) refl refl

-- ---- a caller's words

module _ (n : ℕ) (ws : List ℕ) where
  pub step_refused : (number place : ℕ) → check_outcome n ws max_miter_gates ≡ refused number place → Yields (refused number place) ws (step_outcome n ws) (step_buffer n ws)
  unfolding step_outcome step_buffer
  step_refused number place e =
      let o : step_outcome n ws ≡ refused number place = then_refused _ _ number place e in
      record { answer = sym o; buffer = sym (ap (λ (x : Outcome (Step ℕ)). served_words x (step_words (step_gates (gates_of ws)) ws) ws) o) }

  pub step_made : (k : ℕ) → check_outcome n ws max_miter_gates ≡ served k → (r : Step ℕ) (last : List ℕ)
      → Yields r last (with_count (step_gates (gates_of ws))) (step_words (step_gates (gates_of ws)) ws) → Yields (served r) last (step_outcome n ws) (step_buffer n ws)
  unfolding step_outcome step_buffer
  step_made k e r last y =
      let o : step_outcome n ws ≡ served (with_count (step_gates (gates_of ws))) = then_served _ _ k e in
      record {
        answer = ap served y.answer ∙ sym o;
        buffer = y.buffer ∙ sym (ap (λ (x : Outcome (Step ℕ)). served_words x (step_words (step_gates (gates_of ws)) ws) ws) o);
      }

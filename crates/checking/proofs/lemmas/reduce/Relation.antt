-- The reduction is exactly the relation in document 01's words, and keeps the run and validity. Assumes nothing.
use Rattle.std.proofs.Common.{◌≡◌, ℕ, zero, suc, ◌+◌, ◌*◌, ◌<◌, ◌≤◌, true, ◌↔◌, List, length, sym, refl, ap, ◌∙◌, subst, arith}
use Rattle.circuit.specs.declared.gate.Gate.{Gate}
use Rattle.circuit.specs.Gate.{max_lines, max_miter_gates}
use Rattle.circuit.specs.Outcome.{Outcome, served, refused, Untouched}
use Rattle.circuit.specs.Words.{gates_of, all_valid, check_outcome, Cascade, WordsRefused}
use Rattle.circuit.proofs.Promises.{then_served, then_refused, gates_length, valid_all_more, served_check, check_refused, refused_check}
use Rattle.checking.specs.Match.{Kind}
use Rattle.checking.specs.Step.{Step, found, none, step_gates, filled, served_words}
use Rattle.checking.specs.StepLaws.{Steps, Keeps, Stands}
use Rattle.checking.specs.Reduce.{Reduced, tallied, reduce_gates, numbered, reduce_outcome, reduce_buffer}
use Rattle.checking.specs.ReduceLaws.{Reduces, ends, pairs, drops, turns, ReduceLaws}
use Rattle.checking.proofs.lemmas.step.Laws.{step_keeps, step_count, step_is, steps_step, filled_stands, refused_first}
use Rattle.checking.proofs.lemmas.reduce.Laws.{taken_some, reduce_found, reduce_none}

-- the relation of a whole result
abbrev pub ReducesTo : List Gate → Reduced (List Gate) → Type 0
ReducesTo gs r = Reduces gs r.left r.pairs r.merges

tallied_reduces : (gs hs : List Gate) (i j : ℕ) (k : Kind) (r : Reduced (List Gate)) → Steps gs (found i j k hs) → ReducesTo hs r → ReducesTo gs (tallied k r)
tallied_reduces gs hs i j Kind.pair r s t = pairs s t
tallied_reduces gs hs i j Kind.drop r s t = drops s t
tallied_reduces gs hs i j Kind.turn r s t = turns s t

-- our reduction has the relation
first_step : (gs : List Gate) → all_valid max_lines gs ≡ true → (t : Step (List Gate)) → step_gates gs ≡ t
    → ((hs : List Gate) → length hs < length gs → all_valid max_lines hs ≡ true → ReducesTo hs (reduce_gates hs)) → ReducesTo gs (reduce_gates gs)
first_step gs v none e ih = subst (ReducesTo gs) (sym (reduce_none gs e)) (ends (step_is gs v none e))
first_step gs v (found i j k hs) e ih =
    let s = step_is gs v (found i j k hs) e in
    let t = step_count gs i j k hs s in
    let p = taken_some k in
    subst (ReducesTo gs) (sym (reduce_found gs i j k hs e))
    (tallied_reduces gs hs i j k (reduce_gates hs) s (ih hs (omega arith) (step_keeps max_lines gs (omega arith) v i j k hs s).good))

reduces_by : (f : ℕ) (gs : List Gate) → length gs ≤ f → all_valid max_lines gs ≡ true → ReducesTo gs (reduce_gates gs)
reduces_by zero gs l v = first_step gs v (step_gates gs) refl (λ hs h w. absurd (omega arith))
reduces_by (suc f) gs l v = first_step gs v (step_gates gs) refl (λ hs h w. reduces_by f hs (omega arith) w)

pub reduce_is : (gs : List Gate) → all_valid max_lines gs ≡ true → (r : Reduced (List Gate)) → reduce_gates gs ≡ r → ReducesTo gs r
reduce_is gs v r e = subst (ReducesTo gs) e (reduces_by (length gs) gs (omega arith) v)

-- and nothing else has
turn_back : (gs hs last : List Gate) (i j p m : ℕ) (k : Kind) → all_valid max_lines gs ≡ true → Steps gs (found i j k hs)
    → (all_valid max_lines hs ≡ true → reduce_gates hs ≡ record { left = last; pairs = p; merges = m }) → reduce_gates gs ≡ tallied k (record { left = last; pairs = p; merges = m })
turn_back gs hs last i j p m k v s ih =
    reduce_found gs i j k hs (steps_step gs v _ s) ∙ ap (tallied k) (ih (step_keeps max_lines gs (omega arith) v i j k hs s).good)

pub reduces_reduce : (gs last : List Gate) (p m : ℕ) → all_valid max_lines gs ≡ true → Reduces gs last p m → reduce_gates gs ≡ record { left = last; pairs = p; merges = m }
reduces_reduce gs _ _ _ v (ends s) = reduce_none gs (steps_step gs v none s)
reduces_reduce gs last _ m v (pairs {hs = hs} {i = i} {j = j} {p = p} s t) = turn_back gs hs last i j p m Kind.pair v s (λ w. reduces_reduce hs last p m w t)
reduces_reduce gs last p _ v (drops {hs = hs} {i = i} {j = j} {m = m} s t) = turn_back gs hs last i j p m Kind.drop v s (λ w. reduces_reduce hs last p m w t)
reduces_reduce gs last p _ v (turns {hs = hs} {i = i} {j = j} {m = m} s t) = turn_back gs hs last i j p m Kind.turn v s (λ w. reduces_reduce hs last p m w t)

-- ---- what a reduction keeps

module _ (n : ℕ) (l : n ≤ max_lines) where
  turn_keeps : (gs hs last : List Gate) (i j : ℕ) (k : Kind) → all_valid n gs ≡ true → Steps gs (found i j k hs) → (all_valid n hs ≡ true → Keeps n hs last) → Keeps n gs last
  turn_keeps gs hs last i j k v s ih =
      let a = step_keeps n gs l v i j k hs s in
      let b = ih a.good in
      record { same = λ x. b.same x ∙ a.same x; good = b.good }

  pub reduce_keeps : (gs last : List Gate) (p m : ℕ) → all_valid n gs ≡ true → Reduces gs last p m → Keeps n gs last
  reduce_keeps gs _ _ _ v (ends s) = record { same = λ x. refl; good = v }
  reduce_keeps gs last _ m v (pairs {hs = hs} {i = i} {j = j} {p = p} s t) = turn_keeps gs hs last i j Kind.pair v s (λ w. reduce_keeps hs last p m w t)
  reduce_keeps gs last p _ v (drops {hs = hs} {i = i} {j = j} {m = m} s t) = turn_keeps gs hs last i j Kind.drop v s (λ w. reduce_keeps hs last p m w t)
  reduce_keeps gs last p _ v (turns {hs = hs} {i = i} {j = j} {m = m} s t) = turn_keeps gs hs last i j Kind.turn v s (λ w. reduce_keeps hs last p m w t)

pub reduce_count : (gs last : List Gate) (p m : ℕ) → Reduces gs last p m → length gs ≡ length last + (2 * p + m)
reduce_count gs _ _ _ (ends s) = omega arith
reduce_count gs last _ m (pairs {hs = hs} {i = i} {j = j} {p = p} s t) =
    let a = step_count gs i j Kind.pair hs s in let b = reduce_count hs last p m t in omega arith
reduce_count gs last p _ (drops {hs = hs} {i = i} {j = j} {m = m} s t) =
    let a = step_count gs i j Kind.drop hs s in let b = reduce_count hs last p m t in omega arith
reduce_count gs last p _ (turns {hs = hs} {i = i} {j = j} {m = m} s t) =
    let a = step_count gs i j Kind.turn hs s in let b = reduce_count hs last p m t in omega arith

-- ---- the call

module _ (n : ℕ) (ws : List ℕ) where
  reduce_served : (k : ℕ) → Cascade n ws max_miter_gates k → reduce_outcome n ws ≡ served (numbered (reduce_gates (gates_of ws)))
  unfolding reduce_outcome
  reduce_served k c = then_served _ _ k (served_check n ws max_miter_gates k c)

  reduce_words : (k : ℕ) → Cascade n ws max_miter_gates k → reduce_buffer n ws ≡ filled (reduce_gates (gates_of ws)).left (length ws)
  unfolding reduce_buffer
  reduce_words k c = ap (λ (o : Outcome (Reduced ℕ)). served_words o (filled (reduce_gates (gates_of ws)).left (length ws)) ws) (reduce_served k c)

  call_stands : (k : ℕ) → Cascade n ws max_miter_gates k → Stands n ws (reduce_buffer n ws) (reduce_gates (gates_of ws)).left
  call_stands k c =
      let gs = gates_of ws in
      let r = reduce_gates gs in
      let v = valid_all_more n max_lines gs c.lines_high c.gates in
      let t = reduce_is gs v r refl in
      let q = reduce_count gs r.left r.pairs r.merges t in
      let z = c.size in
      let g = gates_length ws in
      rw (reduce_words k c) (filled_stands n ws k r.left c (omega arith) (reduce_keeps n c.lines_high gs r.left r.pairs r.merges c.gates t).good)

  pub call_untouched : Untouched (reduce_outcome n ws) ws (reduce_buffer n ws)
  unfolding reduce_buffer
  call_untouched number place e = ap (λ (o : Outcome (Reduced ℕ)). served_words o (filled (reduce_gates (gates_of ws)).left (length ws)) ws) e

  call_refused : (x y : ℕ) → (reduce_outcome n ws ≡ refused x y) ↔ WordsRefused n ws max_miter_gates x y
  unfolding reduce_outcome
  call_refused x y = (
    (λ e. check_refused n ws max_miter_gates x y (refused_first n ws (check_outcome n ws max_miter_gates) (numbered (reduce_gates (gates_of ws))) x y e)),
    (λ w. then_refused _ _ x y (refused_check n ws max_miter_gates x y w)),
  )

pub reduce_laws : ReduceLaws
reduce_laws =
    record {
      reduce_reduces = λ gs v r. (reduce_is gs v r, reduces_reduce gs r.left r.pairs r.merges v);
      reduce_keeps = λ n gs last p m l. reduce_keeps n l gs last p m;
      reduce_count = reduce_count;
      call_served = reduce_served;
      call_refused = call_refused;
      call_stands = call_stands;
      call_untouched = call_untouched;
      call_lines = λ n m ws k l c d. (reduce_served n ws k c ∙ sym (reduce_served m ws l d), reduce_words n ws k c ∙ sym (reduce_words m ws l d));
    }

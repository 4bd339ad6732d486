-- The laws of `specs/StepLaws.antt`, put together. Assumes nothing.
use Rattle.std.proofs.Common.{◌≡◌, ℕ, ◌+◌, ◌-◌, ◌*◌, ◌<◌, ◌≤◌, true, ◌↔◌, List, [], ◌∷◌, ◌++◌, length, get_or, take, replicate, sym, refl, ap, ◌∙◌, ap₂, arith, take_at, get_or-append-add}
use lib.ListN.{get_or-replicate}
use Rattle.circuit.specs.declared.gate.Gate.{Gate}
use Rattle.circuit.specs.Gate.{max_lines, max_miter_gates, valid}
use Rattle.circuit.specs.Outcome.{Outcome, served, refused, and_then, Untouched}
use Rattle.circuit.specs.Words.{gates_of, words_of, all_valid, check_outcome, Cascade, WordsRefused}
use Rattle.circuit.proofs.Promises.{never, then_served, then_refused, then_both, valid_more, gates_length, gates_words, words_length, valid_all_more, served_check, check_refused, refused_check}
use Rattle.checking.specs.Match.{Kind, Match, remaining}
use Rattle.checking.specs.Step.{filled, Step, found, none, step_gates, with_count, step_words, served_words, step_outcome, step_buffer}
use Rattle.checking.specs.StepLaws.{Matches, Steps, finds, taken, Keeps, Stands, StepLaws}
use Rattle.checking.proofs.lemmas.step.TwoGates.{match_run, match_valid}
use Rattle.checking.proofs.lemmas.step.Passing.{uncontrolled_lines, lines_uncontrolled, pass_lines, lines_pass, passing, two_run, pass_exactly}
use Rattle.checking.proofs.lemmas.step.Verdicts.{match_found, found_match, match_unique}
use Rattle.checking.proofs.lemmas.step.Relation.{step_relation, steps_unique}
use Rattle.checking.proofs.lemmas.step.Keeping.{candidate_run, candidate_valid, match_taken}
use Rattle.checking.proofs.lemmas.step.Moving.{replaced_length, filled_length}

-- ---- what a match and a step keep

match_keeps : (n : ℕ) (g h : Gate) (m : Match) → n ≤ max_lines → valid n g ≡ true → valid n h ≡ true → Matches g h m → Keeps n (g ∷ h ∷ []) (remaining m)
match_keeps n g h m l vg vh c =
    record {
      same = λ s. match_run g h (valid_more n max_lines g l vg) (valid_more n max_lines h l vh) s m c ∙ sym (two_run g h s);
      good = match_valid n g h m c vg vh;
    }

pub step_keeps : (n : ℕ) (gs : List Gate) → n ≤ max_lines → all_valid n gs ≡ true → (i j : ℕ) (k : Kind) (hs : List Gate) → Steps gs (found i j k hs) → Keeps n gs hs
step_keeps n gs l v i j k hs (finds _ _ m c low next) =
    record {
      same = candidate_run gs i j c.order c.inside m c (valid_all_more n max_lines gs l v);
      good = candidate_valid gs i j c.order c.inside m c n v;
    }

pub step_count : (gs : List Gate) (i j : ℕ) (k : Kind) (hs : List Gate) → Steps gs (found i j k hs) → length gs ≡ length hs + taken k
step_count gs i j k hs (finds _ _ m c low next) =
    let n = replaced_length i j (remaining m) gs c.order c.inside in
    let t = match_taken m in
    omega arith

-- our step has the relation, and nothing else has
pub steps_step : (gs : List Gate) → all_valid max_lines gs ≡ true → (r : Step (List Gate)) → Steps gs r → step_gates gs ≡ r
steps_step gs v r s = steps_unique gs (step_gates gs) r (step_relation gs v) s

pub step_is : (gs : List Gate) → all_valid max_lines gs ≡ true → (r : Step (List Gate)) → step_gates gs ≡ r → Steps gs r
step_is gs v r e = rw e at (step_relation gs v)

-- ---- the words of gates with zeros after them

pub filled_stands : (n : ℕ) (ws : List ℕ) (k : ℕ) (hs : List Gate) → Cascade n ws max_miter_gates k → length hs ≤ k → all_valid n hs ≡ true → Stands n ws (filled hs (length ws)) hs
unfolding filled
filled_stands n ws k hs c l v =
    let z = c.size in
    let f = c.few in
    let w : length (words_of hs) ≡ 3 * length hs = words_length hs in
    let t : take (3 * length hs) (filled hs (length ws)) ≡ words_of hs = take_at (words_of hs) _ (3 * length hs) w in
    let g : gates_of (take (3 * length hs) (filled hs (length ws))) ≡ hs = ap gates_of t ∙ gates_words hs in
    let m : length (filled hs (length ws)) ≡ length ws = filled_length hs (length ws) (omega arith) in
    record {
      gates = g;
      cascade = record { lines_low = c.lines_low; lines_high = c.lines_high; size = ap length t ∙ w; few = omega arith; gates = ap (all_valid n) g ∙ v };
      long = m;
      freed = λ i h j. zero_at (words_of hs) (length ws - 3 * length hs) i (omega arith) (omega arith);
    }
  where
    zero_at : (front : List ℕ) (m i : ℕ) → length front ≤ i → i < length front + m → get_or (front ++ replicate m 0) i 1 ≡ 0
    zero_at front m i h l =
        let e : length front + (i - length front) ≡ i = omega arith in
        ap (λ (k : ℕ). get_or (front ++ replicate m 0) k 1) (sym e)
        ∙ get_or-append-add front (replicate m 0) (i - length front) 1
        ∙ get_or-replicate m (i - length front) 0 1 (omega arith)

-- ---- the call

module _ (n : ℕ) (ws : List ℕ) where
  pub step_served : (k : ℕ) → Cascade n ws max_miter_gates k → step_outcome n ws ≡ served (with_count (step_gates (gates_of ws)))
  unfolding step_outcome
  step_served k c = then_served _ _ k (served_check n ws max_miter_gates k c)

  step_words_lem : (k : ℕ) → Cascade n ws max_miter_gates k → step_buffer n ws ≡ step_words (step_gates (gates_of ws)) ws
  unfolding step_buffer
  step_words_lem k c = ap (λ (o : Outcome (Step ℕ)). served_words o (step_words (step_gates (gates_of ws)) ws) ws) (step_served k c)

  call_stands : (k : ℕ) → Cascade n ws max_miter_gates k → (i j : ℕ) (m : Kind) (hs : List Gate) → step_gates (gates_of ws) ≡ found i j m hs → Stands n ws (step_buffer n ws) hs
  call_stands k c i j m hs e =
      let v = valid_all_more n max_lines (gates_of ws) c.lines_high c.gates in
      let s = step_is (gates_of ws) v _ e in
      let t = step_count (gates_of ws) i j m hs s in
      let z = c.size in
      let g = gates_length ws in
      rw (step_words_lem k c ∙ ap (λ (t : Step (List Gate)). step_words t ws) e)
      (filled_stands n ws k hs c (omega arith) (step_keeps n (gates_of ws) c.lines_high c.gates i j m hs s).good)

  -- nothing found, none answered, refused: the words are as they were
  pub none_kept : step_gates (gates_of ws) ≡ none → step_buffer n ws ≡ ws
  unfolding step_buffer
  none_kept e =
      ap (λ (t : Step (List Gate)). served_words (step_outcome n ws) (step_words t ws) ws) e ∙ unchanged (step_outcome n ws)
    where
      unchanged : (o : Outcome (Step ℕ)) → served_words o ws ws ≡ ws
      unchanged (served a) = refl
      unchanged (refused x y) = refl

  call_none : step_outcome n ws ≡ served none → step_buffer n ws ≡ ws
  unfolding step_outcome
  call_none e =
      let (k, p, f) = then_both (check_outcome n ws max_miter_gates) _ none e in
      let c : with_count (step_gates (gates_of ws)) ≡ none = cc in
      none_kept (counted_none (step_gates (gates_of ws)) c)
    where
      counted_none : (t : Step (List Gate)) → with_count t ≡ none → t ≡ none
      counted_none (found i j k hs) q = let z : ◌≡◌ {A = ℕ} 0 1 = cc in absurd (omega arith)
      counted_none none q = refl

  pub call_untouched : Untouched (step_outcome n ws) ws (step_buffer n ws)
  unfolding step_buffer
  call_untouched number place e = ap (λ (o : Outcome (Step ℕ)). served_words o (step_words (step_gates (gates_of ws)) ws) ws) e

  -- what is refused was refused by the tests of the words
  pub refused_first : {A : Type 0} (o : Outcome ℕ) (r : A) (x y : ℕ) → and_then o (λ k. served r) ≡ refused x y → o ≡ refused x y
  refused_first (served k) r x y e = absurd (never refl e)
  refused_first (refused a b) r x y e = let p : a ≡ x = cc in let q : b ≡ y = cc in ap₂ (λ (u v : ℕ). refused u v) p q

  call_refused : (x y : ℕ) → (step_outcome n ws ≡ refused x y) ↔ WordsRefused n ws max_miter_gates x y
  unfolding step_outcome
  call_refused x y = (
    (λ e. check_refused n ws max_miter_gates x y (refused_first (check_outcome n ws max_miter_gates) (with_count (step_gates (gates_of ws))) x y e)),
    (λ w. then_refused _ _ x y (refused_check n ws max_miter_gates x y w)),
  )

pub step_laws : StepLaws
step_laws =
    record {
      uncontrolled_lines = λ g h. (uncontrolled_lines g h, (λ c. lines_uncontrolled g h c.0 c.1));
      pass_lines = λ g h. (pass_lines g h, lines_pass g h);
      pass_exactly = pass_exactly;
      pass_commute = passing;
      match_lines = λ g h m vg vh. (found_match g h m vg vh, match_found g h m);
      match_one = match_unique;
      match_keeps = match_keeps;
      step_steps = λ gs v r. (step_is gs v r, steps_step gs v r);
      step_keeps = step_keeps;
      step_count = step_count;
      call_served = step_served;
      call_refused = call_refused;
      call_stands = call_stands;
      call_none = call_none;
      call_untouched = call_untouched;
      call_lines = λ n m ws k l c d. (step_served n ws k c ∙ sym (step_served m ws l d), step_words_lem n ws k c ∙ sym (step_words_lem m ws l d));
    }

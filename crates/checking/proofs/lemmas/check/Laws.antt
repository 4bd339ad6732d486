-- What a call and a list of calls leave in the miter's buffer, and demand 3 of what the code answers. Assumes nothing.
use Rattle.std.proofs.Common.{◌≡◌, ℕ, ◌+◌, ◌*◌, ◌/◌, ◌<◌, ◌≤◌, List, [], ◌∷◌, ◌++◌, length, get_or, take, drop, sym, refl, ap, ◌∙◌, subst, ap₂, le_refl, arith, drop_of_length-le, length-drop, length-take-le, take_at}
use lib.Seq.{take-append-le}
use Rattle.bits.specs.Lists.{over}
use Rattle.bits.proofs.Lists.{over_length, two}
use Rattle.circuit.specs.declared.gate.Gate.{Gate}
use Rattle.circuit.specs.Gate.{max_lines, max_miter_gates}
use Rattle.circuit.specs.Outcome.{Outcome, served, refused, Yields}
use Rattle.circuit.specs.Words.{gates_of, check_outcome, Cascade}
use Rattle.circuit.proofs.Promises.{check_served, valid_all_more, gates_length}
use Rattle.checking.specs.Step.{Step, found, none, step_gates, with_count, step_outcome, step_buffer}
use Rattle.checking.specs.StepLaws.{Stands}
use Rattle.checking.specs.Reduce.{Reduced, reduce_gates, reduce_outcome, reduce_buffer}
use Rattle.checking.specs.Equality.{step_leaves, reduce_leaves, after, after_all}
use Rattle.checking.specs.declared.check.Call.TheVariants.{ReduceOn}
use Rattle.checking.specs.declared.check.Call.TheVariants.{StepOn}
use Rattle.checking.specs.declared.check.Call.{Call}
use Rattle.checking.specs.Check.{call_of, calls_of, Held, held_words, step_gates_left, reduce_gates_left, called, called_all}
use Rattle.checking.proofs.lemmas.step.Calls.{step_refused}
use Rattle.checking.proofs.lemmas.step.Laws.{none_kept, step_laws}
use Rattle.checking.proofs.lemmas.reduce.Laws.{step_shrinks, reduce_refused}
use Rattle.checking.proofs.lemmas.reduce.Relation.{reduce_laws}

-- ---- one call

abbrev holding : ℕ → List ℕ → Held
holding gates ws = record { gates = gates; words = ws }

module _ (n gates : ℕ) (ws last : List ℕ) (room : 3 * gates ≤ length ws) (long : length last ≡ length (take (3 * gates) ws)) where
  size : length last ≡ 3 * gates
  size = long ∙ length-take-le (3 * gates) ws room

  -- the part that was lent, and the rest
  rest : (buffer : List ℕ) → last ≡ buffer → last ++ drop (3 * gates) ws ≡ over buffer ws
  rest buffer e = ap₂ (λ (l : List ℕ) (k : ℕ). l ++ drop k ws) e (sym size ∙ ap length e)

  pub step_called : (t : Outcome (Step ℕ)) (r : ℕ) → t ≡ step_outcome n (take (3 * gates) ws) → last ≡ step_buffer n (take (3 * gates) ws) → r ≡ step_gates_left t gates
      → Yields r (last ++ drop (3 * gates) ws) (called (StepOn n) (holding gates ws)).gates (called (StepOn n) (holding gates ws)).words
  unfolding called
  step_called t r e l f =
      record { answer = f ∙ ap (λ (o : Outcome (Step ℕ)). step_gates_left o gates) e; buffer = rest (step_buffer n (take (3 * gates) ws)) l }

  pub reduce_called : (t : Outcome (Reduced ℕ)) (r : ℕ) → t ≡ reduce_outcome n (take (3 * gates) ws) → last ≡ reduce_buffer n (take (3 * gates) ws) → r ≡ reduce_gates_left t gates
      → Yields r (last ++ drop (3 * gates) ws) (called (ReduceOn n) (holding gates ws)).gates (called (ReduceOn n) (holding gates ws)).words
  unfolding called
  reduce_called t r e l f =
      record { answer = f ∙ ap (λ (o : Outcome (Reduced ℕ)). reduce_gates_left o gates) e; buffer = rest (reduce_buffer n (take (3 * gates) ws)) l }

-- ---- what stands after a call

-- fewer gates or as many, a buffer as long, and at its start what stands after the call
pub record Leaves (c : Call) (h : Held) : Type 0 where
  pub few : (called c h).gates ≤ h.gates
  pub long : length (called c h).words ≡ length h.words
  pub stands : held_words (called c h) ≡ after c (held_words h)

module _ (gates : ℕ) (ws : List ℕ) (room : 3 * gates ≤ length ws) where
  abbrev st : List ℕ
  st = take (3 * gates) ws

  st_long : length st ≡ 3 * gates
  st_long = length-take-le (3 * gates) ws room

  over_long : (buffer : List ℕ) → length buffer ≡ length st → length (over buffer ws) ≡ length ws
  over_long buffer e = over_length buffer ws (omega (arith, st_long))

  -- at the start of a buffer
  front : (buffer : List ℕ) (k : ℕ) → length buffer ≡ length st → k ≤ gates → take (3 * k) (over buffer ws) ≡ take (3 * k) buffer
  front buffer k e l = take-append-le (3 * k) buffer (drop (length buffer) ws) (omega (arith, st_long))

  whole : (buffer : List ℕ) → buffer ≡ st → take (3 * gates) (over buffer ws) ≡ buffer
  whole buffer e = take_at buffer (drop (length buffer) ws) (3 * gates) (ap length e ∙ st_long)

  module _ (n : ℕ) where
    abbrev StepLeft : Outcome (Step ℕ) → Type 0
    StepLeft o =
        (step_gates_left o gates ≤ gates)
        × (length (step_buffer n st) ≡ length st)
        × (take (3 * step_gates_left o gates) (over (step_buffer n st) ws) ≡ step_leaves o (step_buffer n st))

    step_served : (k : ℕ) → Cascade n st max_miter_gates k → (t : Step (List Gate)) → step_gates (gates_of st) ≡ t → StepLeft (served (with_count t))
    step_served k c (found i j kind hs) e =
        let s : Stands n st (step_buffer n st) hs = step_laws.call_stands n st k c i j kind hs e in
        let f : length hs ≤ gates = omega (arith, step_shrinks (gates_of st) i j kind hs e, gates_length st, st_long) in
        (f, s.long, front (step_buffer n st) (length hs) s.long f)
    step_served k c none e =
        let b : step_buffer n st ≡ st = none_kept n st e in
        (le_refl gates, ap length b, whole (step_buffer n st) b)

    step_left : (o : Outcome ℕ) → check_outcome n st max_miter_gates ≡ o → StepLeft (step_outcome n st)
    step_left (served k) e =
        let c = check_served n st max_miter_gates k e in
        subst StepLeft (sym (step_laws.call_served n st k c)) (step_served k c (step_gates (gates_of st)) refl)
    step_left (refused number place) e =
        let y = step_refused n st number place e in
        let b : step_buffer n st ≡ st = sym y.buffer in
        subst StepLeft y.answer (le_refl gates, ap length b, whole (step_buffer n st) b)

    abbrev ReduceLeft : Outcome (Reduced ℕ) → Type 0
    ReduceLeft o =
        (reduce_gates_left o gates ≤ gates)
        × (length (reduce_buffer n st) ≡ length st)
        × (take (3 * reduce_gates_left o gates) (over (reduce_buffer n st) ws) ≡ reduce_leaves o (reduce_buffer n st))

    reduce_left : (o : Outcome ℕ) → check_outcome n st max_miter_gates ≡ o → ReduceLeft (reduce_outcome n st)
    reduce_left (served k) e =
        let c = check_served n st max_miter_gates k e in
        let r : Reduced (List Gate) = reduce_gates (gates_of st) in
        let s : Stands n st (reduce_buffer n st) r.left = reduce_laws.call_stands n st k c in
        let v = valid_all_more n max_lines (gates_of st) c.lines_high c.gates in
        let f : length r.left ≤ gates =
        omega (arith, reduce_laws.reduce_count (gates_of st) r.left r.pairs r.merges ((reduce_laws.reduce_reduces (gates_of st) v r).0 refl), gates_length st, st_long) in
        subst ReduceLeft (sym (reduce_laws.call_served n st k c)) (f, s.long, front (reduce_buffer n st) (length r.left) s.long f)
    reduce_left (refused number place) e =
        let y = reduce_refused n st number place e in
        let b : reduce_buffer n st ≡ st = sym y.buffer in
        subst ReduceLeft y.answer (le_refl gates, ap length b, whole (reduce_buffer n st) b)

  leaves : (c : Call) → Leaves c (holding gates ws)
  unfolding called after
  leaves (StepOn n) =
      let (f, l, s) = step_left n (check_outcome n st max_miter_gates) refl in
      record { few = f; long = over_long (step_buffer n st) l; stands = s }
  leaves (ReduceOn n) =
      let (f, l, s) = reduce_left n (check_outcome n st max_miter_gates) refl in
      record { few = f; long = over_long (reduce_buffer n st) l; stands = s }

pub call_leaves : (c : Call) (h : Held) → 3 * h.gates ≤ length h.words → Leaves c h
call_leaves c h room = leaves h.gates h.words room c

-- of a call that was made
pub made_few : (c : Call) (h : Held) (r : ℕ) (last : List ℕ) → 3 * h.gates ≤ length h.words → Yields r last (called c h).gates (called c h).words → r ≤ h.gates
made_few c h r last room y = omega (arith, y.answer, (call_leaves c h room).few)

-- and after a list of calls
pub record LeavesAll (cs : List Call) (h : Held) : Type 0 where
  pub few : (called_all cs h).gates ≤ h.gates
  pub long : length (called_all cs h).words ≡ length h.words
  pub stands : held_words (called_all cs h) ≡ after_all cs (held_words h)

pub calls_leave : (cs : List Call) (h : Held) → 3 * h.gates ≤ length h.words → LeavesAll cs h
unfolding called_all after_all
calls_leave [] h room = record { few = le_refl h.gates; long = refl; stands = refl }
calls_leave (c ∷ cs) h room =
    let l = call_leaves c h room in
    let m = calls_leave cs (called c h) (omega (arith, l.few, l.long)) in
    record { few = omega (arith, l.few, m.few); long = m.long ∙ l.long; stands = m.stands ∙ ap (after_all cs) l.stands }

-- ---- the loops over the calls and over their words

-- one call less to make
call_made : (cs ds : List Call) (gates r : ℕ) (c : Call) (words last : List ℕ) → cs ≡ c ∷ ds
    → Yields r last (called c (holding gates words)).gates (called c (holding gates words)).words
    → called_all cs (holding gates words) ≡ called_all ds (holding r last)
unfolding called_all
call_made cs ds gates r c words last e y =
    ap (λ (l : List Call). called_all l (holding gates words)) e
    ∙ ap (called_all ds) (sym (ap₂ (λ (k : ℕ) (l : List ℕ). holding k l) y.answer y.buffer))

-- a turn: what is left to do, after one call more
pub calls_turn : (cs : List Call) (i gates r : ℕ) (c : Call) (words last : List ℕ) → drop i cs ≡ c ∷ drop (i + 1) cs
    → Yields r last (called c (holding gates words)).gates (called c (holding gates words)).words
    → called_all (drop i cs) (holding gates words) ≡ called_all (drop (i + 1) cs) (holding r last)
calls_turn cs i = call_made (drop i cs) (drop (i + 1) cs)

pub calls_end : (cs : List Call) (i : ℕ) (h : Held) → length cs ≤ i → called_all (drop i cs) h ≡ h
unfolding called_all
calls_end cs i h e = ap (λ (l : List Call). called_all l h) (drop_of_length-le cs e)

pub calls_next : (ws : List ℕ) (i kind n : ℕ) → i < length ws / 2 → kind ≡ get_or ws (2 * i) 0 → n ≡ get_or ws (2 * i + 1) 0
    → calls_of (drop (2 * i) ws) ≡ call_of kind n ∷ calls_of (drop (2 * (i + 1)) ws)
unfolding calls_of
calls_next ws i kind n h e f =
    let up : 2 * i + 2 ≡ 2 * (i + 1) = omega arith in
    ap calls_of (two 0 ws (2 * i) (omega arith))
    ∙ ap₂ (λ (x y : ℕ). call_of x y ∷ calls_of (drop (2 * i + 2) ws)) (sym e) (sym f)
    ∙ ap (λ (k : ℕ). call_of kind n ∷ calls_of (drop k ws)) up

-- a turn over two words
pub calls_of_turn : (ws : List ℕ) (i kind n gates r : ℕ) (c : Call) (words last : List ℕ) → i < length ws / 2 → kind ≡ get_or ws (2 * i) 0 → n ≡ get_or ws (2 * i + 1) 0 → c ≡ call_of kind n
    → Yields r last (called c (holding gates words)).gates (called c (holding gates words)).words
    → called_all (calls_of (drop (2 * i) ws)) (holding gates words) ≡ called_all (calls_of (drop (2 * (i + 1)) ws)) (holding r last)
calls_of_turn ws i kind n gates r c words last h e f d =
    call_made (calls_of (drop (2 * i) ws)) (calls_of (drop (2 * (i + 1)) ws)) gates r c words last
    (calls_next ws i kind n h e f ∙ ap (λ (x : Call). x ∷ calls_of (drop (2 * (i + 1)) ws)) (sym d))

-- a word that is left alone is no call
pub calls_of_end : (ws : List ℕ) (i : ℕ) (h : Held) → length ws / 2 ≤ i → called_all (calls_of (drop (2 * i) ws)) h ≡ h
unfolding calls_of called_all
calls_of_end ws i h e = short (drop (2 * i) ws) h (omega (arith, length-drop (2 * i) ws))
  where
    short : (l : List ℕ) (h : Held) → length l < 2 → called_all (calls_of l) h ≡ h
    short [] h e = refl
    short (k ∷ []) h e = refl
    short (k ∷ n ∷ l) h e = absurd (omega arith)

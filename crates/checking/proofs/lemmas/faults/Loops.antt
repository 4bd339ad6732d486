-- The laws of the loops over gates and states, and of what the call answers and leaves. Assumes nothing.
use Rattle.std.proofs.Common.{◌≡◌, ℕ, suc, ◌+◌, ◌*◌, ◌/◌, ◌<◌, ◌≤◌, true, false, List, [], ◌∷◌, ◌++◌, map, length, get_or, take, drop, set, sym, refl, ap, ◌∙◌, subst, ap₂, append_assoc, arith, length-append, take-append-drop, drop_of_length-le, length-take-le, drop-cons, take_at, drop_at, le-leb}
use mathlib.Core.Bool.{and-true}
use lib.Bits.{bit_and}
use lib.Seq.{sets-eq}
use borrow.Author.Tests.{lt-leb}
use Rattle.bits.specs.Lists.{over}
use Rattle.bits.proofs.Lists.{two}
use Rattle.circuit.specs.declared.gate.Gate.{Gate}
use Rattle.circuit.specs.declared.header.Header.{Header}
use Rattle.circuit.specs.Gate.{max_lines, max_gates, apply}
use Rattle.circuit.specs.Header.{permits}
use Rattle.circuit.specs.Outcome.{Outcome, served, refused, written, Yields}
use Rattle.circuit.specs.Refusal.{bad_state, agreeing_state, no_room}
use Rattle.circuit.specs.Words.{gates_of, gate_at, headed_pair_outcome, Cascade}
use Rattle.circuit.specs.declared.words.Counts.{Counts}
use Rattle.circuit.proofs.Promises.{demand_met, demand_failed, then_served, then_refused, then_both, told, gates_next, gates_end, headed_pair_served}
use Rattle.checking.specs.Compare.{outputs_differ}
use Rattle.checking.specs.Each.{each_from}
use Rattle.checking.specs.Faults.{is_free, Fault, missing_control, gate_faults, gate_masks, stands, mask_where, masks_from, fault_masks, fault_check, fault_outcome, fault_buffer, everywhere}
use Rattle.checking.specs.private.Narrowing.{kept, narrowed, narrowed_by}
use Rattle.checking.proofs.lemmas.faults.Masks.{same_mask, narrowed_by_lem}

-- ---- two words stored at a place

abbrev pub two_set : List ℕ → ℕ → ℕ → ℕ → List ℕ
two_set out at v w = set (set out at v) (at + 1) w

module _ (out : List ℕ) (at : ℕ) (inside : at + 1 < length out) where
  module _ (v w : ℕ) where
    front_length : length (take at out ++ (v ∷ w ∷ [])) ≡ at + 2
    front_length = omega (arith, length-append (take at out) (v ∷ w ∷ []), length-take-le at out (omega arith))

    both_set : two_set out at v w ≡ (take at out ++ (v ∷ w ∷ [])) ++ drop (at + 2) out
    both_set =
        let e : suc at ≡ at + 1 = omega arith in
        let f : at + length (v ∷ w ∷ []) ≡ at + 2 = omega arith in
        ap (λ (k : ℕ). set (set out at v) k w) (sym e)
        ∙ sets-eq (v ∷ w ∷ []) out at (omega arith)
        ∙ ap (λ (k : ℕ). (take at out ++ (v ∷ w ∷ [])) ++ drop k out) f

    -- what is before, the two words, and anything after them
    two_front : (rest : List ℕ) → take at out ++ (v ∷ w ∷ rest) ≡ take (at + 2) (two_set out at v w) ++ rest
    two_front rest =
        sym (append_assoc (take at out) (v ∷ w ∷ []) rest)
        ∙ ap (λ (l : List ℕ). l ++ rest)
        (sym (ap (take (at + 2)) both_set ∙ take_at (take at out ++ (v ∷ w ∷ [])) (drop (at + 2) out) (at + 2) front_length))

    two_rest : drop (at + 2) (two_set out at v w) ≡ drop (at + 2) out
    two_rest = ap (drop (at + 2)) both_set ∙ drop_at (take at out ++ (v ∷ w ∷ [])) (drop (at + 2) out) (at + 2) front_length

    -- the same, with what is left as it is after the two words were stored
    pub two_more : (more : List ℕ → List ℕ) → take at out ++ (v ∷ w ∷ more (drop (at + 2) out)) ≡ take (at + 2) (two_set out at v w) ++ more (drop (at + 2) (two_set out at v w))
    two_more more = two_front (more (drop (at + 2) out)) ∙ ap (λ (l : List ℕ). take (at + 2) (two_set out at v w) ++ more l) (sym two_rest)

-- ---- the masks before any state

-- the lines on which each fault of a gate may be
abbrev pub free_masks : ℕ → List Gate → List ℕ
free_masks n [] = []
free_masks n (g ∷ gs) = map (λ fault. mask_where n (fault.lines g)) gate_faults ++ free_masks n gs

-- no state strikes a line
free_stands : (n : ℕ) (faults : List Fault) (before : List Gate) (g : Gate)
    → map (λ fault. mask_where n (stands fault before g [])) faults ≡ map (λ fault. mask_where n (fault.lines g)) faults
unfolding everywhere
free_stands n [] before g = refl
free_stands n (fault ∷ faults) before g =
    ap₂ (λ (m : ℕ) (ms : List ℕ). m ∷ ms) (same_mask n (stands fault before g []) (fault.lines g) (λ k h. and-true (fault.lines g k))) (free_stands n faults before g)

pub free_masks_lem : (n : ℕ) (before gs : List Gate) → masks_from n before gs [] ≡ free_masks n gs
unfolding masks_from
free_masks_lem n before [] = refl
free_masks_lem n before (g ∷ gs) = ap₂ (λ (ms rest : List ℕ). ms ++ rest) (free_stands n gate_faults before g) (free_masks_lem n (before ++ (g ∷ [])) gs)

-- the gates from i on, and the words of the buffer behind those that are done
abbrev pub free_left : ℕ → List ℕ → List ℕ → ℕ → List ℕ
free_left n ws out i = take (2 * i) out ++ over (free_masks n (gates_of (drop (3 * i) ws))) (drop (2 * i) out)

module _ (ws out : List ℕ) (i : ℕ) (g : Gate) (inside : i < length ws / 3) (room : 2 * i + 1 < length out) (is : g ≡ gate_at ws i) where
  next : gates_of (drop (3 * i) ws) ≡ g ∷ gates_of (drop (3 * (i + 1)) ws)
  next = gates_next ws i inside ∙ ap (λ (f : Gate). f ∷ gates_of (drop (3 * (i + 1)) ws)) (sym is)

  up : 2 * i + 2 ≡ 2 * (i + 1)
  up = omega arith

  pub free_turn : (n m : ℕ) → m ≡ mask_where n (is_free g) → free_left n ws out i ≡ free_left n ws (two_set out (2 * i) m m) (i + 1)
  free_turn n m e =
      let more : List ℕ → List ℕ = over (free_masks n (gates_of (drop (3 * (i + 1)) ws))) in
      ap₂ (λ (gs : List Gate) (l : List ℕ). take (2 * i) out ++ over (free_masks n gs) l) next (two 0 out (2 * i) room)
      ∙ ap (λ (x : ℕ). take (2 * i) out ++ (x ∷ x ∷ more (drop (2 * i + 2) out))) (sym e)
      ∙ two_more out (2 * i) room m m more
      ∙ ap (λ (k : ℕ). take k (two_set out (2 * i) m m) ++ more (drop k (two_set out (2 * i) m m))) up

  -- one state more; t is the state after gate g
  pub narrow_turn : (s t v w : ℕ) → t ≡ apply g s → v ≡ bit_and (get_or out (2 * i) 0) (kept (missing_control true) g s) → w ≡ bit_and (get_or out (2 * i + 1) 0) (kept (missing_control false) g s)
      → take (2 * i) out ++ narrowed (gates_of (drop (3 * i) ws)) s (drop (2 * i) out)
      ≡ take (2 * (i + 1)) (two_set out (2 * i) v w) ++ narrowed (gates_of (drop (3 * (i + 1)) ws)) t (drop (2 * (i + 1)) (two_set out (2 * i) v w))
  unfolding narrowed
  narrow_turn s t v w d e f =
      let more : List ℕ → List ℕ = narrowed (gates_of (drop (3 * (i + 1)) ws)) t in
      ap₂ (λ (gs : List Gate) (l : List ℕ). take (2 * i) out ++ narrowed gs s l) next (two 0 out (2 * i) room)
      ∙ ap (λ (u : ℕ). take (2 * i) out ++ (bit_and (get_or out (2 * i) 0) (kept (missing_control true) g s) ∷ bit_and (get_or out (2 * i + 1) 0) (kept (missing_control false) g s) ∷ narrowed (gates_of (drop (3 * (i + 1)) ws)) u (drop (2 * i + 2) out))) (sym d)
      ∙ ap₂ (λ (x y : ℕ). take (2 * i) out ++ (x ∷ y ∷ more (drop (2 * i + 2) out))) (sym e) (sym f)
      ∙ two_more out (2 * i) room v w more
      ∙ ap (λ (k : ℕ). take k (two_set out (2 * i) v w) ++ more (drop k (two_set out (2 * i) v w))) up

-- nothing is left
pub free_end : (n : ℕ) (ws out : List ℕ) (i : ℕ) → length ws / 3 ≤ i → free_left n ws out i ≡ out
free_end n ws out i h =
    ap (λ (gs : List Gate). take (2 * i) out ++ over (free_masks n gs) (drop (2 * i) out)) (gates_end ws i h) ∙ take-append-drop (2 * i) out

pub narrow_end : (ws out : List ℕ) (s i : ℕ) → length ws / 3 ≤ i → take (2 * i) out ++ narrowed (gates_of (drop (3 * i) ws)) s (drop (2 * i) out) ≡ out
unfolding narrowed
narrow_end ws out s i h =
    ap (λ (gs : List Gate). take (2 * i) out ++ narrowed gs s (drop (2 * i) out)) (gates_end ws i h) ∙ take-append-drop (2 * i) out

-- ---- the states

pub states_next : (gs : List Gate) (xs ms last : List ℕ) (i x : ℕ) → i < length xs → x ≡ get_or xs i 0 → last ≡ narrowed gs x ms
    → narrowed_by gs (drop i xs) ms ≡ narrowed_by gs (drop (i + 1) xs) last
unfolding narrowed_by
states_next gs xs ms last i x h e f =
    let one : suc i ≡ i + 1 = omega arith in
    ap (λ (l : List ℕ). narrowed_by gs l ms) (drop-cons xs i 0 h ∙ ap (λ (k : ℕ). get_or xs i 0 ∷ drop k xs) one)
    ∙ ap (narrowed_by gs (drop (i + 1) xs)) (ap (λ (y : ℕ). narrowed gs y ms) (sym e) ∙ sym f)

pub states_end : (gs : List Gate) (xs ms : List ℕ) (i : ℕ) → length xs ≤ i → narrowed_by gs (drop i xs) ms ≡ ms
unfolding narrowed_by
states_end gs xs ms i h = ap (λ (l : List ℕ). narrowed_by gs l ms) (drop_of_length-le xs h)

-- ---- what the call answers and leaves

module _ (ha : Header) (a : List ℕ) (hb : Header) (b xs : List ℕ) where
  abbrev Allowed : Outcome ℕ
  Allowed = each_from (permits ha) bad_state 0 xs

  abbrev Differing : Outcome ℕ
  Differing = each_from (outputs_differ ha (gates_of a) (gates_of b)) agreeing_state 0 xs

  pub fault_pair : (number place : ℕ) → headed_pair_outcome ha a hb b ≡ refused number place → fault_check ha a hb b xs ≡ refused number place
  unfolding fault_check
  fault_pair number place e = then_refused _ _ number place e

  module _ (counts : Counts) (good : headed_pair_outcome ha a hb b ≡ served counts) where
    pub fault_state : (number place : ℕ) → Allowed ≡ refused number place → fault_check ha a hb b xs ≡ refused number place
    unfolding fault_check
    fault_state number place e = then_served _ _ counts good ∙ then_refused _ _ number place e

    module _ (k : ℕ) (allowed : Allowed ≡ served k) where
      pub fault_agree : (number place : ℕ) → Differing ≡ refused number place → fault_check ha a hb b xs ≡ refused number place
      unfolding fault_check
      fault_agree number place e = then_served _ _ counts good ∙ then_served _ _ k allowed ∙ then_refused _ _ number place e

      pub fault_good : (m : ℕ) → Differing ≡ served m → fault_check ha a hb b xs ≡ served counts.first
      unfolding fault_check
      fault_good m e = then_served _ _ counts good ∙ then_served _ _ k allowed ∙ then_served _ _ m e

  -- the suspect of a served test
  pub fault_suspect : (gates : ℕ) → fault_check ha a hb b xs ≡ served gates → Cascade ha.lines a max_gates gates
  unfolding fault_check
  fault_suspect gates e =
      let (counts, good, f) = then_both (headed_pair_outcome ha a hb b) _ gates e in
      let (k, p, g) = then_both Allowed _ gates f in
      let (m, q, h) = then_both Differing _ gates g in
      let first : counts.first ≡ gates = ap (λ (o : Outcome ℕ). value_of o) h in
      subst (λ (j : ℕ). Cascade ha.lines a max_gates j) first (headed_pair_served ha a hb b counts good).first_good.cascade
    where
      value_of : Outcome ℕ → ℕ
      value_of (served x) = x
      value_of (refused x y) = 0

  module _ (out : List ℕ) where
    pub fault_told : (r o : Outcome ℕ) (last : List ℕ) → r ≡ o → fault_outcome ha a hb b xs (length out) ≡ o → last ≡ written o (fault_masks ha.lines (gates_of a) xs) out
        → Yields r last (fault_outcome ha a hb b xs (length out)) (fault_buffer ha a hb b xs out)
    unfolding fault_buffer
    fault_told r o last e f l = told (fault_masks ha.lines (gates_of a) xs) out r last (fault_outcome ha a hb b xs (length out)) o e f l

  module _ (room : ℕ) where
    pub fault_refused : (number place : ℕ) → fault_check ha a hb b xs ≡ refused number place → fault_outcome ha a hb b xs room ≡ refused number place
    unfolding fault_outcome
    fault_refused number place e = then_refused _ _ number place e

    module _ (gates : ℕ) (good : fault_check ha a hb b xs ≡ served gates) where
      pub fault_short : room < gate_masks * gates → fault_outcome ha a hb b xs room ≡ refused no_room 0
      unfolding fault_outcome
      fault_short h = then_served _ _ gates good ∙ demand_failed _ _ _ _ (lt-leb _ _ h)

      pub fault_made : gate_masks * gates ≤ room → fault_outcome ha a hb b xs room ≡ served gates
      unfolding fault_outcome
      fault_made h = then_served _ _ gates good ∙ demand_met _ _ _ _ (le-leb _ _ h)

pub masks_length : (n : ℕ) (before gs : List Gate) (xs : List ℕ) → length (masks_from n before gs xs) ≡ gate_masks * length gs
unfolding masks_from
masks_length n before [] xs = refl
masks_length n before (g ∷ gs) xs = let h = masks_length n (before ++ (g ∷ [])) gs xs in omega arith

-- the masks before any state, narrowed by all states
pub all_narrowed : (n : ℕ) (gs : List Gate) (xs out : List ℕ) → n ≤ max_lines → narrowed_by gs xs (over (masks_from n [] gs []) out) ≡ over (masks_from n [] gs xs) out
all_narrowed n gs xs out l =
    let e : length (masks_from n [] gs []) ≡ length (masks_from n [] gs xs) = masks_length n [] gs [] ∙ sym (masks_length n [] gs xs) in
    narrowed_by_lem n gs [] xs (drop (length (masks_from n [] gs [])) out) l ∙ ap (λ (k : ℕ). masks_from n [] gs xs ++ drop k out) e

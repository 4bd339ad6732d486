-- The refusals of the sweep, the input check, the pick and the fault call: exactly by what is wrong; and for what these are served. Assumes nothing.
use Rattle.std.proofs.Common.{◌≡◌, ℕ, ◌*◌, ◌<◌, ◌≤◌, Bool, true, false, leb, ◌↔◌, List, length, refl, ap, ◌∙◌, subst, arith, leb-true}
use Rattle.circuit.specs.declared.header.Header.{Header}
use Rattle.circuit.specs.Header.{permits, Permitted}
use Rattle.circuit.specs.Outcome.{served, refused}
use Rattle.circuit.specs.Refusal.{bad_state, agreeing_state, no_room, too_wide}
use Rattle.circuit.specs.Words.{gates_of, pair_outcome, PairRefused, headed_pair_outcome, HeadedPair}
use Rattle.circuit.specs.declared.words.Counts.{Counts}
use Rattle.circuit.specs.Run.{DiffersFor}
use Rattle.circuit.proofs.Promises.{unserved, demanded, then_both, wrong_refused, fails_refused, same_refused, above, pair_refused, permits_lines, lines_permit, permits_exactly, not_permitted, headed_pair_served, served_headed_pair, headed_pair_refused, headed_pair_wrong}
use Rattle.checking.specs.Compare.{outputs_differ, Agree, max_sweep_lines, Difference, difference_outcome, Says, differs_outcome, pick_outcome}
use Rattle.checking.specs.Each.{each_from, Every, AtFirst}
use Rattle.checking.specs.Faults.{gate_masks, fault_check, fault_outcome}
use Rattle.checking.specs.RefusalLaws.{SweepRefused, DiffersRefused, StatesRefused, StatesGood, MasksRefused, RefusalLaws}
use Rattle.checking.proofs.lemmas.Each.{each_good, each_wrong}
use Rattle.checking.proofs.lemmas.compare.Laws.{HeadedGates, headed_gates, agree_state, differ_state, says_only, sweep_says, difference_made, differs_made}
use Rattle.checking.proofs.lemmas.faults.Loops.{fault_good, fault_made}

-- ---- each call

pub pick_wrong : (na : ℕ) (a : List ℕ) (nb : ℕ) (b : List ℕ) (x y : ℕ) → (pick_outcome na a nb b ≡ refused x y) ↔ PairRefused na a nb b x y
unfolding pick_outcome
pick_wrong na a nb b = same_refused (pair_outcome na a nb b) _ (PairRefused na a nb b) (pair_refused na a nb b)

module _ (ha : Header) (a : List ℕ) (hb : Header) (b : List ℕ) where
  sweep_wrong : (x y : ℕ) → (difference_outcome ha a hb b ≡ refused x y) ↔ SweepRefused ha a hb b x y
  unfolding difference_outcome
  sweep_wrong = headed_pair_wrong ha a hb b (leb ha.lines max_sweep_lines) too_wide 0 _ (max_sweep_lines < ha.lines) (above ha.lines max_sweep_lines)

  sweep_served : (d : Difference)
      → (difference_outcome ha a hb b ≡ served d) ↔ ((c : Counts) × (HeadedPair ha a hb b c) × (ha.lines ≤ max_sweep_lines) × (Says ha (gates_of a) (gates_of b) (served d)))
  sweep_served d = (swept, sweeping)
    where
      swept : difference_outcome ha a hb b ≡ served d → (c : Counts) × (HeadedPair ha a hb b c) × (ha.lines ≤ max_sweep_lines) × (Says ha (gates_of a) (gates_of b) (served d))
      swept e =
          unfold difference_outcome in
          let (c, p, f) = then_both (headed_pair_outcome ha a hb b) _ d e in
          let (t, g) = demanded (leb ha.lines max_sweep_lines) too_wide 0 _ d f in
          let good = headed_pair_served ha a hb b c p in
          (c, good, leb-true _ _ t, subst (λ (x : Difference). Says ha (gates_of a) (gates_of b) (served x)) (unserved g) (sweep_says ha _ _ (headed_gates ha a hb b c good)))

      sweeping : (c : Counts) × (HeadedPair ha a hb b c) × (ha.lines ≤ max_sweep_lines) × (Says ha (gates_of a) (gates_of b) (served d)) → difference_outcome ha a hb b ≡ served d
      sweeping (c, good, few, says) =
          difference_made ha a hb b c (served_headed_pair ha a hb b c good) few
          ∙ ap served (says_only ha _ _ _ d (sweep_says ha _ _ (headed_gates ha a hb b c good)) says)

  -- a state of a good pair is refused exactly where it is not permitted
  input_wrong : (s x y : ℕ) → (differs_outcome ha a hb b s ≡ refused x y) ↔ DiffersRefused ha a hb b s x y
  unfolding differs_outcome
  input_wrong s =
      wrong_refused (headed_pair_outcome ha a hb b) _ _ _ _ (headed_pair_refused ha a hb b) (λ c. (headed_pair_served ha a hb b c, served_headed_pair ha a hb b c))
      (λ c g. fails_refused (permits ha s) bad_state 0 _ (Permitted ha s → ⊥) (not_permitted ha s g.first_good.marks))

  module _ (s : ℕ) where
    input_told : (t : Bool) → differs_outcome ha a hb b s ≡ served t
        → (c : Counts) × (HeadedPair ha a hb b c) × (Permitted ha s) × (outputs_differ ha (gates_of a) (gates_of b) s ≡ t)
    unfolding differs_outcome
    input_told t e =
        let (c, p, f) = then_both (headed_pair_outcome ha a hb b) _ t e in
        let (q, g) = demanded (permits ha s) bad_state 0 _ t f in
        (c, headed_pair_served ha a hb b c p, permits_lines ha s q, unserved g)

    told_input : (t : Bool) (c : Counts) → HeadedPair ha a hb b c → Permitted ha s → outputs_differ ha (gates_of a) (gates_of b) s ≡ t → differs_outcome ha a hb b s ≡ served t
    told_input t c g p e = differs_made ha a hb b c (served_headed_pair ha a hb b c g) s t (lines_permit ha s g.first_good.marks p) e

    input_differs : (differs_outcome ha a hb b s ≡ served true) ↔ ((c : Counts) × (HeadedPair ha a hb b c) × (DiffersFor ha (gates_of a) (gates_of b) s))
    input_differs = (
      (λ e. let (c, g, p, d) = input_told true e in (c, g, (differ_state ha _ _ (headed_gates ha a hb b c g) s p).0 d)),
      (λ (c, g, d). told_input true c g d.permitted ((differ_state ha _ _ (headed_gates ha a hb b c g) s d.permitted).1 d)),
    )

    input_agrees : (differs_outcome ha a hb b s ≡ served false) ↔ ((c : Counts) × (HeadedPair ha a hb b c) × (Permitted ha s) × (Agree ha (gates_of a) (gates_of b) s))
    input_agrees = (
      (λ e. let (c, g, p, d) = input_told false e in (c, g, p, (agree_state ha _ _ (headed_gates ha a hb b c g) s p).0 d)),
      (λ (c, g, p, f). told_input false c g p ((agree_state ha _ _ (headed_gates ha a hb b c g) s p).1 f)),
    )

  module _ (xs : List ℕ) where
    abbrev differing : ℕ → Bool
    differing = outputs_differ ha (gates_of a) (gates_of b)

    module _ (c : Counts) (pair : HeadedPair ha a hb b c) where
      good : HeadedGates ha (gates_of a) (gates_of b)
      good = headed_gates ha a hb b c pair

      all_allowed : (k : ℕ) → (each_from (permits ha) bad_state 0 xs ≡ served k) ↔ ((k ≡ length xs) × Every (Permitted ha) xs)
      all_allowed = each_good (permits ha) bad_state (λ x. Unit {0}) _ (λ x. Permitted ha x → ⊥) (λ x u. permits_exactly ha x good.marks) (λ x u. not_permitted ha x good.marks) xs (λ j h d. tt)

      first_forbidden : (x y : ℕ) → (each_from (permits ha) bad_state 0 xs ≡ refused x y) ↔ AtFirst (Permitted ha) (λ x. Permitted ha x → ⊥) xs bad_state x y
      first_forbidden = each_wrong (permits ha) bad_state (λ x. Unit {0}) _ _ (λ x u. permits_exactly ha x good.marks) (λ x u. not_permitted ha x good.marks) xs (λ j h d. tt)

      module _ (allowed : Every (Permitted ha) xs) where
        all_differing : (k : ℕ) → (each_from differing agreeing_state 0 xs ≡ served k) ↔ ((k ≡ length xs) × Every (DiffersFor ha (gates_of a) (gates_of b)) xs)
        all_differing = each_good differing agreeing_state (Permitted ha) _ _ (differ_state ha _ _ good) (agree_state ha _ _ good) xs allowed

        first_agreeing : (x y : ℕ) → (each_from differing agreeing_state 0 xs ≡ refused x y) ↔ AtFirst (DiffersFor ha (gates_of a) (gates_of b)) (Agree ha (gates_of a) (gates_of b)) xs agreeing_state x y
        first_agreeing = each_wrong differing agreeing_state (Permitted ha) _ _ (differ_state ha _ _ good) (agree_state ha _ _ good) xs allowed

    -- the tests before that of the room
    states_good : (k : ℕ) → (fault_check ha a hb b xs ≡ served k) ↔ StatesGood ha a hb b xs k
    states_good gates = (check_good, good_check)
      where
        check_good : fault_check ha a hb b xs ≡ served gates → StatesGood ha a hb b xs gates
        check_good e =
            unfold fault_check in
            let (c, p, f) = then_both (headed_pair_outcome ha a hb b) _ gates e in
            let (k, q, g) = then_both (each_from (permits ha) bad_state 0 xs) _ gates f in
            let (m, r, l) = then_both (each_from differing agreeing_state 0 xs) _ gates g in
            let n : c.first ≡ gates = cc in
            let pair = headed_pair_served ha a hb b c p in
            record {
              second = c.second;
              pair = subst (λ (i : ℕ). HeadedPair ha a hb b (record { first = i; second = c.second })) n pair;
              differing = ((all_differing c pair ((all_allowed c pair k).0 q).1 m).0 r).1;
            }

        good_check : StatesGood ha a hb b xs gates → fault_check ha a hb b xs ≡ served gates
        good_check s =
            let allowed : Every (Permitted ha) xs = λ j h d. (s.differing j h d).permitted in
            fault_good ha a hb b xs _ (served_headed_pair ha a hb b _ s.pair) _ ((all_allowed _ s.pair (length xs)).1 (refl, allowed)) _
            ((all_differing _ s.pair allowed (length xs)).1 (refl, s.differing))

    states_wrong : (x y : ℕ) → (fault_check ha a hb b xs ≡ refused x y) ↔ StatesRefused ha a hb b xs x y
    unfolding fault_check
    states_wrong =
        wrong_refused (headed_pair_outcome ha a hb b) _ _ _ _ (headed_pair_refused ha a hb b) (λ c. (headed_pair_served ha a hb b c, served_headed_pair ha a hb b c)) (λ c g.
        wrong_refused (each_from (permits ha) bad_state 0 xs) _ _ _ _ (first_forbidden c g) (all_allowed c g) (λ k e.
        same_refused (each_from differing agreeing_state 0 xs) _ _ (first_agreeing c g e.1)))

    module _ (room : ℕ) where
      masks_wrong : (x y : ℕ) → (fault_outcome ha a hb b xs room ≡ refused x y) ↔ MasksRefused ha a hb b xs room x y
      unfolding fault_outcome
      masks_wrong =
          wrong_refused (fault_check ha a hb b xs) _ _ _ _ states_wrong states_good
          (λ k g. fails_refused (leb (gate_masks * k) room) no_room 0 k (room < gate_masks * k) (above (gate_masks * k) room))

      -- served exactly for a good pair, states that are good, and room
      pub masks_made : (k : ℕ) → fault_outcome ha a hb b xs room ≡ served k → (StatesGood ha a hb b xs k) × (gate_masks * k ≤ room)
      unfolding fault_outcome
      masks_made k e =
          let (gates, f, g) = then_both (fault_check ha a hb b xs) _ k e in
          let (t, q) = demanded (leb (gate_masks * gates) room) no_room 0 (served gates) k g in
          let n : gates ≡ k = unserved q in
          ((states_good k).0 (f ∙ ap served n), omega (arith, leb-true (gate_masks * gates) room t))

      made_masks : (k : ℕ) → StatesGood ha a hb b xs k → gate_masks * k ≤ room → fault_outcome ha a hb b xs room ≡ served k
      made_masks k s h = fault_made ha a hb b xs room k ((states_good k).1 s) h

pub refusal_laws : RefusalLaws
refusal_laws =
    record {
      sweep_refused = sweep_wrong;
      sweep_served = sweep_served;
      input_refused = input_wrong;
      input_differs = input_differs;
      input_agrees = input_agrees;
      pick_refused = pick_wrong;
      masks_served = λ ha a hb b xs room k. (masks_made ha a hb b xs room k, (λ (s, h). made_masks ha a hb b xs room k s h));
      masks_refused = masks_wrong;
    }

-- The laws of a run: one gate at a time over words, of two cascades in a row, of the inverse, and its bound. Assumes nothing.
use Rattle.std.proofs.Common.{◌≡◌, ℕ, ◌+◌, ◌*◌, ◌/◌, ◌^◌, ◌<◌, ◌≤◌, true, false, eqb, ltb, ◌↔◌, List, [], ◌∷◌, ◌++◌, length, drop, sym, refl, ap, ◌∙◌, add-one, ltb-true, lt-ltb, eqb-true, drop_of_length-le, drop-cons}
use borrow.Author.Tests.{eqb-false}
use Rattle.bits.specs.Lists.{fold}
use Rattle.bits.proofs.Lists.{fold_append}
use Rattle.bits.proofs.Bools.{and_parts, either}
use Rattle.circuit.specs.declared.gate.Gate.{Gate}
use Rattle.circuit.specs.Gate.{max_lines, max_gates, not_gate, apply, valid}
use Rattle.circuit.specs.Outcome.{Outcome, served, refused, demand, and_then}
use Rattle.circuit.specs.Refusal.{no_gate, bad_state, bad_line_count}
use Rattle.circuit.specs.Words.{gate_at, gate_in, gates_of, all_valid, line_count_good, valid_from, size_outcome, check_outcome, Cascade}
use Rattle.circuit.specs.Run.{run, run_tested, Equal, Differs, run_outcome}
use Rattle.circuit.specs.Laws.{RunRefused}
use Rattle.circuit.proofs.lemmas.Outcome.{demand_met, demand_failed, then_served, then_refused, then_both, demanded, at_least}
use Rattle.circuit.proofs.lemmas.gate.Effect.{apply_below, toggled_apply}
use Rattle.circuit.proofs.lemmas.words.Gates.{gates_next, gates_end}
use Rattle.circuit.proofs.lemmas.words.Tests.{from_good, from_bad, words_wrong, check_lines, check_gates, gates_refused, check_served, served_check}

-- a turn over the words: gate i acts, by the rule f, and the others after it
module _ (f : Gate → ℕ → ℕ) where
  pub fold_turn : (ws : List ℕ) (i : ℕ) (g : Gate) (s : ℕ) → i < length ws / 3 → g ≡ gate_at ws i
      → fold f (gates_of (drop (3 * i) ws)) s ≡ fold f (gates_of (drop (3 * (i + 1)) ws)) (f g s)
  unfolding fold
  fold_turn ws i g s inside is =
      ap (λ (gs : List Gate). fold f gs s) (gates_next ws i inside) ∙ ap (λ (h : Gate). fold f (gates_of (drop (3 * (i + 1)) ws)) (f h s)) (sym is)

  pub fold_end : (ws : List ℕ) (i s : ℕ) → length ws / 3 ≤ i → fold f (gates_of (drop (3 * i) ws)) s ≡ s
  unfolding fold
  fold_end ws i s h = ap (λ (gs : List Gate). fold f gs s) (gates_end ws i h)

pub run_none : (s : ℕ) → run [] s ≡ s
unfolding fold
run_none s = refl

pub run_one : (g : Gate) (s : ℕ) → run (g ∷ []) s ≡ apply g s
unfolding fold
run_one g s = refl

pub run_next : (g : Gate) (gs : List Gate) (s : ℕ) → run (g ∷ gs) s ≡ run gs (apply g s)
unfolding fold
run_next g gs s = refl

-- of gates that were tested
pub tested_run : (gs : List Gate) → all_valid max_lines gs ≡ true → (s : ℕ) → run_tested gs s ≡ run gs s
unfolding fold all_valid
tested_run [] v s = refl
tested_run (g ∷ gs) v s =
    let (a, b) = and_parts (valid max_lines g) (all_valid max_lines gs) v in
    ap (run_tested gs) (toggled_apply g s a) ∙ tested_run gs b (apply g s)

-- two cascades in a row
pub run_append : (a b : List Gate) (s : ℕ) → run (a ++ b) s ≡ run b (run a s)
run_append a b s = fold_append apply a b s

-- a cascade on n lines keeps a state below 2 ^ n
pub run_below : (n : ℕ) (gs : List Gate) → all_valid n gs ≡ true → (s : ℕ) → s < 2 ^ n → run gs s < 2 ^ n
unfolding fold all_valid
run_below n [] v s h = h
run_below n (g ∷ gs) v s h = let (a, b) = and_parts (valid n g) (all_valid n gs) v in run_below n gs b (apply g s) (apply_below n g s a h)

-- equal exactly when they differ on no state
pub equal_differs : (n : ℕ) (a b : List Gate) → Equal n a b ↔ ((x : ℕ) → Differs n a b x → ⊥)
equal_differs n a b = (
  (λ e x d. d.outputs (e x d.state)),
  (λ f x h. either (eqb (run a x) (run b x)) (λ t. eqb-true _ _ t) (λ t. absurd (f x (record { state = h; outputs = eqb-false _ _ t })))),
)

-- ---- gate by gate, each of which is tested

-- the outcome of the gates from index i on, on a state
abbrev pub run_from : ℕ → ℕ → List Gate → ℕ → Outcome ℕ
run_from n i gs s = and_then (valid_from n i gs) (λ k. served (run gs s))

module _ (n : ℕ) (gs : List Gate) (i s : ℕ) where
  -- gate i, and then the others
  gate_ran : i < length gs
      → run_from n i (drop i gs) s
      ≡ and_then (demand (valid n (gate_in gs i)) no_gate i (served (apply (gate_in gs i) s))) (run_from n (i + 1) (drop (i + 1) gs))
  unfolding fold
  gate_ran h =
      let g = gate_in gs i in
      let rest = drop (i + 1) gs in
      ap (λ (l : List Gate). run_from n i l s) (rw (add-one i) (drop-cons gs i (not_gate 0) h))
      ∙ either (valid n g)
      (λ v.
      ap (λ (o : Outcome ℕ). and_then o (λ k. served (run (g ∷ rest) s))) (from_good n i g rest v)
      ∙ sym (then_served _ _ _ (demand_met _ _ _ _ v)))
      (λ v. then_refused _ _ _ _ (from_bad n i g rest v) ∙ sym (then_refused _ _ _ _ (demand_failed _ _ _ _ v)))

  module _ (inside : i < length gs) (g : Gate) (is : g ≡ gate_in gs i) where
    -- it was a gate, and made t of the state
    pub gate_passed : (t : ℕ) → served t ≡ demand (valid n g) no_gate i (served (apply g s)) → run_from n i (drop i gs) s ≡ run_from n (i + 1) (drop (i + 1) gs) t
    gate_passed t e = gate_ran inside ∙ then_served _ _ t (sym (rw is at e))

    -- it was none
    pub gate_stopped : (number place : ℕ) → refused number place ≡ demand (valid n g) no_gate i (served (apply g s)) → run_from n i (drop i gs) s ≡ refused number place
    gate_stopped number place e = gate_ran inside ∙ then_refused _ _ number place (sym (rw is at e))

  -- where no gate is left, the state stands
  pub none_ran : length gs ≤ i → run_from n i (drop i gs) s ≡ served s
  unfolding valid_from fold
  none_ran h = ap (λ (l : List Gate). run_from n i l s) (drop_of_length-le gs h)

-- ---- what the call answers

module _ (n : ℕ) (ws : List ℕ) (s : ℕ) where
  pub run_lines : line_count_good n ≡ false → run_outcome n ws s ≡ refused bad_line_count 0
  unfolding run_outcome
  run_lines e = then_refused _ _ bad_line_count 0 (check_lines n ws max_gates e)

  module _ (lines : line_count_good n ≡ true) where
    pub run_size : (number place : ℕ) → size_outcome ws max_gates ≡ refused number place → run_outcome n ws s ≡ refused number place
    unfolding run_outcome
    run_size number place e = then_refused _ _ number place (check_gates n ws max_gates lines ∙ gates_refused n ws max_gates number place e)

-- ---- refused exactly by what is wrong

pub run_refused : (n : ℕ) (ws : List ℕ) (s number place : ℕ) → (run_outcome n ws s ≡ refused number place) ↔ RunRefused n ws s number place
unfolding run_outcome
run_refused n ws s = words_wrong n ws max_gates (ltb s (2 ^ n)) bad_state 0 (λ k. run (gates_of ws) s) (2 ^ n ≤ s) (at_least s (2 ^ n))

-- ---- served exactly for a cascade and a state

module _ (n : ℕ) (ws : List ℕ) (s t : ℕ) where
  pub run_served : run_outcome n ws s ≡ served t → (k : ℕ) × (Cascade n ws max_gates k) × (s < 2 ^ n) × (t ≡ run (gates_of ws) s)
  unfolding run_outcome
  run_served e =
      let (k, p, f) = then_both (check_outcome n ws max_gates) _ t e in
      let (b, g) = demanded (ltb s (2 ^ n)) bad_state 0 (served (run (gates_of ws) s)) t f in
      let x : run (gates_of ws) s ≡ t = cc in
      (k, check_served n ws max_gates k p, ltb-true _ _ b, sym x)

  pub served_run : (k : ℕ) → Cascade n ws max_gates k → s < 2 ^ n → t ≡ run (gates_of ws) s → run_outcome n ws s ≡ served t
  unfolding run_outcome
  served_run k c h e = then_served _ _ k (served_check n ws max_gates k c) ∙ demand_met _ _ _ _ (lt-ltb s (2 ^ n) h) ∙ ap served (sym e)

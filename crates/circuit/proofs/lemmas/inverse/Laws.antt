-- The laws of the inverse: its words one gate at a time, its validity, and what its call answers and leaves. Assumes nothing.
use Rattle.std.proofs.Common.{◌≡◌, ℕ, ◌+◌, ◌-◌, ◌*◌, ◌/◌, ◌<◌, ◌≤◌, Bool, true, cond, leb, ◌↔◌, List, [], ◌∷◌, ◌++◌, reverse, length, take, drop, sym, refl, ap, ◌∙◌, subst, arith, length-drop, take_at, drop_at, le-leb, leb-true}
use mathlib.Core.List.{reverse-cons, reverse-append, reverse-reverse}
use lib.ListN.{length-reverse}
use borrow.Author.Tests.{lt-leb}
use borrow.Rule.Slice.PartMut.{put_mid}
use Rattle.bits.specs.Lists.{over}
use Rattle.bits.proofs.Bools.{and_parts, both}
use Rattle.bits.proofs.Lists.{lent_over, fold_back}
use Rattle.circuit.specs.declared.gate.Gate.{Gate}
use Rattle.circuit.specs.Gate.{max_gates, valid, apply}
use Rattle.circuit.specs.Outcome.{Outcome, served, refused, written, Untouched, Yields}
use Rattle.circuit.specs.Refusal.{no_room}
use Rattle.circuit.specs.Words.{gate_at, gate_words, gates_of, words_of, all_valid, check_outcome, Cascade}
use Rattle.circuit.specs.Inverse.{inverse, put_inverse, inverse_outcome, inverse_buffer}
use Rattle.circuit.specs.Run.{run}
use Rattle.circuit.specs.Laws.{InverseRefused, InverseStands}
use Rattle.circuit.proofs.lemmas.gate.Effect.{apply_twice}
use Rattle.circuit.proofs.lemmas.Outcome.{demand_met, demand_failed, then_served, then_refused, then_both, demanded, written_refused, above}
use Rattle.circuit.proofs.lemmas.words.Gates.{gates_next, gates_end, gates_length, words_length, gates_words, words_reverse, valid_append}
use Rattle.circuit.proofs.lemmas.words.Tests.{words_wrong, words_cascade, cascade_count, cascade_words, check_served, served_check}

-- the words of the gates from j on, in reverse order
abbrev pub tail_back : List ℕ → ℕ → List ℕ
tail_back ws j = words_of (inverse (gates_of (drop (3 * j) ws)))

pub back_length : (ws : List ℕ) (j : ℕ) → length (tail_back ws j) ≡ 3 * (length ws / 3 - j)
back_length ws j =
    let a = words_length (reverse (gates_of (drop (3 * j) ws))) in
    let b = length-reverse (gates_of (drop (3 * j) ws)) in
    let c = gates_length (drop (3 * j) ws) in
    let d = length-drop (3 * j) ws in
    omega arith

back_more : (ws : List ℕ) (j : ℕ) (g : Gate) → j < length ws / 3 → g ≡ gate_at ws j → tail_back ws j ≡ tail_back ws (j + 1) ++ gate_words g
back_more ws j g h e =
    ap (λ (l : List Gate). words_of (reverse l)) (gates_next ws j h ∙ ap (λ (f : Gate). f ∷ gates_of (drop (3 * (j + 1)) ws)) (sym e))
    ∙ words_reverse g (gates_of (drop (3 * (j + 1)) ws))

pub back_none : (ws : List ℕ) → tail_back ws (length ws / 3) ≡ []
unfolding words_of
back_none ws = ap (λ (l : List Gate). words_of (reverse l)) (gates_end ws (length ws / 3) (omega arith))

-- a turn of the loop: gate j - 1 is put into the rest of the buffer
pub back_turn : (ws first out last : List ℕ) (j at : ℕ) (g : Gate) → 0 < j → at + 3 * j ≡ 3 * (length ws / 3) → at ≤ length out
    → out ≡ over (tail_back ws j) first → g ≡ gate_at ws (j - 1) → last ≡ over (gate_words g) (take (length out - at) (drop at out))
    → put_mid at (length out - at) out last ≡ over (tail_back ws (j - 1)) first
back_turn ws first out last j at g some here room was is put =
    let n : length (tail_back ws j) ≡ 3 * (length ws / 3 - j) = back_length ws j in
    let up : j - 1 + 1 ≡ j = omega arith in
    lent_over (tail_back ws j) (gate_words g) first out last at was (omega arith) (omega arith) put
    ∙ ap (λ (l : List ℕ). over l first)
    (sym (back_more ws (j - 1) g (omega arith) is ∙ ap (λ (k : ℕ). tail_back ws k ++ gate_words g) up))

-- the inverse is put where it fits, and nothing where it does not
pub put_fits : (ws out : List ℕ) → length ws / 3 ≤ length out / 3 → put_inverse ws out ≡ over (words_of (inverse (gates_of ws))) out
put_fits ws out h = ap (λ (t : Bool). cond t (over (words_of (inverse (gates_of ws))) out) out) (le-leb _ _ h)

pub put_short : (ws out : List ℕ) → length out / 3 < length ws / 3 → put_inverse ws out ≡ out
put_short ws out h = ap (λ (t : Bool). cond t (over (words_of (inverse (gates_of ws))) out) out) (lt-leb _ _ h)

-- the inverse undoes the run, both ways
pub run_inverse : (gs : List Gate) (s : ℕ) → run (inverse gs) (run gs s) ≡ s
run_inverse gs s = fold_back apply apply_twice gs s

pub inverse_twice : (gs : List Gate) → inverse (inverse gs) ≡ gs
inverse_twice gs = reverse-reverse gs

pub inverse_run : (gs : List Gate) (s : ℕ) → run gs (run (inverse gs) s) ≡ s
inverse_run gs s = ap (λ (l : List Gate). run l (run (inverse gs) s)) (sym (inverse_twice gs)) ∙ run_inverse (inverse gs) s

pub inverse_append : (a b : List Gate) → inverse (a ++ b) ≡ inverse b ++ inverse a
inverse_append a b = reverse-append a b

pub inverse_length : (gs : List Gate) → length (inverse gs) ≡ length gs
inverse_length gs = length-reverse gs

-- the inverse of valid gates is valid
pub inverse_valid : (n : ℕ) (gs : List Gate) → all_valid n gs ≡ true → all_valid n (inverse gs) ≡ true
unfolding all_valid
inverse_valid n [] v = refl
inverse_valid n (g ∷ gs) v =
    let (a, b) = and_parts (valid n g) (all_valid n gs) v in
    ap (all_valid n) (reverse-cons g gs) ∙ valid_append n (reverse gs) (g ∷ []) (inverse_valid n gs b) (both a refl)

-- ---- what the call answers and leaves

module _ (n : ℕ) (ws : List ℕ) (room : ℕ) where
  pub inverse_refused : (number place : ℕ) → check_outcome n ws max_gates ≡ refused number place → inverse_outcome n ws room ≡ refused number place
  unfolding inverse_outcome
  inverse_refused number place e = then_refused _ _ number place e

  module _ (k : ℕ) (good : check_outcome n ws max_gates ≡ served k) where
    pub inverse_short : room < length ws → inverse_outcome n ws room ≡ refused no_room 0
    unfolding inverse_outcome
    inverse_short h = then_served _ _ k good ∙ demand_failed _ _ _ _ (lt-leb _ _ h)

    pub inverse_made : length ws ≤ room → inverse_outcome n ws room ≡ served k
    unfolding inverse_outcome
    inverse_made h = then_served _ _ k good ∙ demand_met _ _ _ _ (le-leb _ _ h)

-- the buffer of a served call
pub inverse_written : (n : ℕ) (ws out : List ℕ) (k : ℕ) → check_outcome n ws max_gates ≡ served k → length ws ≤ length out
    → inverse_buffer n ws out ≡ over (words_of (inverse (gates_of ws))) out
unfolding inverse_buffer
inverse_written n ws out k good room =
    ap (λ (o : Outcome ℕ). written o (words_of (inverse (gates_of ws))) out) (inverse_made n ws (length out) k good room)

-- ---- refused exactly by what is wrong

pub refused_exactly : (n : ℕ) (ws : List ℕ) (room number place : ℕ) → (inverse_outcome n ws room ≡ refused number place) ↔ InverseRefused n ws room number place
unfolding inverse_outcome
refused_exactly n ws room = words_wrong n ws max_gates (leb (length ws) room) no_room 0 (λ k. k) (room < length ws) (above (length ws) room)

-- ---- served exactly for a cascade and a buffer with room

module _ (n : ℕ) (ws : List ℕ) (room k : ℕ) where
  pub inverse_served : inverse_outcome n ws room ≡ served k → (Cascade n ws max_gates k) × (length ws ≤ room)
  unfolding inverse_outcome
  inverse_served e =
      let (m, p, f) = then_both (check_outcome n ws max_gates) _ k e in
      let (t, g) = demanded (leb (length ws) room) no_room 0 (served m) k f in
      let x : m ≡ k = cc in
      (check_served n ws max_gates k (p ∙ ap served x), leb-true _ _ t)

  pub served_inverse : Cascade n ws max_gates k → length ws ≤ room → inverse_outcome n ws room ≡ served k
  served_inverse c h = inverse_made n ws room k (served_check n ws max_gates k c) h

-- what a served call leaves, and a refused one
pub inverse_untouched : (n : ℕ) (ws out : List ℕ) → Untouched (inverse_outcome n ws (length out)) out (inverse_buffer n ws out)
unfolding inverse_buffer
inverse_untouched n ws out = written_refused (words_of (inverse (gates_of ws))) out (inverse_outcome n ws (length out))

module _ (n : ℕ) (ws out : List ℕ) (k : ℕ) (c : Cascade n ws max_gates k) (room : length ws ≤ length out) where
  abbrev hs : List Gate
  hs = inverse (gates_of ws)

  back_count : length hs ≡ k
  back_count = inverse_length (gates_of ws) ∙ cascade_count n ws max_gates k c

  pub back_cascade : Cascade n (words_of hs) max_gates k
  back_cascade =
      subst (Cascade n (words_of hs) max_gates) back_count
      (words_cascade n hs max_gates c.lines_low c.lines_high (omega (arith, back_count, c.few)) (inverse_valid n (gates_of ws) c.gates))

  left : inverse_buffer n ws out ≡ over (words_of hs) out
  left = inverse_written n ws out k (served_check n ws max_gates k c) room

  three : length (words_of hs) ≡ 3 * k
  three = words_length hs ∙ ap (λ (m : ℕ). 3 * m) back_count

  pub back_words : take (3 * k) (inverse_buffer n ws out) ≡ words_of hs
  back_words = ap (take (3 * k)) left ∙ take_at (words_of hs) _ (3 * k) three

  pub back_rest : drop (3 * k) (inverse_buffer n ws out) ≡ drop (3 * k) out
  back_rest = ap (drop (3 * k)) left ∙ drop_at (words_of hs) _ (3 * k) three ∙ ap (λ (m : ℕ). drop m out) three

  -- the inverse of the inverse
  pub back_back : (into : List ℕ) → length ws ≤ length into → Yields (inverse_outcome n (words_of hs) (length into)) (inverse_buffer n (words_of hs) into) (served k) (over ws into)
  back_back into h =
      let z = c.size in
      let fits : length (words_of hs) ≤ length into = omega (arith, three) in
      let words : words_of (inverse (gates_of (words_of hs))) ≡ ws =
      ap (λ (l : List Gate). words_of (inverse l)) (gates_words hs) ∙ ap words_of (inverse_twice (gates_of ws)) ∙ cascade_words n ws max_gates k c in
      record {
        answer = served_inverse n (words_of hs) (length into) k back_cascade fits;
        buffer = inverse_written n (words_of hs) into k (served_check n (words_of hs) max_gates k back_cascade) fits ∙ ap (λ (l : List ℕ). over l into) words;
      }

pub inverse_stands : (n : ℕ) (ws out : List ℕ) (k : ℕ) → inverse_outcome n ws (length out) ≡ served k → InverseStands n ws out k
inverse_stands n ws out k e =
    let (c, room) = inverse_served n ws (length out) k e in
    let same = back_words n ws out k c room in
    record {
      gates = ap gates_of same ∙ gates_words (inverse (gates_of ws));
      cascade = subst (λ (l : List ℕ). Cascade n l max_gates k) (sym same) (back_cascade n ws out k c room);
      rest = back_rest n ws out k c room;
      back = λ into h.
          subst (λ (l : List ℕ). Yields (inverse_outcome n l (length into)) (inverse_buffer n l into) (served k) (over ws into)) (sym same) (back_back n ws out k c room into h);
    }

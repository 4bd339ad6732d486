-- The constants' and the gates' clauses make those before the d: with marks side by side, without marks those of the miter. Assumes nothing.
use Rattle.std.proofs.Common.{◌≡◌, ℕ, suc, ◌+◌, ◌<◌, ◌≤◌, Bool, true, false, cond, List, [], ◌∷◌, ◌++◌, map, length, ℤ, sym, refl, ap, ◌∙◌, subst, ap₂, append_assoc, arith, length-append}
use Rattle.bits.specs.Lists.{Put}
use Rattle.bits.proofs.Bools.{cond-true, cond-false}
use Rattle.circuit.specs.declared.gate.Gate.{Gate}
use Rattle.circuit.specs.declared.header.Header.{Header}
use Rattle.circuit.specs.Header.{marked}
use Rattle.circuit.specs.Inverse.{inverse}
use Rattle.circuit.specs.Words.{all_valid}
use Rattle.circuit.proofs.Promises.{inverse_valid, inverse_length}
use Rattle.checking.specs.Clauses.{Clause, OR, plus, input_of, gates_clauses, used_after, current_after, up_from, difference_clauses, clauses_of}
use Rattle.checking.specs.Miter.{miter_gates}
use Rattle.checking.specs.Pair.{constant_clauses, counted_lines, either_targets, used_after_both, side_by_side, pair_clauses}
use Rattle.checking.specs.Stored.{stored}
use Rattle.checking.specs.private.Emitter.{by_line}
use Rattle.checking.specs.private.Emission.{GatesReady, GatesPut, ConstantsReady, front_clauses, front_used, left_after, right_after, ListReady, FrontReady, FrontPut}
use Rattle.checking.proofs.lemmas.clauses.Forced.{used_more, length_up_from}
use Rattle.checking.proofs.lemmas.clauses.Fits.{used_bound}
use Rattle.checking.proofs.lemmas.clauses.Reading.{stored_append}
use Rattle.checking.proofs.lemmas.emission.Gates.{ready_from, put_from, gates_append, used_append, current_append}
use Rattle.checking.proofs.lemmas.emission.Rest.{lent, with_lent, rest_room, put_next}
use Rattle.checking.proofs.lemmas.pair_emission.Sums.{targeted_miter, unmarked_lines}

-- ---- the list is these clauses, those of the d, and the last one

abbrev pub lines_part : Header → List Gate → List Gate → List Clause
lines_part h a b = difference_clauses (either_targets a b) (left_after h a b) (right_after h a b) (front_used h a b) (counted_lines h)

abbrev pub last_part : Header → List Gate → List Gate → Clause
last_part h a b = OR (map plus (up_from (suc (front_used h a b)) (length (counted_lines h))))

side_parts : (h : Header) (a b : List Gate)
    → side_by_side h a b
    ≡ (constant_clauses h ++ (gates_clauses h.lines input_of a ++ gates_clauses (used_after h.lines a) input_of b))
    ++ (difference_clauses (either_targets a b) (current_after h.lines input_of a) (current_after (used_after h.lines a) input_of b) (used_after_both h a b) (counted_lines h)
    ++ (OR (map plus (up_from (suc (used_after_both h a b)) (length (counted_lines h)))) ∷ []))
unfolding side_by_side
side_parts h a b =
    let of_a = gates_clauses h.lines input_of a in
    let of_b = gates_clauses (used_after h.lines a) input_of b in
    let more = difference_clauses (either_targets a b) (current_after h.lines input_of a) (current_after (used_after h.lines a) input_of b) (used_after_both h a b) (counted_lines h)
    ++ (OR (map plus (up_from (suc (used_after_both h a b)) (length (counted_lines h)))) ∷ []) in
    ap (λ (cs : List Clause). constant_clauses h ++ cs) (sym (append_assoc of_a of_b more)) ∙ sym (append_assoc (constant_clauses h) (of_a ++ of_b) more)

miter_parts : (h : Header) (a b : List Gate) → marked h ≡ false
    → clauses_of h.lines (miter_gates a b)
    ≡ gates_clauses h.lines input_of (miter_gates a b)
    ++ (difference_clauses (either_targets a b) input_of (current_after h.lines input_of (miter_gates a b)) (used_after h.lines (miter_gates a b)) (counted_lines h)
    ++ (OR (map plus (up_from (suc (used_after h.lines (miter_gates a b))) (length (counted_lines h)))) ∷ []))
unfolding clauses_of
miter_parts h a b e =
    let n : ℕ = h.lines in
    let m = miter_gates a b in
    let counted = unmarked_lines h e in
    let long : n ≡ length (counted_lines h) = sym (ap length counted ∙ length_up_from 0 n) in
    ap₂
    (λ (hit : ℕ → Bool) (ks : List ℕ).
    gates_clauses n input_of m ++ (difference_clauses hit input_of (current_after n input_of m) (used_after n m) ks ++ (OR (map plus (up_from (suc (used_after n m)) n)) ∷ [])))
    (targeted_miter a b) (sym counted)
    ∙ ap
    (λ (k : ℕ).
    gates_clauses n input_of m
    ++ (difference_clauses (either_targets a b) input_of (current_after n input_of m) (used_after n m) (counted_lines h) ++ (OR (map plus (up_from (suc (used_after n m)) k)) ∷ [])))
    long

pub pair_parts : (h : Header) (a b : List Gate) → pair_clauses h a b ≡ front_clauses h a b ++ (lines_part h a b ++ (last_part h a b ∷ []))
unfolding pair_clauses
pair_parts h a b = by (marked h) refl
  where
    by : (t : Bool) → marked h ≡ t
        → cond t (side_by_side h a b) (clauses_of h.lines (miter_gates a b))
        ≡ cond t (constant_clauses h ++ (gates_clauses h.lines input_of a ++ gates_clauses (used_after h.lines a) input_of b)) (gates_clauses h.lines input_of (miter_gates a b))
        ++ (difference_clauses (either_targets a b) (cond t (current_after h.lines input_of a) input_of)
        (cond t (current_after (used_after h.lines a) input_of b) (current_after h.lines input_of (miter_gates a b)))
        (cond t (used_after_both h a b) (used_after h.lines (miter_gates a b))) (counted_lines h)
        ++ (OR (map plus (up_from (suc (cond t (used_after_both h a b) (used_after h.lines (miter_gates a b)))) (length (counted_lines h)))) ∷ []))
    by true e = side_parts h a b
    by false e = miter_parts h a b e

-- ---- the words

abbrev pub front_words : Header → List Gate → List Gate → List ℤ
front_words h a b = stored (front_clauses h a b)

abbrev pub lines_words : Header → List Gate → List Gate → List ℤ
lines_words h a b = stored (lines_part h a b)

pub list_words : (h : Header) (a b : List Gate) → stored (pair_clauses h a b) ≡ (front_words h a b ++ lines_words h a b) ++ stored (last_part h a b ∷ [])
list_words h a b =
    let last = last_part h a b ∷ [] in
    ap stored (pair_parts h a b)
    ∙ stored_append (front_clauses h a b) (lines_part h a b ++ last)
    ∙ ap (λ (l : List ℤ). front_words h a b ++ l) (stored_append (lines_part h a b) last)
    ∙ sym (append_assoc (front_words h a b) (lines_words h a b) (stored last))

-- ---- the words before those of the d

module _ (h : Header) (a b : List Gate) (left right : List ℕ) (first : List ℤ) (ready : FrontReady h a b left right (length first)) where
  abbrev n : ℕ
  n = h.lines

  abbrev middle : ℕ
  middle = used_after n a

  abbrev list : ListReady h a b (length first)
  list = ready.list

  -- the constants', and A's
  abbrev constants_part : List ℤ
  constants_part = stored (constant_clauses h)

  abbrev first_part : List ℤ
  first_part = stored (gates_clauses n input_of a)

  front_long : length (front_words h a b) ≤ length first
  front_long =
      omega (
        arith,
        list.enough,
        ap length (list_words h a b),
        length-append (front_words h a b ++ lines_words h a b) (stored (last_part h a b ∷ [])),
        length-append (front_words h a b) (lines_words h a b),
      )

  left_small : (k : ℕ) → k < n → by_line left k ≤ n
  left_small k l = omega (arith, ready.left_inputs k l)

  right_small : (k : ℕ) → k < n → by_line right k ≤ n
  right_small k l = omega (arith, ready.right_inputs k l)

  -- with marks: A's gates from the inputs, and B's
  module _ (m : marked h ≡ true) where
    abbrev second_part : List ℤ
    second_part = stored (gates_clauses middle input_of b)

    marked_words : front_words h a b ≡ (constants_part ++ first_part) ++ second_part
    marked_words =
        ap stored (cond-true (marked h) _ _ m)
        ∙ stored_append (constant_clauses h) (gates_clauses n input_of a ++ gates_clauses middle input_of b)
        ∙ ap (λ (l : List ℤ). constants_part ++ l) (stored_append (gates_clauses n input_of a) (gates_clauses middle input_of b))
        ∙ sym (append_assoc constants_part first_part second_part)

    both_long : length ((constants_part ++ first_part) ++ second_part) ≤ length first
    both_long = omega (arith, ap length marked_words, front_long)

    one_long : length (constants_part ++ first_part) ≤ length first
    one_long = omega (arith, both_long, length-append (constants_part ++ first_part) second_part)

    pub constants_ready : ConstantsReady h (length first)
    constants_ready = record { lines = list.lines; below = list.constants; enough = omega (arith, one_long, length-append constants_part first_part) }

    module _ (start : ℕ) (o : List ℤ) (p : Put start o constants_part first) where
      pub first_ready : GatesReady n a n left (length (lent start o))
      first_ready =
          ready_from n a left input_of list.lines list.first ready.left_inputs n (length (lent start o)) (omega (arith, list.lines, list.few)) ready.long_left left_small
          (rest_room constants_part first_part first o start p one_long)

      module _ (after : List ℕ) (l : List ℤ) (words used : ℕ) (q : GatesPut n a n (by_line left) after (lent start o) l words used) where
        of_a : GatesPut n a n input_of after (lent start o) l words used
        of_a = put_from n a left input_of list.lines list.first ready.left_inputs n n after (lent start o) l words used refl q

        put_a : Put (start + words) (with_lent start o l) (constants_part ++ first_part) first
        put_a = put_next constants_part first_part first o start p one_long l words of_a.written

        pub second_ready : GatesReady n b used right (length (lent (start + words) (with_lent start o l)))
        second_ready =
            let more = used_more n a in
            let room = rest_room (constants_part ++ first_part) second_part first (with_lent start o l) (start + words) put_a both_long in
            ready_from n b right input_of list.lines list.second ready.right_inputs used (length (lent (start + words) (with_lent start o l)))
            (omega (arith, list.lines, list.few, q.variables, used_bound n a)) ready.long_right (λ k s. omega (arith, right_small k s, q.variables, more))
            (subst (λ (u : ℕ). length (stored (gates_clauses u input_of b)) ≤ length (lent (start + words) (with_lent start o l))) (sym q.variables) room)

        pub marked_put : (after' : List ℕ) (l' : List ℤ) (words' used' : ℕ) → GatesPut n b used (by_line right) after' (lent (start + words) (with_lent start o l)) l' words' used'
            → FrontPut h a b after after' first (with_lent (start + words) (with_lent start o l) l') (start + words + words') used'
        marked_put after' l' words' used' q' =
            let of_b = put_from n b right input_of list.lines list.second ready.right_inputs used middle after' (lent (start + words) (with_lent start o l)) l' words' used' q.variables q' in
            let whole = put_next (constants_part ++ first_part) second_part first (with_lent start o l) (start + words) put_a both_long l' words' of_b.written in
            let more = used_more middle b in
            record {
              variables = of_b.variables ∙ sym (cond-true (marked h) _ _ m);
              left_holds = λ k s. of_a.currents k s ∙ ap (λ (f : ℕ → ℕ). f k) (sym (cond-true (marked h) (current_after n input_of a) input_of m));
              right_holds = λ k s. of_b.currents k s ∙ ap (λ (f : ℕ → ℕ). f k) (sym (cond-true (marked h) (current_after middle input_of b) _ m));
              left_small = λ k s. omega (arith, of_a.small k s, of_a.variables, of_b.variables, more);
              right_small = of_b.small;
              written = subst (λ (ws : List ℤ). Put (start + words + words') (with_lent (start + words) (with_lent start o l) l') ws first) (sym marked_words) whole;
            }

  -- without marks: A's gates from the inputs, and B's from its last one on
  module _ (m : marked h ≡ false) where
    abbrev reversed_part : List ℤ
    reversed_part = stored (gates_clauses middle (current_after n input_of a) (inverse b))

    unmarked_words : front_words h a b ≡ first_part ++ reversed_part
    unmarked_words =
        ap stored (cond-false (marked h) _ _ m ∙ gates_append n input_of a (inverse b))
        ∙ stored_append (gates_clauses n input_of a) (gates_clauses middle (current_after n input_of a) (inverse b))

    miter_long : length (first_part ++ reversed_part) ≤ length first
    miter_long = omega (arith, ap length unmarked_words, front_long)

    inverse_good : all_valid n (inverse b) ≡ true
    inverse_good = inverse_valid n b list.second

    pub miter_ready : GatesReady n a n right (length first)
    miter_ready =
        ready_from n a right input_of list.lines list.first ready.right_inputs n (length first) (omega (arith, list.lines, list.few)) ready.long_right right_small
        (omega (arith, miter_long, length-append first_part reversed_part))

    module _ (after : List ℕ) (o : List ℤ) (words used : ℕ) (kept : length after ≡ length right) (q : GatesPut n a n (by_line right) after first o words used) where
      miter_a : GatesPut n a n input_of after first o words used
      miter_a = put_from n a right input_of list.lines list.first ready.right_inputs n n after first o words used refl q

      pub back_ready : GatesReady n (inverse b) used after (length (lent words o))
      back_ready =
          let room = rest_room first_part reversed_part first o words miter_a.written miter_long in
          ready_from n (inverse b) after (current_after n input_of a) list.lines inverse_good miter_a.currents used (length (lent words o))
          (omega (arith, list.lines, list.few, q.variables, used_bound n a, inverse_length b)) (omega (arith, kept, ready.long_right)) q.small
          (subst (λ (u : ℕ). length (stored (gates_clauses u (current_after n input_of a) (inverse b))) ≤ length (lent words o)) (sym q.variables) room)

      pub unmarked_put : (after' : List ℕ) (l : List ℤ) (words' used' : ℕ) → GatesPut n (inverse b) used (by_line after) after' (lent words o) l words' used'
          → FrontPut h a b left after' first (with_lent words o l) (words + words') used'
      unmarked_put after' l words' used' q' =
          let of_b =
          put_from n (inverse b) after (current_after n input_of a) list.lines inverse_good miter_a.currents used middle after' (lent words o) l words' used' q.variables q' in
          let whole = put_next first_part reversed_part first o words miter_a.written miter_long l words' of_b.written in
          let more_a = used_more n a in
          let more_b = used_more middle (inverse b) in
          record {
            variables = of_b.variables ∙ sym (used_append n a (inverse b)) ∙ sym (cond-false (marked h) _ _ m);
            left_holds = λ k s. ready.left_inputs k s ∙ ap (λ (f : ℕ → ℕ). f k) (sym (cond-false (marked h) (current_after n input_of a) input_of m));
            right_holds = λ k s.
                of_b.currents k s
                ∙ ap (λ (f : ℕ → ℕ). f k) (sym (current_append n input_of a (inverse b)) ∙ sym (cond-false (marked h) (current_after middle input_of b) _ m));
            left_small = λ k s. omega (arith, left_small k s, of_b.variables, more_a, more_b);
            right_small = of_b.small;
            written = subst (λ (ws : List ℤ). Put (words + words') (with_lent words o l) ws first) (sym unmarked_words) whole;
          }

-- The laws of the miter: what its call answers and leaves, and that it is the identity where the two cascades agree. Assumes nothing.
use Rattle.std.proofs.Common.{◌≡◌, ℕ, ◌+◌, ◌-◌, ◌*◌, ◌%◌, ◌<◌, ◌≤◌, true, leb, ◌↔◌, List, ◌++◌, reverse, length, take, drop, sym, refl, ap, ◌∙◌, append_assoc, arith, length-append, length-drop, take_at, drop_at, le-leb, leb-true}
use borrow.Author.Tests.{lt-leb}
use borrow.Rule.Slice.PartMut.{put_mid}
use Rattle.bits.specs.Lists.{over, Put}
use Rattle.bits.proofs.Lists.{lent_over, over_length, rest_lent}
use Rattle.circuit.specs.declared.gate.Gate.{Gate}
use Rattle.circuit.specs.Gate.{max_gates}
use Rattle.circuit.specs.Outcome.{Outcome, served, refused, written, Untouched, Yields}
use Rattle.circuit.specs.Refusal.{no_room}
use Rattle.circuit.specs.Words.{gates_of, words_of, all_valid, pair_outcome}
use Rattle.circuit.specs.declared.words.Counts.{Counts}
use Rattle.circuit.specs.Run.{run}
use Rattle.circuit.specs.Inverse.{inverse, put_inverse}
use Rattle.circuit.proofs.Promises.{told, demand_met, demand_failed, demanded, then_served, then_refused, then_both, above, written_refused, gates_length, gates_words, words_gates, words_append, words_length, valid_append, pair_served, served_pair, pair_wrong, run_append, run_inverse, inverse_run, inverse_length, inverse_valid, inverse_fits}
use Rattle.checking.specs.Miter.{miter_gates, miter_outcome, miter_buffer}
use Rattle.checking.specs.MiterLaws.{MiterServed, MiterRefused, MiterStands, MiterLaws}

-- ---- the identity exactly where the two agree

pub agree_identity : (a b : List Gate) (s : ℕ) → run a s ≡ run b s → run (miter_gates a b) s ≡ s
agree_identity a b s e = run_append a (inverse b) s ∙ ap (run (inverse b)) e ∙ run_inverse b s

pub identity_agree : (a b : List Gate) (s : ℕ) → run (miter_gates a b) s ≡ s → run a s ≡ run b s
identity_agree a b s e = sym (inverse_run b (run a s)) ∙ ap (run b) (sym (run_append a (inverse b) s) ∙ e)

-- ---- what the call answers and leaves

module _ (na : ℕ) (a : List ℕ) (nb : ℕ) (b : List ℕ) where
  abbrev front : List ℕ
  front = words_of (miter_gates (gates_of a) (gates_of b))

  abbrev back : List ℕ
  back = words_of (inverse (gates_of b))

  -- the words of the first, then those of the second's inverse
  front_parts : length a % 3 ≡ 0 → front ≡ a ++ back
  front_parts w = words_append (gates_of a) (inverse (gates_of b)) ∙ ap (λ (x : List ℕ). x ++ back) (words_gates a w)

  pub miter_told : (out : List ℕ) (r o : Outcome ℕ) (last : List ℕ) → r ≡ o → miter_outcome na a nb b (length out) ≡ o → last ≡ written o front out
      → Yields r last (miter_outcome na a nb b (length out)) (miter_buffer na a nb b out)
  unfolding miter_buffer
  miter_told out r o last e f l = told front out r last (miter_outcome na a nb b (length out)) o e f l

  pub miter_refused : (room number place : ℕ) → pair_outcome na a nb b ≡ refused number place → miter_outcome na a nb b room ≡ refused number place
  unfolding miter_outcome
  miter_refused room number place e = then_refused _ _ number place e

  module _ (room : ℕ) (c : Counts) (good : pair_outcome na a nb b ≡ served c) where
    pub miter_short : room < length a + length b → miter_outcome na a nb b room ≡ refused no_room 0
    unfolding miter_outcome
    miter_short h = then_served _ _ c good ∙ demand_failed _ _ _ _ (lt-leb _ _ h)

    pub miter_made : length a + length b ≤ room → miter_outcome na a nb b room ≡ served (c.first + c.second)
    unfolding miter_outcome
    miter_made h = then_served _ _ c good ∙ demand_met _ _ _ _ (le-leb _ _ h)

  -- the numbers of gates fit
  pub pair_few : (c : Counts) → pair_outcome na a nb b ≡ served c → (c.first ≤ max_gates) × (c.second ≤ max_gates)
  pair_few c good = let g = pair_served na a nb b c good in (g.first_good.few, g.second_good.few)

  -- after the copy the rest of the buffer takes the inverse
  pub miter_written : (c : Counts) → pair_outcome na a nb b ≡ served c → (out mid last : List ℕ) (at : ℕ) → length a + length b ≤ length out → Put at mid a out
      → last ≡ put_inverse b (take (length mid - at) (drop at mid))
      → put_mid at (length mid - at) mid last ≡ over front out
  miter_written c good out mid last at room p l =
      let z = (pair_served na a nb b c good).first_good.size in
      let n : length mid ≡ length out = ap length p.buffer ∙ over_length a out (omega arith) in
      let r : length (take (length mid - at) (drop at mid)) ≡ length mid - at = ap length (rest_lent mid at) ∙ length-drop at mid in
      lent_over a back out mid last at p.buffer (sym p.count) (omega (arith, p.count))
      (l ∙ inverse_fits b (take (length mid - at) (drop at mid)) (omega (arith, p.count)))
      ∙ ap (λ (x : List ℕ). over x out) (sym (front_parts (omega arith)))

  -- served exactly for valid pairs with room
  pub served_miter : (room k : ℕ) → MiterServed na a nb b room k → miter_outcome na a nb b room ≡ served k
  served_miter room k m =
      miter_made room (record { first = m.first; second = m.second }) (served_pair na a nb b _ (record { first_good = m.first_good; second_good = m.second_good; lines = m.lines })) m.fits
      ∙ ap served (sym m.count)

  pub miter_served : (room k : ℕ) → miter_outcome na a nb b room ≡ served k → MiterServed na a nb b room k
  unfolding miter_outcome
  miter_served room k e =
      let (c, g, f) = then_both (pair_outcome na a nb b) _ k e in
      let (t, s) = demanded (leb (length a + length b) room) no_room 0 (served (c.first + c.second)) k f in
      let p = pair_served na a nb b c g in
      let n : c.first + c.second ≡ k = cc in
      record { first = c.first; second = c.second; first_good = p.first_good; second_good = p.second_good; lines = p.lines; fits = leb-true _ _ t; count = sym n }

  -- refused exactly by what is wrong
  pub miter_wrong : (room number place : ℕ) → (miter_outcome na a nb b room ≡ refused number place) ↔ MiterRefused na a nb b room number place
  unfolding miter_outcome
  miter_wrong room =
      pair_wrong na a nb b (leb (length a + length b) room) no_room 0 (λ c. c.first + c.second) (room < length a + length b) (above (length a + length b) room)

  -- what stands in the buffer
  module _ (out : List ℕ) (k : ℕ) (good : miter_outcome na a nb b (length out) ≡ served k) where
    abbrev m : MiterServed na a nb b (length out) k
    m = miter_served (length out) k good

    written_out : miter_buffer na a nb b out ≡ over front out
    unfolding miter_buffer
    written_out = ap (λ (o : Outcome ℕ). written o front out) good

    gate_count : length (miter_gates (gates_of a) (gates_of b)) ≡ k
    gate_count =
        let x = m.first_good.size in
        let y = m.second_good.size in
        let c = m.count in
        let p = gates_length a in
        let q = gates_length b in
        let r = inverse_length (gates_of b) in
        length-append (gates_of a) (inverse (gates_of b)) ∙ omega arith

    front_length : length front ≡ 3 * k
    front_length = words_length (miter_gates (gates_of a) (gates_of b)) ∙ ap (λ (x : ℕ). 3 * x) gate_count

    taken : take (3 * k) (miter_buffer na a nb b out) ≡ front
    taken = ap (take (3 * k)) written_out ∙ take_at front _ (3 * k) front_length

    -- the two parts, and the rest
    buffer_parts : miter_buffer na a nb b out ≡ a ++ (back ++ drop (length front) out)
    buffer_parts =
        let x = m.first_good.size in
        written_out ∙ ap (λ (l : List ℕ). l ++ drop (length front) out) (front_parts (omega arith)) ∙ append_assoc a back _

    back_length : length back ≡ length b
    back_length =
        let y = m.second_good.size in
        let q = gates_length b in
        let r = inverse_length (gates_of b) in
        words_length (inverse (gates_of b)) ∙ omega arith

    first_words : take (length a) (miter_buffer na a nb b out) ≡ a
    first_words = ap (take (length a)) buffer_parts ∙ take_at a _ (length a) refl

    second_reversed : gates_of (take (length b) (drop (length a) (miter_buffer na a nb b out))) ≡ reverse (gates_of b)
    second_reversed =
        ap (λ (l : List ℕ). gates_of (take (length b) (drop (length a) l))) buffer_parts
        ∙ ap (λ (l : List ℕ). gates_of (take (length b) l)) (drop_at a _ (length a) refl)
        ∙ ap gates_of (take_at back _ (length b) back_length)
        ∙ gates_words (inverse (gates_of b))

    pub miter_stands : MiterStands na a nb b out k
    miter_stands =
        let g : gates_of (take (3 * k) (miter_buffer na a nb b out)) ≡ miter_gates (gates_of a) (gates_of b) = ap gates_of taken ∙ gates_words (miter_gates (gates_of a) (gates_of b)) in
        let p = m.first_good in
        let q = m.second_good in
        let s : all_valid na (gates_of b) ≡ true = ap (λ (n : ℕ). all_valid n (gates_of b)) m.lines ∙ q.gates in
        let u = p.few in
        let w = q.few in
        let c = m.count in
        record {
          gates = g;
          first_words = first_words;
          second_reversed = second_reversed;
          cascade =
              record {
                lines_low = p.lines_low;
                lines_high = p.lines_high;
                size = ap length taken ∙ front_length;
                few = omega arith;
                gates = ap (all_valid na) g ∙ valid_append na (gates_of a) (inverse (gates_of b)) p.gates (inverse_valid na (gates_of b) s);
              };
          rest = ap (drop (3 * k)) written_out ∙ drop_at front _ (3 * k) front_length ∙ ap (λ (n : ℕ). drop n out) front_length;
        }

miter_untouched : (na : ℕ) (a : List ℕ) (nb : ℕ) (b out : List ℕ) → Untouched (miter_outcome na a nb b (length out)) out (miter_buffer na a nb b out)
unfolding miter_buffer
miter_untouched na a nb b out = written_refused (words_of (miter_gates (gates_of a) (gates_of b))) out (miter_outcome na a nb b (length out))

pub miter_laws : MiterLaws
miter_laws =
    record {
      identity = λ a b s. (identity_agree a b s, agree_identity a b s);
      miter_served = λ na a nb b room k. (miter_served na a nb b room k, served_miter na a nb b room k);
      miter_refused = miter_wrong;
      miter_untouched = miter_untouched;
      miter_stands = miter_stands;
    }

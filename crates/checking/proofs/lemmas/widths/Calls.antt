-- The laws of the calls that make a list of words wide or narrow. Assumes nothing.
use Rattle.std.proofs.Common.{◌≡◌, ℕ, zero, suc, ◌+◌, ◌<◌, ◌≤◌, Bool, true, false, leb, ◌↔◌, List, [], ◌∷◌, length, take, ℤ, sym, refl, ap, ◌∙◌, arith, le-leb, leb-true, take_at}
use Rattle.bits.specs.Lists.{All, over}
use Rattle.circuit.specs.Outcome.{Outcome, served, refused, demand, and_then, written}
use Rattle.circuit.specs.Refusal.{no_room, word_too_wide}
use Rattle.circuit.proofs.Promises.{unserved, demand_met, demanded, then_served, then_both, written_served, written_refused, wrong_refused, fails_refused, above}
use Rattle.checking.specs.Each.{each_from, Every, AtFirst}
use Rattle.checking.specs.Stored.{clauses_in}
use Rattle.checking.specs.Widths.{narrow_limit, Narrow, is_narrow, widen_outcome, widen_buffer, narrow_outcome, narrow_buffer}
use Rattle.checking.specs.WidthLaws.{Passing, ConvertRefused, Converts, WidthLaws}
use Rattle.checking.proofs.lemmas.Each.{each_good, each_wrong, served_each}
use Rattle.checking.proofs.lemmas.clauses.Fits.{words_within}
use Rattle.checking.proofs.lemmas.pair_emission.Fits.{pair_words_within}
use Rattle.checking.proofs.lemmas.widths.Laws.{narrow_word, narrow_bits, word_bits}

-- ---- the two calls, by the test of a word

-- what a call with such a test answers
abbrev converted : (ℤ → Bool) → List ℤ → ℕ → Outcome ℕ
converted test ws room = and_then (each_from test word_too_wide 0 ws) (λ k. demand (leb k room) no_room 0 (served k))

module _ (test : ℤ → Bool) (answer : List ℤ → ℕ → Outcome ℕ) (leaves : List ℤ → List ℤ → List ℤ) (is : (ws : List ℤ) (room : ℕ) → answer ws room ≡ converted test ws room)
    (left : (ws out : List ℤ) → leaves ws out ≡ written (answer ws (length out)) ws out) where
  all : (ws : List ℤ) (k : ℕ) → (each_from test word_too_wide 0 ws ≡ served k) ↔ ((k ≡ length ws) × Passing test ws)
  all ws = each_good test word_too_wide (λ w. Unit {0}) _ (λ w. test w ≡ false) (λ w u. ((λ e. e), (λ e. e))) (λ w u. ((λ e. e), (λ e. e))) ws (λ j h d. tt)

  first : (ws : List ℤ) (x y : ℕ) → (each_from test word_too_wide 0 ws ≡ refused x y) ↔ AtFirst (λ w. test w ≡ true) (λ w. test w ≡ false) ws word_too_wide x y
  first ws = each_wrong test word_too_wide (λ w. Unit {0}) _ _ (λ w u. ((λ e. e), (λ e. e))) (λ w u. ((λ e. e), (λ e. e))) ws (λ j h d. tt)

  served_for : (ws : List ℤ) (room k : ℕ) → answer ws room ≡ served k → (Passing test ws) × (length ws ≤ room) × (k ≡ length ws)
  served_for ws room k e =
      let (j, p, f) = then_both (each_from test word_too_wide 0 ws) _ k (sym (is ws room) ∙ e) in
      let (t, g) = demanded (leb j room) no_room 0 (served j) k f in
      let (n, h) = (all ws j).0 p in
      let same : j ≡ k = unserved g in
      (h, omega (arith, leb-true j room t), omega arith)

  for_served : (ws : List ℤ) (room k : ℕ) → (Passing test ws) × (length ws ≤ room) × (k ≡ length ws) → answer ws room ≡ served k
  for_served ws room k (h, fits, n) =
      is ws room
      ∙ then_served (each_from test word_too_wide 0 ws) _ (length ws) ((all ws (length ws)).1 (refl, h))
      ∙ demand_met _ _ _ _ (le-leb (length ws) room fits)
      ∙ ap served (sym n)

  refused_for : (ws : List ℤ) (room x y : ℕ) → (answer ws room ≡ refused x y) ↔ ConvertRefused test ws room x y
  refused_for ws room x y =
      let (f, g) = wrong_refused (each_from test word_too_wide 0 ws) (λ k. demand (leb k room) no_room 0 (served k)) _ _ _ (first ws) (λ k. all ws k) (λ k h. fails_refused (leb k room) no_room 0 k (room < k) (above k room)) x y in
      ((λ e. f (sym (is ws room) ∙ e)), (λ w. is ws room ∙ g w))

  convert : Converts test answer leaves
  convert =
      record {
        served_exactly = λ ws room k. (served_for ws room k, for_served ws room k);
        refused_exactly = refused_for;
        puts = λ ws out k e. left ws out ∙ written_served ws out (answer ws (length out)) k e;
        untouched = λ ws out x y e. left ws out ∙ written_refused ws out (answer ws (length out)) x y e;
      }

narrows : Converts is_narrow narrow_outcome narrow_buffer
narrows = convert is_narrow narrow_outcome narrow_buffer (λ ws room. unfold narrow_outcome in refl) (λ ws out. unfold narrow_buffer in refl)

widen_same : (ws : List ℤ) (room : ℕ) → widen_outcome ws room ≡ converted (λ w. true) ws room
unfolding widen_outcome
widen_same ws room =
    let e : 0 + length ws ≡ length ws = omega arith in
    sym (then_served (each_from (λ w. true) word_too_wide 0 ws) _ (length ws) (served_each (λ w. true) word_too_wide 0 ws (λ j h d. refl) ∙ ap served e))

widens : Converts (λ w. true) widen_outcome widen_buffer
widens = convert (λ w. true) widen_outcome widen_buffer widen_same (λ ws out. unfold widen_buffer in refl)

-- ---- any such calls

-- what stands at the start of a buffer
start_is : (ws out : List ℤ) (k : ℕ) → k ≡ length ws → take k (over ws out) ≡ ws
start_is ws out k e = take_at ws _ k (sym e)

module _ (test : ℤ → Bool) (f : List ℤ → ℕ → Outcome ℕ) (left : List ℤ → List ℤ → List ℤ) (c : Converts test f left) where
  -- what stands there after a served call
  put_start : (ws out : List ℤ) (k : ℕ) → f ws (length out) ≡ served k → take k (left ws out) ≡ ws
  put_start ws out k e = ap (take k) (c.puts ws out k e) ∙ start_is ws out k ((c.served_exactly ws (length out) k).0 e).2

  reads_same : (ws out : List ℤ) (k : ℕ) → f ws (length out) ≡ served k → clauses_in (take k (left ws out)) ≡ clauses_in ws
  reads_same ws out k e = ap clauses_in (put_start ws out k e)

module _ (test again : ℤ → Bool) (f g : List ℤ → ℕ → Outcome ℕ) (left right : List ℤ → List ℤ → List ℤ) (c : Converts test f left) (d : Converts again g right) where
  comes_back : (ws out back : List ℤ) (k : ℕ) → f ws (length out) ≡ served k → Passing again ws → length ws ≤ length back
      → (g (take k (left ws out)) (length back) ≡ served k) × (take k (right (take k (left ws out)) back) ≡ ws)
  comes_back ws out back k e h fits =
      let at = put_start test f left c ws out k e in
      let n : k ≡ length ws = ((c.served_exactly ws (length out) k).0 e).2 in
      let back_again : g ws (length back) ≡ served k = (d.served_exactly ws (length back) k).1 (h, fits, n) in (
        ap (λ (l : List ℤ). g l (length back)) at ∙ back_again,
        ap (λ (l : List ℤ). take k (right l back)) at ∙ put_start again g right d ws back k back_again,
      )

module _ (test : ℤ → Bool) (f g : List ℤ → ℕ → Outcome ℕ) (left right : List ℤ → List ℤ → List ℤ) (c : Converts test f left) (d : Converts test g right) where
  same_answer : (ws : List ℤ) (room : ℕ) (o : Outcome ℕ) → f ws room ≡ o → g ws room ≡ o
  same_answer ws room (served k) e = (d.served_exactly ws room k).1 ((c.served_exactly ws room k).0 e)
  same_answer ws room (refused x y) e = (d.refused_exactly ws room x y).1 ((c.refused_exactly ws room x y).0 e)

  same_left : (ws out : List ℤ) (o : Outcome ℕ) → f ws (length out) ≡ o → left ws out ≡ right ws out
  same_left ws out (served k) e = c.puts ws out k e ∙ sym (d.puts ws out k (same_answer ws (length out) (served k) e))
  same_left ws out (refused x y) e = c.untouched ws out x y e ∙ sym (d.untouched ws out x y (same_answer ws (length out) (refused x y) e))

  converts_only : ((ws : List ℤ) (room : ℕ) → f ws room ≡ g ws room) × ((ws out : List ℤ) → left ws out ≡ right ws out)
  converts_only = ((λ ws room. sym (same_answer ws room (f ws room) refl)), (λ ws out. same_left ws out (f ws (length out)) refl))

-- ---- lists of 16 bits

every_of : (P : ℤ → Type 0) (ws : List ℤ) → All P ws → Every P ws
every_of P [] a j h d = absurd (omega arith)
every_of P (w ∷ ws) a zero h d = a.0
every_of P (w ∷ ws) a (suc j) h d = every_of P ws a.1 j (omega arith) d

pub width_laws : WidthLaws
width_laws =
    record {
      narrow_word = narrow_word;
      narrow_bits = narrow_bits;
      word_bits = word_bits;
      widens = widens;
      narrows = narrows;
      converts_only = converts_only;
      comes_back = comes_back;
      reads_same = reads_same;
      cut_off = λ answer leaves ws room k e out c. out (λ j h d. (narrow_word _).0 (((c.served_exactly ws room k).0 e).0 j h d));
      narrow_list = λ n gs few v h. every_of Narrow _ (words_within narrow_limit n gs few (omega arith) h v);
      narrow_pair = λ h a b few v w small. every_of Narrow _ (pair_words_within h a b few narrow_limit (omega arith) small v w);
    }

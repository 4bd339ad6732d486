-- The laws of comparing two cascades: the search for the lowest difference, and what the calls answer. Assumes nothing.
use Rattle.std.proofs.Common.{◌≡◌, ℕ, zero, suc, ◌+◌, ◌^◌, ◌<◌, ◌≤◌, Bool, true, false, not, ◌&&◌, eqb, ltb, ◌↔◌, List, [], MatchOption, Option, None, Some, sym, refl, ap, ◌∙◌, subst, arith, ltb-false, ltb-true, eqb-true, le-leb}
use borrow.Author.Tests.{eqb-false, not-true, not-false, lt-leb}
use Rattle.bits.proofs.Bools.{either, and_parts, cond-true, cond-false}
use Rattle.circuit.specs.declared.gate.Gate.{Gate}
use Rattle.circuit.specs.declared.header.Header.{Header}
use Rattle.circuit.specs.Gate.{max_lines}
use Rattle.circuit.specs.Header.{marks_good, permits, alike, Permitted}
use Rattle.circuit.specs.Outcome.{Outcome, served, refused}
use Rattle.circuit.specs.Refusal.{bad_state, too_wide}
use Rattle.circuit.specs.Words.{gates_of, all_valid, pair_outcome, headed_pair_outcome, HeadedPair}
use Rattle.circuit.specs.declared.words.Counts.{Counts}
use Rattle.circuit.specs.Run.{run, DiffersFor}
use Rattle.circuit.proofs.Promises.{demand_met, demand_failed, then_served, then_refused, valid_all_more, then_both, then_fails, permits_lines, lines_permit, headed_pair_served, differs_unlike, agrees_alike}
use Rattle.checking.specs.Compare.{outputs_differ, Agree, max_sweep_lines, Difference, none, lowest, lowest_from, of_difference, difference_outcome, Says, differs_outcome, picked, pick_outcome, Picks}

-- the gates of two cascades that were tested
pub pair_gates : (ha : Header) (a : List ℕ) (hb : Header) (b : List ℕ) (c : Counts) → headed_pair_outcome ha a hb b ≡ served c
    → (all_valid max_lines (gates_of a) ≡ true) × (all_valid max_lines (gates_of b) ≡ true)
pair_gates ha a hb b c e =
    let p = headed_pair_served ha a hb b c e in
    let k = p.first_good.cascade in
    let m = p.second_good.cascade in
    (valid_all_more ha.lines max_lines (gates_of a) k.lines_high k.gates, valid_all_more hb.lines max_lines (gates_of b) m.lines_high m.gates)

-- ---- whether two cascades agree on a state

-- the gates of two cascades with this header
pub record HeadedGates (h : Header) (a b : List Gate) : Type 0 where
  pub marks : marks_good h ≡ true
  pub first : all_valid h.lines a ≡ true
  pub second : all_valid h.lines b ≡ true

pub headed_gates : (ha : Header) (a : List ℕ) (hb : Header) (b : List ℕ) (c : Counts) → HeadedPair ha a hb b c → HeadedGates ha (gates_of a) (gates_of b)
headed_gates ha a hb b c p =
    record {
      marks = p.first_good.marks;
      first = p.first_good.cascade.gates;
      second = subst (λ (h : Header). all_valid h.lines (gates_of b) ≡ true) (sym p.header) p.second_good.cascade.gates;
    }

module _ (h : Header) (a b : List Gate) (good : HeadedGates h a b) (x : ℕ) (allowed : Permitted h x) where
  pub agree_state : (outputs_differ h a b x ≡ false) ↔ Agree h a b x
  agree_state =
      let lines = agrees_alike h a b good.first good.second x allowed in
      ((λ e. lines.1 (not-false (alike h (run a x) (run b x)) e)), (λ f. ap not (lines.0 f)))

  pub differ_state : (outputs_differ h a b x ≡ true) ↔ DiffersFor h a b x
  differ_state =
      let lines = differs_unlike h a b good.first good.second x in
      ((λ e. lines.1 (allowed, not-true (alike h (run a x) (run b x)) e)), (λ d. ap not (lines.0 d).1))

-- ---- the search

module _ (h : Header) (a b : List Gate) where
  -- the search stops at x
  abbrev pub differs_on : ℕ → Bool
  differs_on x = permits h x && outputs_differ h a b x

  -- the first of the states from x up to `end` on which the two differ, as an option
  abbrev pub First : ℕ → ℕ → Option ℕ → Type 0
  First x end r =
      MatchOption r ((y : ℕ) → x ≤ y → y < end → differs_on y ≡ false)
      (λ i. (x ≤ i) × (i < end) × (differs_on i ≡ true) × ((y : ℕ) → x ≤ y → y < i → differs_on y ≡ false))

  lowest_is : (x k end : ℕ) → x + k ≡ end → (r : Option ℕ) → First x end r → lowest_from h a b x k ≡ of_difference r
  unfolding lowest_from
  lowest_is x zero end e None f = refl
  lowest_is x zero end e (Some i) f = absurd (omega arith)
  lowest_is x (suc k) end e None f =
      cond-false _ _ _ (f x (omega arith) (omega arith)) ∙ lowest_is (x + 1) k end (omega arith) None (λ y l h. f y (omega arith) h)
  lowest_is x (suc k) end e (Some i) f =
      either (eqb x i)
      (λ t. let here : x ≡ i = eqb-true x i t in cond-true _ _ _ (ap differs_on here ∙ f.2) ∙ ap lowest here)
      (λ t.
      let later : x ≡ i → ⊥ = eqb-false x i t in
      cond-false _ _ _ (f.3 x (omega arith) (omega arith)) ∙ lowest_is (x + 1) k end (omega arith) (Some i) (omega arith, f.1, f.2, (λ y l h. f.3 y (omega arith) h)))

  pub lowest_below : (count : ℕ) (r : Option ℕ) → First 0 count r → of_difference r ≡ lowest_from h a b 0 count
  lowest_below count r f = sym (lowest_is 0 count count (omega arith) r f)

  -- what the search over the k states from x says
  abbrev Found : ℕ → ℕ → Difference → Type 0
  Found x k none = (y : ℕ) → x ≤ y → y < x + k → differs_on y ≡ false
  Found x k (lowest z) = (x ≤ z) × (z < x + k) × (differs_on z ≡ true) × ((y : ℕ) → x ≤ y → y < z → differs_on y ≡ false)

  agrees_first : (x : ℕ) → differs_on x ≡ false → (y : ℕ) → x ≤ y → y < x + 1 → differs_on y ≡ false
  agrees_first x e y l h = let f : y ≡ x = omega arith in ap differs_on f ∙ e

  later : (x k : ℕ) → differs_on x ≡ false → (d : Difference) → Found (x + 1) k d → Found x (suc k) d
  later x k e none f = λ y l h. either (ltb y (x + 1)) (λ t. agrees_first x e y l (ltb-true _ _ t)) (λ t. f y (ltb-false _ _ t) (omega arith))
  later x k e (lowest z) f =
      let (l, h, n, m) = f in
      (omega arith, omega arith, n, (λ y p q. either (ltb y (x + 1)) (λ t. agrees_first x e y p (ltb-true _ _ t)) (λ t. m y (ltb-false _ _ t) q)))

  found : (x k : ℕ) → Found x k (lowest_from h a b x k)
  unfolding lowest_from
  found x zero = λ y l h. absurd (omega arith)
  found x (suc k) =
      either (differs_on x)
      (λ e. subst (Found x (suc k)) (sym (cond-true _ _ _ e)) (omega arith, omega arith, e, (λ y l h. absurd (omega arith))))
      (λ e. subst (Found x (suc k)) (sym (cond-false _ _ _ e)) (later x k e (lowest_from h a b (x + 1) k) (found (x + 1) k)))

  -- what a sweep says fixes what it found
  pub says_only : (d e : Difference) → Says h a b (served d) → Says h a b (served e) → d ≡ e
  says_only none none p q = refl
  says_only none (lowest y) p (d, f) = absurd (d.outputs (p y d.permitted d.line d.counts))
  says_only (lowest x) none (d, f) q = absurd (d.outputs (q x d.permitted d.line d.counts))
  says_only (lowest x) (lowest y) (d, f) (e, g) =
      either (ltb x y)
      (λ t. absurd (d.outputs (g x (ltb-true x y t) d.permitted d.line d.counts)))
      (λ t.
      either (ltb y x)
      (λ u. absurd (e.outputs (f y (ltb-true y x u) e.permitted e.line e.counts)))
      (λ u. let p = ltb-false x y t in let q = ltb-false y x u in let same : x ≡ y = omega arith in ap lowest same))

  module _ (good : HeadedGates h a b) where
    -- a state that was passed is not permitted, or the two agree on it
    passed : (y : ℕ) → differs_on y ≡ false → Permitted h y → Agree h a b y
    passed y e p = (agree_state h a b good y p).0 (sym (ap (λ (t : Bool). t && outputs_differ h a b y) (lines_permit h y good.marks p)) ∙ e)

    says : (d : Difference) → Found 0 (2 ^ h.lines) d → Says h a b (served d)
    says none f = λ x p. passed x (f x (omega arith) (omega (arith, p.state))) p
    says (lowest z) f =
        let (l, below, m, r) = f in
        let (p, d) = and_parts (permits h z) (outputs_differ h a b z) m in
        ((differ_state h a b good z (permits_lines h z p)).0 d, (λ y q. passed y (r y (omega arith) q)))

    pub sweep_says : Says h a b (served (lowest_from h a b 0 (2 ^ h.lines)))
    sweep_says = says (lowest_from h a b 0 (2 ^ h.lines)) (found 0 (2 ^ h.lines))

-- ---- what the calls answer

module _ (ha : Header) (a : List ℕ) (hb : Header) (b : List ℕ) where
  pub difference_refused : (number place : ℕ) → headed_pair_outcome ha a hb b ≡ refused number place → difference_outcome ha a hb b ≡ refused number place
  unfolding difference_outcome
  difference_refused number place e = then_refused _ _ number place e

  pub differs_refused : (x number place : ℕ) → headed_pair_outcome ha a hb b ≡ refused number place → differs_outcome ha a hb b x ≡ refused number place
  unfolding differs_outcome
  differs_refused x number place e = then_refused _ _ number place e

  module _ (counts : Counts) (good : headed_pair_outcome ha a hb b ≡ served counts) where
    pub difference_wide : max_sweep_lines < ha.lines → difference_outcome ha a hb b ≡ refused too_wide 0
    unfolding difference_outcome
    difference_wide h = then_served _ _ counts good ∙ demand_failed _ _ _ _ (lt-leb ha.lines max_sweep_lines h)

    pub difference_made : ha.lines ≤ max_sweep_lines → difference_outcome ha a hb b ≡ served (lowest_from ha (gates_of a) (gates_of b) 0 (2 ^ ha.lines))
    unfolding difference_outcome
    difference_made h = then_served _ _ counts good ∙ demand_met _ _ _ _ (le-leb ha.lines max_sweep_lines h)

    pub differs_outside : (x : ℕ) → permits ha x ≡ false → differs_outcome ha a hb b x ≡ refused bad_state 0
    unfolding differs_outcome
    differs_outside x e = then_served _ _ counts good ∙ demand_failed _ _ _ _ e

    pub differs_made : (x : ℕ) (t : Bool) → permits ha x ≡ true → outputs_differ ha (gates_of a) (gates_of b) x ≡ t → differs_outcome ha a hb b x ≡ served t
    unfolding differs_outcome
    differs_made x t e f = then_served _ _ counts good ∙ demand_met _ _ _ _ e ∙ ap served f

module _ (na : ℕ) (a : List ℕ) (nb : ℕ) (b : List ℕ) where
  pub pick_refused : (number place : ℕ) → pair_outcome na a nb b ≡ refused number place → pick_outcome na a nb b ≡ refused number place
  unfolding pick_outcome
  pick_refused number place e = then_refused _ _ number place e

  -- what a pick that is refused, or made, says of the two
  pub refused_pick : (number place : ℕ) → pick_outcome na a nb b ≡ refused number place → pair_outcome na a nb b ≡ refused number place
  unfolding pick_outcome
  refused_pick number place e = then_fails (pair_outcome na a nb b) (λ counts. tt) number place e

  pub made_pick : pick_outcome na a nb b ≡ served tt → (counts : Counts) × (pair_outcome na a nb b ≡ served counts)
  unfolding pick_outcome
  made_pick e = let (counts, p, q) = then_both (pair_outcome na a nb b) _ tt e in (counts, p)

  module _ (counts : Counts) (good : pair_outcome na a nb b ≡ served counts) where
    pub pick_made : pick_outcome na a nb b ≡ served tt
    unfolding pick_outcome
    pick_made = then_served _ _ counts good

-- ---- the pick

module _ {P : Type 0} (o : Outcome Counts) (a b : List ℕ) (at_a at_b : P) where
  pub picks_refused : (number place : ℕ) (at : P) → o ≡ refused number place → at ≡ at_a → Picks o a b [] at_a at_b at
  picks_refused number place at e f =
      record {
        contents = sym (ap (λ (x : Outcome Counts). picked x a b []) e);
        place = f ∙ sym (ap (λ (x : Outcome Counts). picked x at_a at_b at_a) e);
      }

  module _ (counts : Counts) (e : o ≡ served counts) where
    pub picks_first : counts.first ≤ counts.second → Picks o a b a at_a at_b at_a
    picks_first h =
        let t = le-leb counts.first counts.second h in
        record {
          contents = sym (ap (λ (x : Outcome Counts). picked x a b []) e ∙ cond-true _ _ _ t);
          place = sym (ap (λ (x : Outcome Counts). picked x at_a at_b at_a) e ∙ cond-true _ _ _ t);
        }

    pub picks_second : counts.second < counts.first → Picks o a b b at_a at_b at_b
    picks_second h =
        let t = lt-leb counts.first counts.second h in
        record {
          contents = sym (ap (λ (x : Outcome Counts). picked x a b []) e ∙ cond-false _ _ _ t);
          place = sym (ap (λ (x : Outcome Counts). picked x at_a at_b at_a) e ∙ cond-false _ _ _ t);
        }

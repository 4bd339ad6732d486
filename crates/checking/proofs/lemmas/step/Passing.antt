-- The laws of gates that may pass: by masks, by lines, that they pass exactly where swapping them leaves the function unchanged, and that no other rule has that law. Assumes nothing.
use Rattle.std.proofs.Common.{◌≡◌, ℕ, ◌%◌, ◌^◌, ◌<◌, ◌≤◌, Bool, true, false, not, ◌&&◌, ◌||◌, eqb, [], ◌∷◌, sym, refl, ap, ◌∙◌, ap₂, eq-eqb, ne_eqb, eqb-true, mod-eq_of_lt}
use mathlib.Core.Bool.{xor, or_comm, not-eq-not}
use lib.Bits.{bit_and, bit_or}
use borrow.Author.Tests.{eqb-false, not-true}
use Rattle.bits.specs.Digits.{bit}
use Rattle.bits.proofs.Bools.{and_parts, both, same_test, or_left, or_right, or_second, or_none, none_or, either, not_held, refuted, xor_all, table₃}
use Rattle.bits.proofs.Digits.{bit-and, bit-or, bit_none, bit_some, bits_equal, below_of_bits, line_clear, clear_line, or_zero}
use Rattle.circuit.specs.declared.gate.Gate.{Gate}
use Rattle.circuit.specs.Gate.{max_lines, fires, valid, apply}
use Rattle.circuit.specs.Run.{run, Equal}
use Rattle.circuit.proofs.Promises.{fires_lines, lines_fires, valid_by_lines, valid_more, apply_bit, apply_gate, inverted_idle, run_one, run_next}
use Rattle.checking.specs.Match.{control_lines, targets_uncontrolled, opposing, may_pass}
use Rattle.checking.specs.StepLaws.{Uncontrolled, Opposed, first_positive, second_positive, PassesByLines, both_uncontrolled, opposed, PassingOf}
use Rattle.checking.proofs.lemmas.step.TwoGates.{elsewhere, two_bit}

-- ---- the test by masks

-- the code's test: whether a target is a control of the other gate, by one mask; where one is, whether some line is opposed
module _ (g h : Gate) (x y : ℕ) (first : g.target < max_lines) (second : h.target < max_lines) (is_x : x ≡ 2 ^ (g.target % max_lines)) (is_y : y ≡ 2 ^ (h.target % max_lines)) where
  abbrev targets_read : ℕ
  targets_read = bit_or (bit_and (bit_or h.positive h.negative) x) (bit_and (bit_or g.positive g.negative) y)

  unread : eqb targets_read 0 ≡ targets_uncontrolled g h
  unfolding targets_uncontrolled control_lines
  unread =
      or_zero (bit_and (bit_or h.positive h.negative) x) (bit_and (bit_or g.positive g.negative) y)
      ∙ ap₂ (λ (u v : ℕ). eqb (bit_and (bit_or h.positive h.negative) u) 0 && eqb (bit_and (bit_or g.positive g.negative) v) 0)
      (is_x ∙ ap (◌^◌ 2) (mod-eq_of_lt first)) (is_y ∙ ap (◌^◌ 2) (mod-eq_of_lt second))

  pub pass_unread : targets_read ≡ 0 → eqb targets_read 0 ≡ may_pass g h
  unfolding may_pass
  pass_unread z = let t = eq-eqb targets_read 0 z in t ∙ sym (or_left _ (sym unread ∙ t))

  pub pass_opposed : (targets_read ≡ 0 → ⊥) → not (eqb (bit_or (bit_and g.positive h.negative) (bit_and g.negative h.positive)) 0) ≡ may_pass g h
  unfolding may_pass opposing
  pass_opposed d = sym (ap (λ (b : Bool). b || not (eqb (opposing g h) 0)) (sym unread ∙ ne_eqb targets_read 0 d))

-- ---- by lines

clear_lines : (p q t : ℕ) → bit_and (bit_or p q) (2 ^ t) ≡ 0 → (bit p t ≡ false) × (bit q t ≡ false)
clear_lines p q t e = or_none (bit p t) (bit q t) (sym (bit-or p q t) ∙ clear_line (bit_or p q) t e)

lines_clear : (p q t : ℕ) → bit p t ≡ false → bit q t ≡ false → bit_and (bit_or p q) (2 ^ t) ≡ 0
lines_clear p q t a b = line_clear (bit_or p q) t (bit-or p q t ∙ none_or a b)

module _ (g h : Gate) where
  pub uncontrolled_lines : targets_uncontrolled g h ≡ true → (Uncontrolled h g.target) × (Uncontrolled g h.target)
  unfolding targets_uncontrolled control_lines
  uncontrolled_lines e =
      let (a, b) = and_parts (eqb (bit_and (bit_or h.positive h.negative) (2 ^ g.target)) 0) (eqb (bit_and (bit_or g.positive g.negative) (2 ^ h.target)) 0) e in
      let (p, q) = clear_lines h.positive h.negative g.target (eqb-true _ _ a) in
      let (u, v) = clear_lines g.positive g.negative h.target (eqb-true _ _ b) in
      (record { not_positive = p; not_negative = q }, record { not_positive = u; not_negative = v })

  pub lines_uncontrolled : Uncontrolled h g.target → Uncontrolled g h.target → targets_uncontrolled g h ≡ true
  unfolding targets_uncontrolled control_lines
  lines_uncontrolled c d =
      both (eq-eqb _ _ (lines_clear h.positive h.negative g.target c.not_positive c.not_negative))
      (eq-eqb _ _ (lines_clear g.positive g.negative h.target d.not_positive d.not_negative))

  opposing_line : (k : ℕ) → bit (opposing g h) k ≡ ((bit g.positive k && bit h.negative k) || (bit g.negative k && bit h.positive k))
  unfolding opposing
  opposing_line k = bit-or _ _ k ∙ ap₂ ◌||◌ (bit-and _ _ k) (bit-and _ _ k)

  line_opposed : (k : ℕ) → bit (opposing g h) k ≡ true → Opposed g h k
  line_opposed k e =
      let o = sym (opposing_line k) ∙ e in
      either (bit g.positive k && bit h.negative k)
      (λ t. let (p, n) = and_parts _ _ t in first_positive p n)
      (λ t. let (n, p) = and_parts _ _ (or_second _ _ o t) in second_positive n p)

  opposed_line : (k : ℕ) → Opposed g h k → bit (opposing g h) k ≡ true
  opposed_line k (first_positive p n) = opposing_line k ∙ or_left _ (both p n)
  opposed_line k (second_positive n p) = opposing_line k ∙ or_right (bit g.positive k && bit h.negative k) (both n p)

  -- some line is opposed where the mask is not 0, and none where it is 0
  some_opposed : eqb (opposing g h) 0 ≡ false → (k : ℕ) × Opposed g h k
  some_opposed e = let (k, b) = bit_some (opposing g h) (eqb-false _ _ e) in (k, line_opposed k b)

  none_opposed : eqb (opposing g h) 0 ≡ true → (k : ℕ) → Opposed g h k → ⊥
  none_opposed e k o = refuted (ap (λ (x : ℕ). bit x k) (eqb-true _ _ e) ∙ bit_none k) (opposed_line k o)

  pub pass_lines : may_pass g h ≡ true → PassesByLines g h
  unfolding may_pass
  pass_lines e =
      either (targets_uncontrolled g h)
      (λ t. let (c, d) = uncontrolled_lines t in both_uncontrolled c d)
      (λ t. let (k, o) = some_opposed (not-true _ (or_second _ _ e t)) in opposed k o)

  pub lines_pass : PassesByLines g h → may_pass g h ≡ true
  unfolding may_pass
  lines_pass (both_uncontrolled c d) = or_left _ (lines_uncontrolled c d)
  lines_pass (opposed k o) = or_right (targets_uncontrolled g h) (ap not (not_held _ (λ e. none_opposed e k o)))

opposed_back : (g h : Gate) (k : ℕ) → Opposed g h k → Opposed h g k
opposed_back g h k (first_positive p n) = second_positive n p
opposed_back g h k (second_positive n p) = first_positive p n

-- ---- gates that may pass commute

xor_swap : (a b c : Bool) → xor (xor a b) c ≡ xor (xor a c) b
unfolding xor
xor_swap = table₃ _ _ refl

uncontrolled_commute : (g h : Gate) → valid max_lines g ≡ true → valid max_lines h ≡ true → Uncontrolled h g.target → Uncontrolled g h.target
    → (s : ℕ) → apply h (apply g s) ≡ apply g (apply h s)
uncontrolled_commute g h vg vh c d s =
    bits_equal _ _ (λ l. two_bit g h vg c s vh l ∙ xor_swap (bit s l) _ _ ∙ sym (two_bit h g vh d s vg l))

-- a gate that does not fire leaves the state
unfired : (g : Gate) → valid max_lines g ≡ true → (s : ℕ) → fires g s ≡ false → apply g s ≡ s
unfired g v s e = apply_gate g s v ∙ inverted_idle g s e

-- the second fires neither before the first nor after it
unfired_commute : (g h : Gate) → valid max_lines h ≡ true → (s : ℕ) → fires h s ≡ false → fires h (apply g s) ≡ false → apply h (apply g s) ≡ apply g (apply h s)
unfired_commute g h vh s e f = unfired h vh (apply g s) f ∙ sym (ap (apply g) (unfired h vh s e))

-- line k is a positive control of g and a negative one of h: neither inverts it, and where it is 1 h does not fire, where it is 0 g does not
module _ (g h : Gate) (vg : valid max_lines g ≡ true) (vh : valid max_lines h ≡ true) (k : ℕ) (p : bit g.positive k ≡ true) (n : bit h.negative k ≡ true) where
  kept_first : (s : ℕ) → bit (apply g s) k ≡ bit s k
  kept_first s = elsewhere g vg s k (λ q. refuted (valid_by_lines max_lines g vg).target_not_positive (sym (ap (bit g.positive) q) ∙ p))

  kept_second : (s : ℕ) → bit (apply h s) k ≡ bit s k
  kept_second s = elsewhere h vh s k (λ q. refuted (valid_by_lines max_lines h vh).target_not_negative (sym (ap (bit h.negative) q) ∙ n))

  first_stopped : (s : ℕ) → bit s k ≡ false → fires g s ≡ false
  first_stopped s e = not_held _ (λ f. refuted e ((fires_lines g s f).on k p))

  second_stopped : (s : ℕ) → bit s k ≡ true → fires h s ≡ false
  second_stopped s e = not_held _ (λ f. refuted ((fires_lines h s f).off k n) e)

  opposed_commute : (s : ℕ) → apply h (apply g s) ≡ apply g (apply h s)
  opposed_commute s =
      either (bit s k)
      (λ e. unfired_commute g h vh s (second_stopped s e) (second_stopped (apply g s) (kept_first s ∙ e)))
      (λ e. sym (unfired_commute h g vg s (first_stopped s e) (first_stopped (apply h s) (kept_second s ∙ e))))

pub passing : (g h : Gate) → valid max_lines g ≡ true → valid max_lines h ≡ true → may_pass g h ≡ true → (s : ℕ) → apply h (apply g s) ≡ apply g (apply h s)
passing g h vg vh e s = by_lines (pass_lines g h e)
  where
    by_lines : PassesByLines g h → apply h (apply g s) ≡ apply g (apply h s)
    by_lines (both_uncontrolled c d) = uncontrolled_commute g h vg vh c d s
    by_lines (opposed k (first_positive p n)) = opposed_commute g h vg vh k p n s
    by_lines (opposed k (second_positive n p)) = sym (opposed_commute h g vh vg k p n s)

-- ---- gates that may not pass: the state that meets all controls of both tells the two orders apart

-- on a state whose lines are the positive controls of two gates the first fires, where no line is opposed
joined_fires : (g h : Gate) (s : ℕ) → valid max_lines g ≡ true → ((k : ℕ) → Opposed g h k → ⊥) → ((k : ℕ) → bit s k ≡ (bit g.positive k || bit h.positive k)) → fires g s ≡ true
joined_fires g h s v none is =
    lines_fires g s
    (record {
      on = λ k e. is k ∙ or_left _ e;
      off = λ k e.
          is k
          ∙ none_or (not_held _ (λ p. refuted ((valid_by_lines max_lines g v).apart k p) e)) (not_held _ (λ p. none k (second_positive e p)));
    })

-- a gate that fires inverts its target
target_inverted : (g : Gate) → valid max_lines g ≡ true → (s : ℕ) → fires g s ≡ true → bit (apply g s) g.target ≡ not (bit s g.target)
target_inverted g v s f =
    apply_bit g s g.target v
    ∙ ap₂ (λ (x y : Bool). xor (bit s g.target) (x && y)) f (eq-eqb g.target g.target refl)
    ∙ xor_all (bit s g.target)

-- two states on which a gate fires agree on its control lines
control_same : (h : Gate) (s t l : ℕ) → fires h s ≡ true → fires h t ≡ true → (bit h.positive l || bit h.negative l) ≡ true → bit t l ≡ bit s l
control_same h s t l e f c =
    either (bit h.positive l)
    (λ p. (fires_lines h t f).on l p ∙ sym ((fires_lines h s e).on l p))
    (λ p. let n = or_second _ _ c p in (fires_lines h t f).off l n ∙ sym ((fires_lines h s e).off l n))

-- both fire, and the first's target is a control of the second: after the first, the second does not fire
orders_differ : (g h : Gate) → valid max_lines g ≡ true → valid max_lines h ≡ true → (s : ℕ) → fires g s ≡ true → fires h s ≡ true
    → (bit h.positive g.target || bit h.negative g.target) ≡ true → apply h (apply g s) ≡ apply g (apply h s) → ⊥
orders_differ g h vg vh s f e c same =
    let w = valid_by_lines max_lines h vh in
    let stopped : fires h (apply g s) ≡ false =
    not_held _ (λ t. not-eq-not.1 refl (sym (control_same h s (apply g s) g.target e t c) ∙ target_inverted g vg s f)) in
    let other : h.target ≡ g.target → ⊥ =
    λ q. refuted (none_or w.target_not_positive w.target_not_negative) (ap (λ (l : ℕ). bit h.positive l || bit h.negative l) q ∙ c) in
    not-eq-not.1 refl
    (sym (ap (λ (x : ℕ). bit x h.target) (unfired h vh (apply g s) stopped) ∙ elsewhere g vg s h.target other)
    ∙ ap (λ (x : ℕ). bit x h.target) same
    ∙ elsewhere g vg (apply h s) h.target other
    ∙ target_inverted h vh s e)

-- line t stands in one of two masks, where the test of both fails
control_line : (p q t : ℕ) → eqb (bit_and (bit_or p q) (2 ^ t)) 0 ≡ false → (bit p t || bit q t) ≡ true
control_line p q t e =
    sym (bit-or p q t) ∙ (not-eq-not {a = bit (bit_or p q) t} {b = true}).0 (λ b. eqb-false _ _ e (line_clear (bit_or p q) t b))

pub two_run : (g h : Gate) (s : ℕ) → run (g ∷ h ∷ []) s ≡ apply h (apply g s)
two_run g h s = run_next g (h ∷ []) s ∙ run_one h (apply g s)

module _ (n : ℕ) (g h : Gate) (few : n ≤ max_lines) (vg : valid n g ≡ true) (vh : valid n h ≡ true) (same : Equal n (g ∷ h ∷ []) (h ∷ g ∷ [])) where
  abbrev positives : ℕ
  positives = bit_or g.positive h.positive

  positives_below : positives < 2 ^ n
  positives_below = below_of_bits n positives (λ k l. bit-or _ _ k ∙ none_or ((valid_by_lines n g vg).positive_below k l) ((valid_by_lines n h vh).positive_below k l))

  wg : valid max_lines g ≡ true
  wg = valid_more n max_lines g few vg

  wh : valid max_lines h ≡ true
  wh = valid_more n max_lines h few vh

  orders_same : apply h (apply g positives) ≡ apply g (apply h positives)
  orders_same = sym (two_run g h positives) ∙ same positives positives_below ∙ two_run h g positives

  swapped_pass : may_pass g h ≡ true
  unfolding may_pass targets_uncontrolled control_lines
  swapped_pass =
      either (eqb (opposing g h) 0)
      (λ e.
      let none = none_opposed g h e in
      let f : fires g positives ≡ true = joined_fires g h positives wg none (bit-or _ _) in
      let d : fires h positives ≡ true = joined_fires h g positives wh (λ k o. none k (opposed_back h g k o)) (λ k. bit-or _ _ k ∙ or_comm (bit g.positive k) (bit h.positive k)) in
      or_left _
      (both
      ((not-eq-not {b = true}).0 (λ t. orders_differ g h wg wh positives f d (control_line h.positive h.negative g.target t) orders_same))
      ((not-eq-not {b = true}).0 (λ t. orders_differ h g wh wg positives d f (control_line g.positive g.negative h.target t) (sym orders_same)))))
      (λ e. or_right (targets_uncontrolled g h) (ap not e))

pub pass_exactly : PassingOf may_pass
pass_exactly n g h few vg vh = (
  (λ e s l. two_run g h s ∙ passing g h (valid_more n max_lines g few vg) (valid_more n max_lines h few vh) e s ∙ sym (two_run h g s)),
  swapped_pass n g h few vg vh,
)

-- ---- other rules

-- what has the law says what this one says
pub passing_only : (rule : Gate → Gate → Bool) → PassingOf rule → (n : ℕ) (g h : Gate) → n ≤ max_lines → valid n g ≡ true → valid n h ≡ true → rule g h ≡ may_pass g h
passing_only rule is n g h few vg vh =
    let theirs = is n g h few vg vh in
    let ours = pass_exactly n g h few vg vh in
    same_test _ _ (λ e. ours.1 (theirs.0 e)) (λ e. theirs.1 (ours.0 e))

-- The match by masks is the match by lines: of every two gates one way, of valid ones the other way. Assumes nothing.
use Rattle.std.proofs.Common.{◌≡◌, ℕ, ◌^◌, Bool, true, false, cond, not, ◌&&◌, ◌||◌, eqb, sym, refl, ap, ◌∙◌, subst, ap₂, arith, eq-eqb, ne_eqb, eqb-true}
use mathlib.Core.Bool.{xor, and_self, and-not_self}
use lib.Bits.{bit_and, bit_or, bit_xor, xor_self, or_self}
use lib.Count.{ones}
use borrow.Author.Tests.{eqb-false, not-true}
use Rattle.bits.specs.Digits.{bit}
use Rattle.bits.proofs.Digits.{bit-and, bit-or, bit-xor, bit_pow, bit_none, bits_equal}
use Rattle.bits.proofs.Single.{ones_zero, single_pow, pow_single}
use Rattle.bits.proofs.Bools.{and_apart, or_none, none_or, or_first, xor_false, xor_same, not_held, refuted, either, table₁, unless₄}
use Rattle.circuit.specs.declared.gate.Gate.{Gate}
use Rattle.circuit.specs.Gate.{max_lines, valid}
use Rattle.circuit.proofs.Promises.{valid_by_lines}
use Rattle.checking.specs.Match.{control_removed, control_inverted, differing, Match, Compared, apart, matched, match_of}
use Rattle.checking.specs.StepLaws.{OneMore, Matches, pair, drop, turn_first, turn_second}
use Rattle.checking.proofs.lemmas.step.Matching.{match_equal, match_opposite, match_longer}
use Rattle.checking.proofs.lemmas.step.OneMore.{at_line}

gate_equal : (g h : Gate) → g.positive ≡ h.positive → g.negative ≡ h.negative → g.target ≡ h.target → g ≡ h
gate_equal g h p q t =
    ap₂ (λ (x y : ℕ). record { positive = x; negative = y; target = g.target }) p q
    ∙ ap (λ (x : ℕ). record { positive = h.positive; negative = h.negative; target = x }) t

-- two gates have the same controls but for line k
pub record AlikeBut (k : ℕ) (g h : Gate) : Type 0 where
  pub positive : (l : ℕ) → (l ≡ k → ⊥) → bit g.positive l ≡ bit h.positive l
  pub negative : (l : ℕ) → (l ≡ k → ⊥) → bit g.negative l ≡ bit h.negative l

-- ---- what the masks are where two gates differ on line k alone

module _ (k : ℕ) (g h : Gate) (a : AlikeBut k g h) where
  abbrev dp : Bool
  dp = xor (bit g.positive k) (bit h.positive k)

  abbrev dn : Bool
  dn = xor (bit g.negative k) (bit h.negative k)

  differ_one : (dp || dn) ≡ true → differing g h ≡ 2 ^ k
  unfolding differing
  differ_one e =
      bits_equal _ _
      (at_line (λ (l : ℕ). bit (bit_or (bit_xor g.positive h.positive) (bit_xor g.negative h.negative)) l ≡ bit (2 ^ k) l) k
      (bit-or _ _ k ∙ ap₂ ◌||◌ (bit-xor _ _ k) (bit-xor _ _ k) ∙ e ∙ sym (bit_pow k k ∙ eq-eqb k k refl))
      (λ l d.
      bit-or _ _ l ∙ ap₂ ◌||◌ (bit-xor _ _ l ∙ xor_same _ _ (a.positive l d)) (bit-xor _ _ l ∙ xor_same _ _ (a.negative l d))
      ∙ sym (bit_pow k l ∙ ne_eqb l k d)))

  masks_same : dp ≡ dn → bit_xor g.positive h.positive ≡ bit_xor g.negative h.negative
  masks_same e =
      bits_equal _ _
      (at_line (λ (l : ℕ). bit (bit_xor g.positive h.positive) l ≡ bit (bit_xor g.negative h.negative) l) k
      (bit-xor _ _ k ∙ e ∙ sym (bit-xor _ _ k))
      (λ l d. bit-xor _ _ l ∙ xor_same _ _ (a.positive l d) ∙ sym (bit-xor _ _ l ∙ xor_same _ _ (a.negative l d))))

  masks_apart : (dp ≡ dn → ⊥) → bit_xor g.positive h.positive ≡ bit_xor g.negative h.negative → ⊥
  masks_apart n e = n (sym (bit-xor _ _ k) ∙ ap (λ (x : ℕ). bit x k) e ∙ bit-xor _ _ k)

  some : (dp || dn) ≡ true → differing g h ≡ 0 → ⊥
  some e z = let o : ones (2 ^ k) ≡ 0 = ap ones (sym (differ_one e) ∙ z) ∙ ones_zero in let p = pow_single k in omega arith

  one : (dp || dn) ≡ true → eqb (ones (differing g h)) 1 ≡ true
  one e = eq-eqb _ _ (ap ones (differ_one e) ∙ pow_single k)

  -- the lines of the gate that remains
  both_and : (p q : ℕ) → (l : ℕ) → bit p l ≡ bit q l → bit (bit_and p q) l ≡ bit q l
  both_and p q l e = bit-and p q l ∙ ap (λ (x : Bool). x && bit q l) e ∙ and_self (bit q l)

  removed_lines : (r : Gate) → AlikeBut k r h → r.target ≡ h.target
      → (bit g.positive k && bit h.positive k) ≡ bit r.positive k → (bit g.negative k && bit h.negative k) ≡ bit r.negative k
      → control_removed g h ≡ r
  unfolding control_removed
  removed_lines r b t p q =
      gate_equal _ r
      (bits_equal _ _ (at_line (λ (l : ℕ). bit (bit_and g.positive h.positive) l ≡ bit r.positive l) k (bit-and _ _ k ∙ p)
      (λ l d. both_and g.positive h.positive l (a.positive l d) ∙ sym (b.positive l d))))
      (bits_equal _ _ (at_line (λ (l : ℕ). bit (bit_and g.negative h.negative) l ≡ bit r.negative l) k (bit-and _ _ k ∙ q)
      (λ l d. both_and g.negative h.negative l (a.negative l d) ∙ sym (b.negative l d))))
      (sym t)

  inverted_lines : (r : Gate) → AlikeBut k r h → r.target ≡ h.target
      → ((bit g.positive k && bit h.positive k) || dn) ≡ bit r.positive k → ((bit g.negative k && bit h.negative k) || dp) ≡ bit r.negative k
      → control_inverted g h ≡ r
  unfolding control_inverted
  inverted_lines r b t p q =
      gate_equal _ r
      (bits_equal _ _ (at_line (λ (l : ℕ). bit (bit_or (bit_and g.positive h.positive) (bit_xor g.negative h.negative)) l ≡ bit r.positive l) k
      (bit-or _ _ k ∙ ap₂ ◌||◌ (bit-and _ _ k) (bit-xor _ _ k) ∙ p)
      (λ l d. bit-or _ _ l ∙ or_first _ (bit-xor _ _ l ∙ xor_same _ _ (a.negative l d)) ∙ both_and g.positive h.positive l (a.positive l d) ∙ sym (b.positive l d))))
      (bits_equal _ _ (at_line (λ (l : ℕ). bit (bit_or (bit_and g.negative h.negative) (bit_xor g.positive h.positive)) l ≡ bit r.negative l) k
      (bit-or _ _ k ∙ ap₂ ◌||◌ (bit-and _ _ k) (bit-xor _ _ k) ∙ q)
      (λ l d. bit-or _ _ l ∙ or_first _ (bit-xor _ _ l ∙ xor_same _ _ (a.positive l d)) ∙ both_and g.negative h.negative l (a.negative l d) ∙ sym (b.negative l d))))
      (sym t)

-- ---- a match by lines is found by masks

more_alike : (g less : Gate) (k : ℕ) (b : Bool) → OneMore g less k b → AlikeBut k g less
more_alike g less k b o = record { positive = o.others_positive; negative = o.others_negative }

alike_back : (k : ℕ) (g h : Gate) → AlikeBut k g h → AlikeBut k h g
alike_back k g h a = record { positive = λ l d. sym (a.positive l d); negative = λ l d. sym (a.negative l d) }

alike_both : (k : ℕ) (g h r : Gate) → AlikeBut k g h → AlikeBut k h r → AlikeBut k g r
alike_both k g h r a b = record { positive = λ l d. a.positive l d ∙ b.positive l d; negative = λ l d. a.negative l d ∙ b.negative l d }

-- on line k: opposite polarities, and one control more
opposite : (b : Bool) → (xor b (not b) || xor (not b) (not (not b))) ≡ true
unfolding xor
opposite = table₁ _ _ refl

opposite_same : (b : Bool) → xor b (not b) ≡ xor (not b) (not (not b))
unfolding xor
opposite_same = table₁ _ _ refl

extra : (b : Bool) → (xor b false || xor (not b) false) ≡ true
unfolding xor
extra = table₁ _ _ refl

extra_apart : (b : Bool) → xor b false ≡ xor (not b) false → ⊥
unfolding xor
extra_apart b e = refuted (xor_same _ _ e) (table₁ (λ b. xor (xor b false) (xor (not b) false)) (λ b. true) refl b)

extra_on : (b : Bool) → ((b && false) || xor (not b) false) ≡ not b
unfolding xor
extra_on = table₁ _ _ refl

extra_off : (b : Bool) → ((not b && false) || xor b false) ≡ not (not b)
unfolding xor
extra_off = table₁ _ _ refl

extra' : (b : Bool) → (xor false b || xor false (not b)) ≡ true
unfolding xor
extra' = table₁ _ _ refl

extra_apart' : (b : Bool) → xor false b ≡ xor false (not b) → ⊥
unfolding xor
extra_apart' b e = refuted (xor_same _ _ e) (table₁ (λ b. xor (xor false b) (xor false (not b))) (λ b. true) refl b)

extra_on' : (b : Bool) → ((false && b) || xor false (not b)) ≡ not b
unfolding xor
extra_on' = table₁ _ _ refl

extra_off' : (b : Bool) → ((false && not b) || xor false b) ≡ not (not b)
unfolding xor
extra_off' = table₁ _ _ refl

-- the four bits of line k, put into a test of them
four : (f : Bool → Bool → Bool → Bool → Bool) {a b c d a' b' c' d' : Bool} → a ≡ a' → b ≡ b' → c ≡ c' → d ≡ d' → f a b c d ≡ f a' b' c' d'
four f {c = c} {d = d} {a' = a'} {b' = b'} p q r s = ap₂ (λ (x y : Bool). f x y c d) p q ∙ ap₂ (f a' b') r s

pub match_found : (g h : Gate) (m : Match) → Matches g h m → match_of g h ≡ matched m
unfolding differing
match_found g h _ (pair t p q) =
    match_equal g h t (ap₂ (λ (x y : ℕ). bit_or (bit_xor x h.positive) (bit_xor y h.negative)) p q ∙ ap₂ bit_or (xor_self h.positive) (xor_self h.negative) ∙ or_self 0)
match_found g h _ (drop r k b o u) =
    let a : AlikeBut k g h = alike_both k g r h (more_alike g r k b o) (alike_back k h r (more_alike h r k (not b) u)) in
    let t : g.target ≡ h.target = o.target ∙ sym u.target in
    let e : (dp k g h a || dn k g h a) ≡ true = four (λ x y z w. xor x y || xor z w) o.on u.on o.off u.off ∙ opposite b in
    match_opposite g h t (some k g h a e) (one k g h a e)
    (masks_same k g h a (ap₂ xor o.on u.on ∙ opposite_same b ∙ sym (ap₂ xor o.off u.off)))
    ∙ ap (λ (x : Gate). matched (Match.drop x))
    (removed_lines k g h a r (alike_back k h r (more_alike h r k (not b) u)) (sym u.target)
    (ap₂ ◌&&◌ o.on u.on ∙ and-not_self b ∙ sym o.none_positive)
    (ap₂ ◌&&◌ o.off u.off ∙ and-not_self (not b) ∙ sym o.none_negative))
match_found g h _ (turn_first r k b o u) =
    let a : AlikeBut k g h = more_alike g h k b o in
    let e : (dp k g h a || dn k g h a) ≡ true = four (λ x y z w. xor x y || xor z w) o.on o.none_positive o.off o.none_negative ∙ extra b in
    match_longer g h o.target (some k g h a e) (one k g h a e)
    (masks_apart k g h a (λ q. extra_apart b (sym (ap₂ xor o.on o.none_positive) ∙ q ∙ ap₂ xor o.off o.none_negative)))
    ∙ ap (λ (x : Gate). matched (Match.turn x))
    (inverted_lines k g h a r (more_alike r h k (not b) u) u.target
    (four (λ x y z w. (x && y) || xor z w) o.on o.none_positive o.off o.none_negative ∙ extra_on b ∙ sym u.on)
    (four (λ x y z w. (x && y) || xor z w) o.off o.none_negative o.on o.none_positive ∙ extra_off b ∙ sym u.off))
match_found g h _ (turn_second r k b o u) =
    let a : AlikeBut k g h = alike_back k h g (more_alike h g k b o) in
    let e : (dp k g h a || dn k g h a) ≡ true = four (λ x y z w. xor x y || xor z w) o.none_positive o.on o.none_negative o.off ∙ extra' b in
    match_longer g h (sym o.target) (some k g h a e) (one k g h a e)
    (masks_apart k g h a (λ q. extra_apart' b (sym (ap₂ xor o.none_positive o.on) ∙ q ∙ ap₂ xor o.none_negative o.off)))
    ∙ ap (λ (x : Gate). matched (Match.turn x))
    (inverted_lines k g h a r (alike_both k r g h (more_alike r g k (not b) u) a) (u.target ∙ sym o.target)
    (four (λ x y z w. (x && y) || xor z w) o.none_positive o.on o.none_negative o.off ∙ extra_on' b ∙ sym u.on)
    (four (λ x y z w. (x && y) || xor z w) o.none_negative o.off o.none_positive o.on ∙ extra_off' b ∙ sym u.off))

-- ---- a match by masks is one by lines, of valid gates

abbrev VerdictRight : Gate → Gate → Compared → Type 0
VerdictRight g h apart = Unit {0}
VerdictRight g h (matched m) = Matches g h m

by_cases : (P : Compared → Type 0) (b c d e : Bool) (m₁ m₂ : Match) → P apart → (b ≡ true → c ≡ true → P (matched Match.pair))
    → (b ≡ true → d ≡ true → e ≡ true → P (matched m₁)) → (b ≡ true → d ≡ true → e ≡ false → P (matched m₂))
    → P (cond b (cond c (matched Match.pair) (cond d (cond e (matched m₁) (matched m₂)) apart)) apart)
by_cases P false c d e m₁ m₂ a p q r = a
by_cases P true true d e m₁ m₂ a p q r = p refl refl
by_cases P true false true true m₁ m₂ a p q r = q refl refl refl
by_cases P true false true false m₁ m₂ a p q r = r refl refl refl
by_cases P true false false e m₁ m₂ a p q r = a

module _ (g h : Gate) where
  line_differs : (l : ℕ) → bit (differing g h) l ≡ (xor (bit g.positive l) (bit h.positive l) || xor (bit g.negative l) (bit h.negative l))
  unfolding differing
  line_differs l = bit-or _ _ l ∙ ap₂ ◌||◌ (bit-xor _ _ l) (bit-xor _ _ l)

  -- no difference, and a difference on line k alone
  pub none_differs : differing g h ≡ 0 → (l : ℕ) → (bit g.positive l ≡ bit h.positive l) × (bit g.negative l ≡ bit h.negative l)
  none_differs z l =
      let (a, b) = or_none _ _ (sym (line_differs l) ∙ ap (λ (x : ℕ). bit x l) z ∙ bit_none l) in
      (xor_false _ _ a, xor_false _ _ b)

  module _ (k : ℕ) (is : differing g h ≡ 2 ^ k) where
    alike : AlikeBut k g h
    alike =
        let at : (l : ℕ) → (l ≡ k → ⊥) → (bit g.positive l ≡ bit h.positive l) × (bit g.negative l ≡ bit h.negative l) =
        λ l d.
        let (a, b) = or_none _ _ (sym (line_differs l) ∙ ap (λ (x : ℕ). bit x l) is ∙ bit_pow k l ∙ ne_eqb l k d) in
        (xor_false _ _ a, xor_false _ _ b) in
        record { positive = λ l d. (at l d).0; negative = λ l d. (at l d).1 }

    here : (dp k g h alike || dn k g h alike) ≡ true
    here = sym (line_differs k) ∙ ap (λ (x : ℕ). bit x k) is ∙ bit_pow k k ∙ eq-eqb k k refl

-- on line k, by the digits gp, gn of the masks of g and hp, hn of those of h: a gate with both polarities, and masks that differ in unlike ways
abbrev clash : Bool → Bool → Bool → Bool → Bool
clash gp gn hp hn = (gn && gp) || (hn && hp)

abbrev unlike : Bool → Bool → Bool → Bool → Bool
unlike gp gn hp hn = xor (xor gp hp) (xor gn hn)

-- where both masks differ the polarities are opposite
opposite_line : (gp gn hp hn : Bool) → clash gp gn hp hn ≡ false → (xor gp hp || xor gn hn) ≡ true → xor gp hp ≡ xor gn hn → (gn ≡ not gp) × (hp ≡ not gp) × (hn ≡ not (not gp))
unfolding xor
opposite_line gp gn hp hn c d s =
    let t : Bool → Bool → Bool → Bool → Bool = λ gp gn hp hn. clash gp gn hp hn || (not (xor gp hp || xor gn hn) || unlike gp gn hp hn) in
    let e : t gp gn hp hn ≡ false = none_or c (none_or (ap not d) (xor_same (xor gp hp) (xor gn hn) s)) in (
      unless₄ t (λ gp gn hp hn. gn) (λ gp gn hp hn. not gp) refl gp gn hp hn e,
      unless₄ t (λ gp gn hp hn. hp) (λ gp gn hp hn. not gp) refl gp gn hp hn e,
      unless₄ t (λ gp gn hp hn. hn) (λ gp gn hp hn. not (not gp)) refl gp gn hp hn e,
    )

-- where one mask differs, one gate has a control there and the other has none
data Longer (gp gn hp hn : Bool) : Type 0 where
  first : (b : Bool) → gp ≡ b → gn ≡ not b → hp ≡ false → hn ≡ false → Longer gp gn hp hn
  second : (b : Bool) → hp ≡ b → hn ≡ not b → gp ≡ false → gn ≡ false → Longer gp gn hp hn

longer_line : (gp gn hp hn : Bool) → clash gp gn hp hn ≡ false → (xor gp hp ≡ xor gn hn → ⊥) → Longer gp gn hp hn
unfolding xor
longer_line gp gn hp hn c s =
    let d : (clash gp gn hp hn || not (unlike gp gn hp hn)) ≡ false = none_or c (not_held _ (λ e. s (xor_false (xor gp hp) (xor gn hn) (not-true _ e)))) in
    let t : Bool → Bool → Bool → Bool → Bool = λ gp gn hp hn. (clash gp gn hp hn || not (unlike gp gn hp hn)) || not (gp || gn) in
    either (gp || gn)
    (λ o.
    let e : t gp gn hp hn ≡ false = none_or d (ap not o) in
    first gp refl (unless₄ t (λ gp gn hp hn. gn) (λ gp gn hp hn. not gp) refl gp gn hp hn e)
    (unless₄ t (λ gp gn hp hn. hp) (λ gp gn hp hn. false) refl gp gn hp hn e)
    (unless₄ t (λ gp gn hp hn. hn) (λ gp gn hp hn. false) refl gp gn hp hn e))
    (λ o.
    let (p, q) = or_none gp gn o in
    second hp refl (unless₄ (λ gp gn hp hn. (clash gp gn hp hn || not (unlike gp gn hp hn)) || (gp || gn)) (λ gp gn hp hn. hn) (λ gp gn hp hn. not hp) refl gp gn hp hn (none_or d o)) p q)

module _ (g h : Gate) (vg : valid max_lines g ≡ true) (vh : valid max_lines h ≡ true) (t : g.target ≡ h.target) (k : ℕ) (is : differing g h ≡ 2 ^ k) where
  abbrev a : AlikeBut k g h
  a = alike g h k is

  no_clash : clash (bit g.positive k) (bit g.negative k) (bit h.positive k) (bit h.negative k) ≡ false
  no_clash =
      none_or (and_apart (bit g.negative k) (bit g.positive k) ((valid_by_lines max_lines g vg).apart k))
      (and_apart (bit h.negative k) (bit h.positive k) ((valid_by_lines max_lines h vh).apart k))

  -- the gate that remains has the lines of h but for line k
  removed_alike : AlikeBut k (control_removed g h) h
  unfolding control_removed
  removed_alike =
      record {
        positive = λ l d. both_and k g h a g.positive h.positive l (a.positive l d);
        negative = λ l d. both_and k g h a g.negative h.negative l (a.negative l d);
      }

  inverted_alike : AlikeBut k (control_inverted g h) h
  unfolding control_inverted
  inverted_alike =
      record {
        positive = λ l d. bit-or _ _ l ∙ or_first _ (bit-xor _ _ l ∙ xor_same _ _ (a.negative l d)) ∙ both_and k g h a g.positive h.positive l (a.positive l d);
        negative = λ l d. bit-or _ _ l ∙ or_first _ (bit-xor _ _ l ∙ xor_same _ _ (a.positive l d)) ∙ both_and k g h a g.negative h.negative l (a.negative l d);
      }

  one_more : (r less : Gate) (b : Bool) → AlikeBut k r less → r.target ≡ less.target → bit r.positive k ≡ b → bit r.negative k ≡ not b
      → bit less.positive k ≡ false → bit less.negative k ≡ false → OneMore r less k b
  one_more r less b al tt p q u v =
      record { target = tt; on = p; off = q; none_positive = u; none_negative = v; others_positive = al.positive; others_negative = al.negative }

  removes : bit_xor g.positive h.positive ≡ bit_xor g.negative h.negative → Matches g h (Match.drop (control_removed g h))
  unfolding control_removed
  removes e =
      let r = control_removed g h in
      let (q, u, v) = opposite_line _ (bit g.negative k) _ (bit h.negative k) no_clash (here g h k is) (sym (bit-xor _ _ k) ∙ ap (λ (x : ℕ). bit x k) e ∙ bit-xor _ _ k) in
      let b = bit g.positive k in
      let x : bit r.positive k ≡ false = bit-and _ _ k ∙ ap (λ (t : Bool). b && t) u ∙ and-not_self b in
      let y : bit r.negative k ≡ false = bit-and _ _ k ∙ ap₂ ◌&&◌ q v ∙ and-not_self (not b) in
      let ah : AlikeBut k h r = alike_back k r h removed_alike in
      drop r k b (one_more g r b (alike_both k g h r a ah) t refl q x y) (one_more h r (not b) ah refl u v x y)

  inverts : (bit_xor g.positive h.positive ≡ bit_xor g.negative h.negative → ⊥) → Matches g h (Match.turn (control_inverted g h))
  unfolding control_inverted
  inverts n =
      go (longer_line _ _ _ _ no_clash (λ e. n (masks_same k g h a e)))
    where
      go : Longer (bit g.positive k) (bit g.negative k) (bit h.positive k) (bit h.negative k) → Matches g h (Match.turn (control_inverted g h))
      go (first b p q u v) =
          let r = control_inverted g h in
          let x : bit r.positive k ≡ not b = bit-or _ _ k ∙ ap₂ ◌||◌ (bit-and _ _ k) (bit-xor _ _ k) ∙ four (λ x y z w. (x && y) || xor z w) p u q v ∙ extra_on b in
          let y : bit r.negative k ≡ not (not b) = bit-or _ _ k ∙ ap₂ ◌||◌ (bit-and _ _ k) (bit-xor _ _ k) ∙ four (λ x y z w. (x && y) || xor z w) q v p u ∙ extra_off b in
          turn_first r k b (one_more g h b a t p q u v) (one_more r h (not b) inverted_alike refl x y u v)
      go (second b p q u v) =
          let r = control_inverted g h in
          let x : bit r.positive k ≡ not b = bit-or _ _ k ∙ ap₂ ◌||◌ (bit-and _ _ k) (bit-xor _ _ k) ∙ four (λ x y z w. (x && y) || xor z w) u p v q ∙ extra_on' b in
          let y : bit r.negative k ≡ not (not b) = bit-or _ _ k ∙ ap₂ ◌||◌ (bit-and _ _ k) (bit-xor _ _ k) ∙ four (λ x y z w. (x && y) || xor z w) v q u p ∙ extra_off' b in
          turn_second r k b (one_more h g b (alike_back k g h a) (sym t) p q u v)
          (one_more r g (not b) (alike_both k r h g inverted_alike (alike_back k g h a)) (sym t) x y u v)

verdict_right : (g h : Gate) → valid max_lines g ≡ true → valid max_lines h ≡ true → VerdictRight g h (match_of g h)
unfolding match_of
verdict_right g h vg vh =
    by_cases (VerdictRight g h) (eqb g.target h.target) (eqb (differing g h) 0) (eqb (ones (differing g h)) 1)
    (eqb (bit_xor g.positive h.positive) (bit_xor g.negative h.negative)) (Match.drop (control_removed g h)) (Match.turn (control_inverted g h)) tt
    (λ t z.
    let n = none_differs g h (eqb-true _ _ z) in
    pair (eqb-true _ _ t) (bits_equal _ _ (λ l. (n l).0)) (bits_equal _ _ (λ l. (n l).1)))
    (λ t o e. let (k, is) = single_pow (differing g h) (eqb-true _ _ o) in removes g h vg vh (eqb-true _ _ t) k is (eqb-true _ _ e))
    (λ t o e. let (k, is) = single_pow (differing g h) (eqb-true _ _ o) in inverts g h vg vh (eqb-true _ _ t) k is (eqb-false _ _ e))

-- exactly the matches by lines are found
pub found_match : (g h : Gate) (m : Match) → valid max_lines g ≡ true → valid max_lines h ≡ true → match_of g h ≡ matched m → Matches g h m
found_match g h m vg vh e = subst (VerdictRight g h) e (verdict_right g h vg vh)

-- at most one match holds of two gates
pub match_unique : (g h : Gate) (m o : Match) → Matches g h m → Matches g h o → m ≡ o
match_unique g h m o a b = let e : matched m ≡ matched o = sym (match_found g h m a) ∙ match_found g h o b in cc

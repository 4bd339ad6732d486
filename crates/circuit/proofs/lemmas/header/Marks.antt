-- The marks of a header: what its tests say by lines, and what they are without marks. Assumes nothing.
use Rattle.std.proofs.Common.{◌≡◌, ℕ, ◌^◌, ◌<◌, Bool, true, false, ◌&&◌, ◌||◌, eqb, ltb, leb, ◌↔◌, sym, ap, ◌∙◌, ap₂, arith, ltb-true, lt-ltb, eq-eqb, eqb-true, leb-false, leb-true, pow_pos}
use borrow.Author.Tests.{eqb-false}
use mathlib.Core.Bool.{and_comm, and-true, and-false, or-false, not, not-not}
use lib.Bits.{bit_and, bit_or, bit_xor, and_zero_r, or_zero_r}
use Rattle.bits.specs.Digits.{bit}
use Rattle.bits.proofs.Bools.{and_parts, both, not_held, refuted, either, and_within, or_right, xor_same, xor_false}
use Rattle.bits.proofs.Digits.{bit-and, bit-or, bit-xor, bit_none, bit_some, bits_equal, bit_above, below_of_bits}
use Rattle.circuit.specs.declared.header.Header.{Header}
use Rattle.circuit.specs.Header.{unmarked, marks_good, marked, same_marks, permits, alike, MarksByLines, Permitted, LineCounts}

-- ---- the tests of two masks by lines

-- a mask is below 2 ^ n exactly where each of its lines is below n
pub below_lines : (n x : ℕ) → x < 2 ^ n → (k : ℕ) → bit x k ≡ true → k < n
below_lines n x h k e = either (leb n k) (λ t. absurd (refuted (bit_above n x k h (leb-true n k t)) e)) (λ t. leb-false n k t)

pub lines_below : (n x : ℕ) → ((k : ℕ) → bit x k ≡ true → k < n) → x < 2 ^ n
lines_below n x f = below_of_bits n x (λ k l. not_held (bit x k) (λ e. let h = f k e in omega arith))

-- a mask lies within another one
pub within_lines : (v c : ℕ) → bit_and v c ≡ v → (k : ℕ) → bit v k ≡ true → bit c k ≡ true
within_lines v c e k t = (and_parts (bit v k) (bit c k) (sym (bit-and v c k) ∙ ap (λ (x : ℕ). bit x k) e ∙ t)).1

pub lines_within : (v c : ℕ) → ((k : ℕ) → bit v k ≡ true → bit c k ≡ true) → bit_and v c ≡ v
lines_within v c f = bits_equal _ _ (λ k. bit-and v c k ∙ and_comm (bit v k) (bit c k) ∙ and_within (bit c k) (bit v k) (f k))

-- ---- good marks

-- the tests as facts
pub marks_facts : (h : Header) → marks_good h ≡ true → (h.constants < 2 ^ h.lines) × (h.junk < 2 ^ h.lines) × (bit_and h.values h.constants ≡ h.values)
unfolding marks_good
marks_facts h e =
    let (a, f) = and_parts (ltb h.constants (2 ^ h.lines)) _ e in
    let (b, c) = and_parts (ltb h.junk (2 ^ h.lines)) _ f in
    (ltb-true _ _ a, ltb-true _ _ b, eqb-true _ _ c)

pub facts_marks : (h : Header) → h.constants < 2 ^ h.lines → h.junk < 2 ^ h.lines → bit_and h.values h.constants ≡ h.values → marks_good h ≡ true
unfolding marks_good
facts_marks h a b c = both (lt-ltb _ _ a) (both (lt-ltb _ _ b) (eq-eqb _ _ c))

pub marks_lines : (h : Header) → marks_good h ≡ true → MarksByLines h
marks_lines h e =
    let (a, b, c) = marks_facts h e in
    record { constants_below = below_lines h.lines h.constants a; junk_below = below_lines h.lines h.junk b; values_constant = within_lines h.values h.constants c }

pub lines_marks : (h : Header) → MarksByLines h → marks_good h ≡ true
lines_marks h m = facts_marks h (lines_below h.lines h.constants m.constants_below) (lines_below h.lines h.junk m.junk_below) (lines_within h.values h.constants m.values_constant)

-- ---- permitted states

module _ (h : Header) (x : ℕ) where
  pub permits_lines : permits h x ≡ true → Permitted h x
  unfolding permits
  permits_lines e =
      let (a, b) = and_parts (ltb x (2 ^ h.lines)) _ e in
      record {
        state = ltb-true _ _ a;
        constants = λ k c.
            sym (ap (λ (t : Bool). bit x k && t) c ∙ and-true (bit x k)) ∙ sym (bit-and x h.constants k) ∙ ap (λ (y : ℕ). bit y k) (eqb-true _ _ b);
      }

  pub lines_permit : marks_good h ≡ true → Permitted h x → permits h x ≡ true
  unfolding permits
  lines_permit good p = both (lt-ltb _ _ p.state) (eq-eqb _ _ (bits_equal _ _ (λ k. bit-and x h.constants k ∙ digit k)))
    where
      digit : (k : ℕ) → (bit x k && bit h.constants k) ≡ bit h.values k
      digit k =
          either (bit h.constants k)
          (λ c. ap (λ (t : Bool). bit x k && t) c ∙ and-true (bit x k) ∙ p.constants k c)
          (λ c.
          ap (λ (t : Bool). bit x k && t) c ∙ and-false (bit x k)
          ∙ sym (not_held (bit h.values k) (λ v. refuted c ((marks_lines h good).values_constant k v))))

-- a state that is not permitted is 2 ^ n or more, or breaks a constant
pub permits_exactly : (h : Header) (x : ℕ) → marks_good h ≡ true → (permits h x ≡ true) ↔ Permitted h x
permits_exactly h x good = (permits_lines h x, lines_permit h x good)

pub not_permitted : (h : Header) (x : ℕ) → marks_good h ≡ true → (permits h x ≡ false) ↔ (Permitted h x → ⊥)
not_permitted h x good = (
  (λ e p. refuted e (lines_permit h x good p)),
  (λ f. not_held (permits h x) (λ e. f (permits_lines h x e))),
)

-- ---- states that are alike

module _ (h : Header) (s t : ℕ) where
  pub alike_lines : alike h s t ≡ true → (k : ℕ) → LineCounts h k → bit s k ≡ bit t k
  unfolding alike
  alike_lines e k c =
      let same : bit_or s h.junk ≡ bit_or t h.junk = eqb-true _ _ e in
      sym (kept s) ∙ ap (λ (y : ℕ). bit y k) same ∙ kept t
    where
      kept : (y : ℕ) → bit (bit_or y h.junk) k ≡ bit y k
      kept y = bit-or y h.junk k ∙ ap (λ (b : Bool). bit y k || b) c.kept ∙ or-false (bit y k)

  module _ (hs : s < 2 ^ h.lines) (ht : t < 2 ^ h.lines) where
    pub lines_alike : ((k : ℕ) → LineCounts h k → bit s k ≡ bit t k) → alike h s t ≡ true
    unfolding alike
    lines_alike f = eq-eqb _ _ (bits_equal _ _ (λ k. bit-or s h.junk k ∙ digit k ∙ sym (bit-or t h.junk k)))
      where
        digit : (k : ℕ) → (bit s k || bit h.junk k) ≡ (bit t k || bit h.junk k)
        digit k =
            either (bit h.junk k)
            (λ j. or_right (bit s k) j ∙ sym (or_right (bit t k) j))
            (λ j.
            ap (λ (b : Bool). b || bit h.junk k)
            (either (leb h.lines k)
            (λ l. bit_above h.lines s k hs (leb-true _ _ l) ∙ sym (bit_above h.lines t k ht (leb-true _ _ l)))
            (λ l. f k (record { below = leb-false _ _ l; kept = j }))))

    -- two states that are not alike differ on a line that counts
    pub unlike_line : alike h s t ≡ false → (k : ℕ) × LineCounts h k × (bit s k ≡ bit t k → ⊥)
    unfolding alike
    unlike_line e =
        let d : ℕ = bit_xor (bit_or s h.junk) (bit_or t h.junk) in
        let (k, q) = bit_some d (λ z. eqb-false _ _ e (bits_equal _ _ (λ i. xor_false _ _ (sym (bit-xor (bit_or s h.junk) (bit_or t h.junk) i) ∙ ap (λ (y : ℕ). bit y i) z ∙ bit_none i)))) in
        let apart : (bit s k || bit h.junk k) ≡ (bit t k || bit h.junk k) → ⊥ =
        λ same. refuted (bit-xor (bit_or s h.junk) (bit_or t h.junk) k ∙ xor_same _ _ (bit-or s h.junk k ∙ same ∙ sym (bit-or t h.junk k))) q in
        let kept : bit h.junk k ≡ false = not_held (bit h.junk k) (λ j. apart (or_right (bit s k) j ∙ sym (or_right (bit t k) j))) in (
          k,
          record {
            below = either (leb h.lines k)
                (λ l. absurd (apart (ap (λ (b : Bool). b || bit h.junk k) (bit_above h.lines s k hs (leb-true _ _ l) ∙ sym (bit_above h.lines t k ht (leb-true _ _ l))))))
                (λ l. leb-false _ _ l);
            kept = kept;
          },
          (λ same. apart (ap (λ (b : Bool). b || bit h.junk k) same)),
        )

-- ---- without marks

pub unmarked_good : (n : ℕ) → marks_good (unmarked n) ≡ true
unmarked_good n = facts_marks (unmarked n) (pow_pos n) (pow_pos n) (and_zero_r 0)

-- good marks that are none are those of no marks
pub unmarked_header : (h : Header) → marks_good h ≡ true → marked h ≡ false → h ≡ unmarked h.lines
unmarked_header h good e =
    let both_none : (eqb h.constants 0 && eqb h.junk 0) ≡ true = sym (not-not _) ∙ ap not e in
    let (a, b) = and_parts (eqb h.constants 0) (eqb h.junk 0) both_none in
    let constants : h.constants ≡ 0 = eqb-true _ _ a in
    let junk : h.junk ≡ 0 = eqb-true _ _ b in
    let values : h.values ≡ 0 = sym (marks_facts h good).2 ∙ ap (bit_and h.values) constants ∙ and_zero_r h.values in
    ap (λ (c : ℕ). record { lines = h.lines; constants = c; values = h.values; junk = h.junk }) constants
    ∙ ap (λ (v : ℕ). record { lines = h.lines; constants = 0; values = v; junk = h.junk }) values
    ∙ ap (λ (j : ℕ). record { lines = h.lines; constants = 0; values = 0; junk = j }) junk

pub unmarked_permits : (n x : ℕ) → permits (unmarked n) x ≡ ltb x (2 ^ n)
unfolding permits
unmarked_permits n x = ap (λ (b : Bool). ltb x (2 ^ n) && b) (eq-eqb _ _ (and_zero_r x)) ∙ and-true (ltb x (2 ^ n))

pub unmarked_state : (n x : ℕ) → x < 2 ^ n → Permitted (unmarked n) x
unmarked_state n x l = record { state = l; constants = λ k c. absurd (refuted (bit_none k) c) }

pub unmarked_line : (n k : ℕ) → k < n → LineCounts (unmarked n) k
unmarked_line n k l = record { below = l; kept = bit_none k }

pub unmarked_alike : (n s t : ℕ) → alike (unmarked n) s t ≡ eqb s t
unfolding alike
unmarked_alike n s t = ap₂ eqb (or_zero_r s) (or_zero_r t)

-- ---- two headers

pub same_header : (h k : Header) → h.lines ≡ k.lines → same_marks h k ≡ true → h ≡ k
same_header h k l e =
    let (a, f) = and_parts (eqb h.constants k.constants) _ e in
    let (b, c) = and_parts (eqb h.values k.values) _ f in
    ap (λ (n : ℕ). record { lines = n; constants = h.constants; values = h.values; junk = h.junk }) l
    ∙ ap (λ (m : ℕ). record { lines = k.lines; constants = m; values = h.values; junk = h.junk }) (eqb-true _ _ a)
    ∙ ap (λ (m : ℕ). record { lines = k.lines; constants = k.constants; values = m; junk = h.junk }) (eqb-true _ _ b)
    ∙ ap (λ (m : ℕ). record { lines = k.lines; constants = k.constants; values = k.values; junk = m }) (eqb-true _ _ c)

pub header_same : (h k : Header) → h ≡ k → same_marks h k ≡ true
header_same h k e =
    both (eq-eqb _ _ (ap (λ (x : Header). x.constants) e)) (both (eq-eqb _ _ (ap (λ (x : Header). x.values) e)) (eq-eqb _ _ (ap (λ (x : Header). x.junk) e)))

-- The laws of the tests of a caller's header and words: of a cascade, and of two. Assumes nothing.
use Rattle.std.proofs.Common.{◌≡◌, ℕ, Bool, true, false, eqb, ◌↔◌, List, sym, ap, ◌∙◌, ap₂, subst, eq-eqb, ne_eqb, eqb-true}
use borrow.Author.Tests.{eqb-false}
use Rattle.bits.proofs.Bools.{either, not_held, refuted}
use Rattle.circuit.specs.declared.header.Header.{Header}
use Rattle.circuit.specs.declared.words.Counts.{Counts}
use Rattle.circuit.specs.Gate.{max_gates}
use Rattle.circuit.specs.Header.{unmarked, marks_good, same_marks}
use Rattle.circuit.specs.Outcome.{Outcome, served, refused, demand, and_then, Wrong, Fails}
use Rattle.circuit.specs.Refusal.{bad_line_count, line_counts_differ, bad_mark, marks_differ}
use Rattle.circuit.specs.Words.{line_count_good, check_outcome, pair_outcome, headed_outcome, Headed, HeadedRefused, bad_lines, bad_marks, bad_words, headed_pair_outcome, HeadedPair, HeadersDiffer, other_lines, other_marks, HeadedPairRefused}
use Rattle.circuit.proofs.lemmas.Outcome.{never, unserved, demand_met, demand_failed, demanded, then_both, wrong_refused, fails_refused, same_refusal, last_failed}
use Rattle.circuit.proofs.lemmas.words.Tests.{lines_good, good_lines, check_lines, check_gates, check_served, served_check, check_refused, refused_check}
use Rattle.circuit.proofs.lemmas.header.Marks.{marks_lines, lines_marks, unmarked_good, same_header, header_same}

-- ---- one cascade

module _ (h : Header) (ws : List ℕ) (limit : ℕ) where
  pub headed_lines : line_count_good h.lines ≡ false → headed_outcome h ws limit ≡ refused bad_line_count 0
  unfolding headed_outcome
  headed_lines e = demand_failed _ _ _ _ e

  pub headed_marks : line_count_good h.lines ≡ true → marks_good h ≡ false → headed_outcome h ws limit ≡ refused bad_mark 0
  unfolding headed_outcome
  headed_marks l e = demand_met _ _ _ _ l ∙ demand_failed _ _ _ _ e

  -- with good marks, the test is that of the words
  pub headed_words : marks_good h ≡ true → headed_outcome h ws limit ≡ check_outcome h.lines ws limit
  unfolding headed_outcome
  headed_words m =
      either (line_count_good h.lines)
      (λ l. demand_met _ _ _ _ l ∙ demand_met _ _ _ _ m ∙ sym (check_gates h.lines ws limit l))
      (λ l. demand_failed _ _ _ _ l ∙ sym (check_lines h.lines ws limit l))

  pub headed_served : (k : ℕ) → headed_outcome h ws limit ≡ served k → Headed h ws limit k
  headed_served k e =
      either (marks_good h)
      (λ m. record { marks = m; cascade = check_served h.lines ws limit k (sym (headed_words m) ∙ e) })
      (λ m.
      either (line_count_good h.lines)
      (λ l. absurd (never e (headed_marks l m)))
      (λ l. absurd (never e (headed_lines l))))

  pub served_headed : (k : ℕ) → Headed h ws limit k → headed_outcome h ws limit ≡ served k
  served_headed k c = headed_words c.marks ∙ served_check h.lines ws limit k c.cascade

  pub headed_refused : (number place : ℕ) → headed_outcome h ws limit ≡ refused number place → HeadedRefused h ws limit number place
  headed_refused number place e =
      either (line_count_good h.lines)
      (λ l.
      let (low, high) = lines_good h.lines l in
      either (marks_good h)
      (λ m. bad_words (marks_lines h m) number place low high (check_refused h.lines ws limit number place (sym (headed_words m) ∙ e)))
      (λ m. same_refusal (HeadedRefused h ws limit) (sym (headed_marks l m) ∙ e) (bad_marks low high (λ by. refuted m (lines_marks h by)))))
      (λ l. same_refusal (HeadedRefused h ws limit) (sym (headed_lines l) ∙ e) (bad_lines (λ low high. refuted l (good_lines h.lines low high))))

  pub refused_headed : (number place : ℕ) → HeadedRefused h ws limit number place → headed_outcome h ws limit ≡ refused number place
  refused_headed number place (bad_lines f) = headed_lines (not_held _ (λ e. let (a, b) = lines_good h.lines e in f a b))
  refused_headed number place (bad_marks low high f) = headed_marks (good_lines h.lines low high) (not_held _ (λ e. f (marks_lines h e)))
  refused_headed number place (bad_words by x y low high w) = headed_words (lines_marks h by) ∙ refused_check h.lines ws limit number place w

  pub headed_exactly : (number place : ℕ) → (headed_outcome h ws limit ≡ refused number place) ↔ HeadedRefused h ws limit number place
  headed_exactly number place = (headed_refused number place, refused_headed number place)

-- without marks it is the test of before
pub unmarked_outcome : (n : ℕ) (ws : List ℕ) (limit : ℕ) → headed_outcome (unmarked n) ws limit ≡ check_outcome n ws limit
unmarked_outcome n ws limit = headed_words (unmarked n) ws limit (unmarked_good n)

-- a call that tests a header and words, and then one thing more
pub headed_wrong : (h : Header) (ws : List ℕ) (limit : ℕ) {B : Type 0} (test : Bool) (number place : ℕ) (value : ℕ → B) (Bad : Type 0) → (test ≡ false) ↔ Bad
    → (x y : ℕ) → (and_then (headed_outcome h ws limit) (λ k. demand test number place (served (value k))) ≡ refused x y)
    ↔ Wrong (HeadedRefused h ws limit) (Headed h ws limit) (λ k. Fails Bad number place) x y
headed_wrong h ws limit test number place value Bad is =
    wrong_refused (headed_outcome h ws limit) _ _ _ _ (headed_exactly h ws limit)
    (λ k. (headed_served h ws limit k, served_headed h ws limit k)) (λ k c. fails_refused test number place (value k) Bad is)

-- ---- two cascades

-- the tests of both headers, after those of each cascade
module _ {A : Type 0} (ha hb : Header) (value : A) where
  abbrev headers : Outcome A
  headers = demand (eqb ha.lines hb.lines) line_counts_differ 0 (demand (same_marks ha hb) marks_differ 0 (served value))

  pub headers_same : (a : A) → headers ≡ served a → (ha ≡ hb) × (value ≡ a)
  headers_same a e =
      let (l, f) = demanded (eqb ha.lines hb.lines) line_counts_differ 0 _ a e in
      let (m, g) = demanded (same_marks ha hb) marks_differ 0 _ a f in
      (same_header ha hb (eqb-true _ _ l) m, unserved g)

  pub same_headers : ha ≡ hb → headers ≡ served value
  same_headers e = demand_met _ _ _ _ (eq-eqb _ _ (ap (λ (x : Header). x.lines) e)) ∙ demand_met _ _ _ _ (header_same ha hb e)

  pub headers_refused : (x y : ℕ) → (headers ≡ refused x y) ↔ HeadersDiffer ha hb x y
  headers_refused x y = (told_differ, differ_told x y)
    where
      told_differ : headers ≡ refused x y → HeadersDiffer ha hb x y
      told_differ e =
          either (eqb ha.lines hb.lines)
          (λ l.
          last_failed (HeadersDiffer ha hb) (same_marks ha hb) marks_differ 0 value
          (λ m. other_marks (eqb-true _ _ l) (λ same. refuted m (header_same ha hb same))) x y (sym (demand_met _ _ _ _ l) ∙ e))
          (λ l. same_refusal (HeadersDiffer ha hb) (sym (demand_failed _ _ _ _ l) ∙ e) (other_lines (eqb-false _ _ l)))

      differ_told : (x y : ℕ) → HeadersDiffer ha hb x y → headers ≡ refused x y
      differ_told _ _ (other_lines d) = demand_failed _ _ _ _ (ne_eqb _ _ d)
      differ_told _ _ (other_marks l d) = demand_met _ _ _ _ (eq-eqb _ _ l) ∙ demand_failed _ _ _ _ (not_held _ (λ m. d (same_header ha hb l m)))

module _ (ha : Header) (a : List ℕ) (hb : Header) (b : List ℕ) where
  pub headed_pair_served : (c : Counts) → headed_pair_outcome ha a hb b ≡ served c → HeadedPair ha a hb b c
  unfolding headed_pair_outcome
  headed_pair_served c e =
      let (k, p, f) = then_both (headed_outcome ha a max_gates) _ c e in
      let (m, q, g) = then_both (headed_outcome hb b max_gates) _ c f in
      let (same, d) = headers_same ha hb (record { first = k; second = m }) c g in
      subst (HeadedPair ha a hb b) d (record { first_good = headed_served ha a max_gates k p; second_good = headed_served hb b max_gates m q; header = same })

  pub served_headed_pair : (c : Counts) → HeadedPair ha a hb b c → headed_pair_outcome ha a hb b ≡ served c
  unfolding headed_pair_outcome
  served_headed_pair c g =
      ap (λ (o : Outcome ℕ). and_then o (λ k. and_then (headed_outcome hb b max_gates) (λ m. headers ha hb (record { first = k; second = m })))) (served_headed ha a max_gates c.first g.first_good)
      ∙ ap (λ (o : Outcome ℕ). and_then o (λ m. headers ha hb (record { first = c.first; second = m }))) (served_headed hb b max_gates c.second g.second_good)
      ∙ same_headers ha hb (record { first = c.first; second = c.second }) g.header

  pub headed_pair_refused : (x y : ℕ) → (headed_pair_outcome ha a hb b ≡ refused x y) ↔ HeadedPairRefused ha a hb b x y
  unfolding headed_pair_outcome
  headed_pair_refused =
      wrong_refused (headed_outcome ha a max_gates) _ _ _ _ (headed_exactly ha a max_gates)
      (λ k. (headed_served ha a max_gates k, served_headed ha a max_gates k)) (λ k c.
      wrong_refused (headed_outcome hb b max_gates) _ _ _ _ (headed_exactly hb b max_gates)
      (λ m. (headed_served hb b max_gates m, served_headed hb b max_gates m)) (λ m d. headers_refused ha hb (record { first = k; second = m })))

  -- a call that tests two cascades and then one thing more
  pub headed_pair_wrong : {B : Type 0} (test : Bool) (number place : ℕ) (value : Counts → B) (Bad : Type 0) → (test ≡ false) ↔ Bad
      → (x y : ℕ) → (and_then (headed_pair_outcome ha a hb b) (λ c. demand test number place (served (value c))) ≡ refused x y)
      ↔ Wrong (HeadedPairRefused ha a hb b) (HeadedPair ha a hb b) (λ c. Fails Bad number place) x y
  headed_pair_wrong test number place value Bad is =
      wrong_refused (headed_pair_outcome ha a hb b) _ _ _ _ headed_pair_refused (λ c. (headed_pair_served c, served_headed_pair c))
      (λ c g. fails_refused test number place (value c) Bad is)

-- without marks it is the test of before
pub unmarked_pair : (na : ℕ) (a : List ℕ) (nb : ℕ) (b : List ℕ) → headed_pair_outcome (unmarked na) a (unmarked nb) b ≡ pair_outcome na a nb b
unfolding headed_pair_outcome pair_outcome
unmarked_pair na a nb b =
    ap₂ (λ (o p : Outcome ℕ). and_then o (λ k. and_then p (λ m. headers (unmarked na) (unmarked nb) (record { first = k; second = m }))))
    (unmarked_outcome na a max_gates) (unmarked_outcome nb b max_gates)

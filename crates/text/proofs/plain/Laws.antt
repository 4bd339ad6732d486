-- The clauses of one record as OR clauses alone: their texts and how long these are. Assumes nothing.
use mathlib.Core.Path.{◌≡◌, refl, sym, ap, ap₂, subst, ◌∙◌}
use mathlib.Core.List.{List, [], ◌∷◌, ◌++◌, append-nil, append_assoc}
use Prim.Native.Nat.{ℕ, zero, suc, ◌+◌, ◌*◌, ◌≤◌, ◌<◌}
use native.Mathlib.Omega.{arith}
use lib.IntN.{ℤ, pos, negsuc, neg_ℤ, ◌-ℤ◌, +ℤ_idl}
use lib.ListN.{length, drop, get_or, length-append}
use mir.Val.{SFits, to_z, of_z}
use Rattle.checking.specs.Clauses.{Clause, OR, XOR, max_variables}
use Rattle.checking.specs.Satisfaction.{variable_of, LiteralsWithin, clause_literals, ClausesWithin}
use Rattle.checking.specs.Stored.{word_width, word_limit, stored_clause, stored}
use Rattle.checking.proofs.Promises.{stored_next}
use Rattle.text.specs.Dimacs.{blank, literal_text, literals_text, body_text, closing, clause_text, clauses_text}
use Rattle.text.specs.Plain.{negations, plain_clause, plain_clauses}
use Rattle.text.specs.Compare.{max_list}
use Rattle.text.specs.private.Words.{plain_record, TwoOrThree, ShortRecord, ShortClause, AllShort, Plainable}
use Rattle.text.proofs.Decimal.{decimal_few}
use Rattle.text.proofs.Sizes.{literals_few, body_few}
use Rattle.text.proofs.plain.Xors.{xors, xors_append}
use Rattle.text.proofs.dimacs.Signed.{word_is}
use Rattle.text.proofs.dimacs.Loops.{literals_next, literals_end, body_some}

-- ---- the opposite literal

opposite_fits : (z : ℤ) → variable_of z < word_limit → SFits word_width (neg_ℤ z)
opposite_fits (pos zero) h = record { sfits = omega arith }
opposite_fits (pos (suc v)) h = record { sfits = omega arith }
opposite_fits (negsuc i) h = record { sfits = omega arith }

-- as it is passed on
pub opposite_is : (z : ℤ) → variable_of z < word_limit → to_z word_width (of_z word_width (pos 0 -ℤ z)) ≡ neg_ℤ z
opposite_is z h = ap (λ (x : ℤ). to_z word_width (of_z word_width x)) (+ℤ_idl (neg_ℤ z)) ∙ word_is (neg_ℤ z) (opposite_fits z h)

-- ---- one record

-- the code's test of a kind word
pub xor_kind : (z : ℤ) → SFits word_width z → of_z word_width z ≡ 1 → z ≡ pos 1
xor_kind z f h = sym (word_is z f) ∙ ap (to_z word_width) h

pub or_record : (z : ℤ) (ls : List ℤ) → (of_z word_width z ≡ 1 → ⊥) → plain_record z ls ≡ OR ls ∷ []
or_record (pos zero) ls h = refl
or_record (pos (suc zero)) ls h = absurd (h refl)
or_record (pos (suc (suc k))) ls h = refl
or_record (negsuc i) ls h = refl

pub or_text : (ls : List ℤ) → clauses_text (OR ls ∷ []) ≡ body_text ls ++ closing
unfolding clauses_text
or_text ls = append-nil (body_text ls ++ closing)

-- the places of literals
abbrev pub at_place : List ℤ → ℕ → ℤ
at_place ls i = get_or ls i (pos 0)

two_shape : (ls : List ℤ) → length ls ≡ 2 → ls ≡ at_place ls 0 ∷ at_place ls 1 ∷ []
two_shape [] e = absurd (omega arith)
two_shape (a ∷ []) e = absurd (omega arith)
two_shape (a ∷ b ∷ []) e = refl
two_shape (a ∷ b ∷ c ∷ ls) e = absurd (omega arith)

three_shape : (ls : List ℤ) → TwoOrThree ls → (length ls ≡ 2 → ⊥) → ls ≡ at_place ls 0 ∷ at_place ls 1 ∷ at_place ls 2 ∷ []
three_shape [] t e = absurd t
three_shape (a ∷ []) t e = absurd t
three_shape (a ∷ b ∷ []) t e = absurd (e refl)
three_shape (a ∷ b ∷ c ∷ []) t e = refl
three_shape (a ∷ b ∷ c ∷ d ∷ ls) t e = absurd t

-- an XOR of two literals, and of three
pub record Two (z : ℤ) (ls : List ℤ) : Type 0 where
  pub record_is : plain_record z ls ≡ plain_clause (XOR (at_place ls 0 ∷ at_place ls 1 ∷ []))
  pub long : length ls ≡ 2
  pub first : variable_of (at_place ls 0) ≤ max_variables
  pub second : variable_of (at_place ls 1) ≤ max_variables

pub record Three (z : ℤ) (ls : List ℤ) : Type 0 where
  pub record_is : plain_record z ls ≡ plain_clause (XOR (at_place ls 0 ∷ at_place ls 1 ∷ at_place ls 2 ∷ []))
  pub long : length ls ≡ 3
  pub first : variable_of (at_place ls 0) ≤ max_variables
  pub second : variable_of (at_place ls 1) ≤ max_variables
  pub third : variable_of (at_place ls 2) ≤ max_variables

-- a literal of a clause list fits a word
pub small_fits : (z : ℤ) → variable_of z ≤ max_variables → SFits word_width z
small_fits (pos v) h = record { sfits = omega arith }
small_fits (negsuc i) h = record { sfits = omega arith }

pub small_word : (z : ℤ) → variable_of z ≤ max_variables → to_z word_width (of_z word_width z) ≡ z
small_word z h = word_is z (small_fits z h)

pub small_size : (z : ℤ) → variable_of z ≤ max_variables → variable_of (to_z word_width (of_z word_width z)) < word_limit
small_size z h = omega (arith, ap variable_of (small_word z h))

module _ (z : ℤ) (ls : List ℤ) (p : Plainable z ls) (e : z ≡ pos 1) where
  pub two_literals : length ls ≡ 2 → Two z ls
  two_literals h =
      let s = two_shape ls h in
      let w = subst (LiteralsWithin max_variables) s p.within in
      record { record_is = ap₂ plain_record e s; long = h; first = w.0.1; second = w.1.0.1 }

  short : TwoOrThree ls
  short = subst (λ (k : ℤ). ShortRecord k ls) e p.short

  pub three_literals : (length ls ≡ 2 → ⊥) → Three z ls
  three_literals h =
      let s = three_shape ls short h in
      let w = subst (LiteralsWithin max_variables) s p.within in
      record { record_is = ap₂ plain_record e s; long = ap length s; first = w.0.1; second = w.1.0.1; third = w.1.1.0.1 }

  -- two at least
  pub some_literals : 2 ≤ length ls
  some_literals = by ls short
    where
      by : (ls : List ℤ) → TwoOrThree ls → 2 ≤ length ls
      by [] t = absurd t
      by (a ∷ []) t = absurd t
      by (a ∷ b ∷ ls) t = omega arith

  -- the first and the second
  pub first_literals : (variable_of (at_place ls 0) ≤ max_variables) × (variable_of (at_place ls 1) ≤ max_variables)
  first_literals = by ls short p.within
    where
      by : (ls : List ℤ) → TwoOrThree ls → LiteralsWithin max_variables ls → (variable_of (at_place ls 0) ≤ max_variables) × (variable_of (at_place ls 1) ≤ max_variables)
      by [] t w = absurd t
      by (a ∷ []) t w = absurd t
      by (a ∷ b ∷ ls) t w = (w.0.1, w.1.0.1)

pub clauses_append : (xs ys : List Clause) → clauses_text (xs ++ ys) ≡ clauses_text xs ++ clauses_text ys
unfolding clauses_text
clauses_append [] ys = refl
clauses_append (x ∷ xs) ys = ap (λ (l : List ℕ). clause_text x ++ l) (clauses_append xs ys) ∙ sym (append_assoc (clause_text x) (clauses_text xs) (clauses_text ys))

-- the clauses of an XOR
pub pair_parts : (a b : ℤ) → plain_clause (XOR (a ∷ b ∷ [])) ≡ OR (a ∷ b ∷ []) ∷ OR (neg_ℤ a ∷ neg_ℤ b ∷ []) ∷ []
unfolding negations
pair_parts a b = refl

pub triple_parts : (a b c : ℤ) → plain_clause (XOR (a ∷ b ∷ c ∷ []))
    ≡ OR (a ∷ b ∷ c ∷ []) ∷ OR (a ∷ neg_ℤ b ∷ neg_ℤ c ∷ []) ∷ OR (neg_ℤ a ∷ b ∷ neg_ℤ c ∷ []) ∷ OR (neg_ℤ a ∷ neg_ℤ b ∷ c ∷ []) ∷ []
unfolding negations
triple_parts a b c = refl

-- as they are written, and how long that is
pub closed_long : (text : List ℕ) → length (text ++ closing) ≡ length text + 2
closed_long text = length-append text closing

pub pair_text : (a b : ℤ) → (literals_text (a ∷ b ∷ []) ++ closing) ++ (literals_text (neg_ℤ a ∷ neg_ℤ b ∷ []) ++ closing) ≡ clauses_text (plain_clause (XOR (a ∷ b ∷ [])))
unfolding clauses_text negations
pair_text a b = simp append-nil

pub pair_length : (a b : ℤ) → length (clauses_text (plain_clause (XOR (a ∷ b ∷ [])))) ≡ length (literals_text (a ∷ b ∷ [])) + length (literals_text (neg_ℤ a ∷ neg_ℤ b ∷ [])) + 4
pair_length a b = sym (ap length (pair_text a b)) ∙ simp length-append (omega arith)

pub triple_text : (a b c : ℤ) → (((literals_text (a ∷ b ∷ c ∷ []) ++ closing) ++ (literals_text (a ∷ neg_ℤ b ∷ neg_ℤ c ∷ []) ++ closing)) ++ (literals_text (neg_ℤ a ∷ b ∷ neg_ℤ c ∷ []) ++ closing)) ++ (literals_text (neg_ℤ a ∷ neg_ℤ b ∷ c ∷ []) ++ closing) ≡ clauses_text (plain_clause (XOR (a ∷ b ∷ c ∷ [])))
unfolding clauses_text negations
triple_text a b c = simp (append_assoc, append-nil)

pub triple_length : (a b c : ℤ) → length (clauses_text (plain_clause (XOR (a ∷ b ∷ c ∷ []))))
    ≡ length (literals_text (a ∷ b ∷ c ∷ [])) + length (literals_text (a ∷ neg_ℤ b ∷ neg_ℤ c ∷ [])) + length (literals_text (neg_ℤ a ∷ b ∷ neg_ℤ c ∷ [])) + length (literals_text (neg_ℤ a ∷ neg_ℤ b ∷ c ∷ [])) + 8
triple_length a b c = sym (ap length (triple_text a b c)) ∙ simp length-append (omega arith)

-- ---- how long

literal_long : (l : ℤ) (ls : List ℤ) → length (literals_text (l ∷ ls)) ≡ length (literal_text l) + 1 + length (literals_text ls)
unfolding literals_text
literal_long l ls = length-append (literal_text l ++ (blank ∷ [])) (literals_text ls) ∙ omega (arith, length-append (literal_text l) (blank ∷ []))

none_long : length (literals_text []) ≡ 0
unfolding literals_text
none_long = refl

pub or_long : (ls : List ℤ) → length (clauses_text (OR ls ∷ [])) ≡ length (body_text ls) + 2
or_long ls = ap length (or_text ls) ∙ closed_long (body_text ls)

pair_list : (a b : ℤ) → length (literals_text (a ∷ b ∷ [])) ≡ length (literal_text a) + length (literal_text b) + 2
pair_list a b = omega (arith, literal_long a (b ∷ []), literal_long b [], none_long)

triple_list : (a b c : ℤ) → length (literals_text (a ∷ b ∷ c ∷ [])) ≡ length (literal_text a) + length (literal_text b) + length (literal_text c) + 3
triple_list a b c = omega (arith, literal_long a (b ∷ c ∷ []), pair_list b c)

-- a literal and the opposite one
abbrev pub twice : ℤ → ℕ
twice l = length (literal_text l) + length (literal_text (neg_ℤ l))

pub pair_long : (a b : ℤ) → length (clauses_text (plain_clause (XOR (a ∷ b ∷ [])))) ≡ twice a + twice b + 8
pair_long a b = pair_length a b ∙ omega (arith, pair_list)

pub triple_long : (a b c : ℤ) → length (clauses_text (plain_clause (XOR (a ∷ b ∷ c ∷ [])))) ≡ 2 * (twice a + twice b + twice c) + 20
triple_long a b c = triple_length a b c ∙ omega (arith, triple_list)

pub pair_count : (a b : ℤ) → length (plain_clause (XOR (a ∷ b ∷ []))) ≡ 2
unfolding negations
pair_count a b = refl

pub triple_count : (a b c : ℤ) → length (plain_clause (XOR (a ∷ b ∷ c ∷ []))) ≡ 4
unfolding negations
triple_count a b c = refl

-- what a call tells of a literal that was passed on
pub twice_is : (z : ℤ) (r : ℕ) → variable_of z ≤ max_variables → r ≡ twice (to_z word_width (of_z word_width z)) → r ≡ twice z
twice_is z r h e = e ∙ ap twice (small_word z h)

-- five digits at most, and a minus at one of the two
pub twice_few : (l : ℤ) → variable_of l ≤ max_variables → twice l ≤ 11
twice_few (pos zero) h = omega (arith, decimal_few 0 0 (omega arith))
twice_few (pos (suc i)) h = omega (arith, decimal_few 4 (suc i) (omega arith))
twice_few (negsuc i) h = omega (arith, decimal_few 4 (suc i) (omega arith))

-- seven bytes a word and fifty-one more for an XOR, and no more clauses than words
clause_few : (c : Clause) → ShortClause c → LiteralsWithin max_variables (clause_literals c)
    → (length (clauses_text (plain_clause c)) ≤ 7 * length (stored_clause c) + 51 * xors (c ∷ [])) × (length (plain_clause c) ≤ length (stored_clause c))
unfolding negations
clause_few (OR ls) s w = (omega (arith, or_long ls, body_few 4 max_variables (omega arith) ls w), omega arith)
clause_few (XOR []) s w = absurd s
clause_few (XOR (a ∷ [])) s w = absurd s
clause_few (XOR (a ∷ b ∷ [])) s w = (omega (arith, pair_long a b, twice_few a w.0.1, twice_few b w.1.0.1), omega arith)
clause_few (XOR (a ∷ b ∷ c ∷ [])) s w =
    (omega (arith, triple_long a b c, twice_few a w.0.1, twice_few b w.1.0.1, twice_few c w.1.1.0.1), omega arith)
clause_few (XOR (a ∷ b ∷ c ∷ d ∷ ls)) s w = absurd s

pub plain_few : (cs : List Clause) → AllShort cs → ClausesWithin max_variables cs
    → (length (clauses_text (plain_clauses cs)) ≤ 7 * length (stored cs) + 51 * xors cs) × (length (plain_clauses cs) ≤ length (stored cs))
unfolding plain_clauses clauses_text
plain_few [] s w = (omega arith, omega arith)
plain_few (c ∷ cs) s w =
    let (a, b) = clause_few c s.0 w.0 in
    let (d, e) = plain_few cs s.1 w.1 in (
      omega (arith, a, d, xors_append (c ∷ []) cs, ap length (clauses_append (plain_clause c) (plain_clauses cs)), length-append (clauses_text (plain_clause c)) (clauses_text (plain_clauses cs)), ap length (stored_next c cs), length-append (stored_clause c) (stored cs)),
      omega (arith, b, e, length-append (plain_clause c) (plain_clauses cs), ap length (stored_next c cs), length-append (stored_clause c) (stored cs)),
    )

-- what the loop over an OR's literals keeps
pub record Closing (ls : List ℤ) (size i : ℕ) : Type 0 where
  pub sum : size + length (literals_text (drop i ls)) ≡ length (literals_text ls) + 2
  pub bound : length (literals_text ls) ≤ 7 * max_list

pub closing_start : (ls : List ℤ) → length ls ≤ max_list → LiteralsWithin max_variables ls → Closing ls 2 0
closing_start ls h w = record { sum = omega arith; bound = omega (arith, literals_few 4 max_variables (omega arith) ls w) }

module _ {ls : List ℤ} {size i : ℕ} (t : Closing ls size i) where
  module _ (h : i < length ls) {z : ℤ} {r : ℕ} (is : z ≡ get_or ls i (pos 0)) (e : r ≡ length (literal_text z)) where
    closing_next : length (literals_text (drop i ls)) ≡ r + 1 + length (literals_text (drop (i + 1) ls))
    closing_next =
        ap length (literals_next ls i h)
        ∙ length-append (literal_text (get_or ls i (pos 0)) ++ (blank ∷ [])) (literals_text (drop (i + 1) ls))
        ∙ omega (arith, e, ap (λ (k : ℤ). length (literal_text k)) is, length-append (literal_text (get_or ls i (pos 0))) (blank ∷ []))

    pub closing_room : size + (r + 1) ≤ 7 * max_list + 2
    closing_room = omega (arith, closing_next, t.sum, t.bound)

    pub closing_on : Closing ls (size + (r + 1)) (i + 1)
    closing_on = record { sum = omega (arith, closing_next, t.sum); bound = t.bound }

  pub closing_done : length ls ≤ i → (length ls ≡ 0 → ⊥) → size ≡ length (body_text ls ++ closing)
  closing_done h e = omega (arith, t.sum, ap length (literals_end ls i h), ap length (body_some ls e), closed_long (body_text ls))

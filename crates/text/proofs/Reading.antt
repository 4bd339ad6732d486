-- The text of a clause list is read back. Assumes nothing.
use mathlib.Core.Path.{◌≡◌, refl, sym, ap, ap₂, ◌∙◌}
use mathlib.Core.Bool.{Bool, true, false, not, ◌&&◌}
use mathlib.Core.List.{List, [], ◌∷◌, ◌++◌, append_assoc}
use mathlib.Core.Option.{none, some}
use Prim.Native.Nat.{ℕ, zero, suc, ◌+◌, ◌*◌, ◌-◌, ◌/◌, ◌%◌, ◌≤◌, ◌<◌}
use native.Mathlib.Omega.{arith}
use lib.Dec.{eqb, ltb}
use lib.IntN.{ℤ, pos, negsuc}
use lib.ListN.{length}
use borrow.Author.Tests.{ne_eqb, not-true, ltb-true, ltb-false}
use Rattle.bits.proofs.Bools.{either, and_parts, both, cond-true, cond-false, not_held, refuted}
use Rattle.bits.proofs.Lists.{free, free_append}
use Rattle.circuit.specs.Text.{line_feed, minus_sign, digit}
use Rattle.circuit.specs.File.{parted_by, is_digit, same}
use Rattle.circuit.proofs.Promises.{parts_none, parts_some, parts_cut, parts_one, same_self, same_true, is_digit_lem}
use Rattle.checking.specs.Clauses.{Clause, OR, XOR}
use Rattle.checking.specs.Satisfaction.{variable_of, LiteralsWithin, ClausesWithin}
use Rattle.text.specs.Dimacs.{blank, xor_sign, problem_word, cnf_word, decimal_within, decimal, literal_text, literals_text, body_text, clause_text, clauses_text, header_text, dimacs_of, both_read, then_read, digits_read, number_read, signed_read, literal_read, literals_read, body_read, clause_read, lines_read, problem, header_read, over_problem, read_lines, dimacs_read}
use Rattle.text.proofs.Decimal.{within_short, within_long}

-- ---- digits

-- every byte is a digit
unfoldable all_digits : List ℕ → Bool
all_digits [] = true
all_digits (b ∷ bs) = is_digit b && all_digits bs

digits_append : (xs ys : List ℕ) → all_digits xs ≡ true → all_digits ys ≡ true → all_digits (xs ++ ys) ≡ true
unfolding all_digits
digits_append [] ys p q = q
digits_append (x ∷ xs) ys p q = let (a, b) = and_parts (is_digit x) (all_digits xs) p in both a (digits_append xs ys b q)

one_digit : (k : ℕ) → k < 10 → all_digits (digit k ∷ []) ≡ true
unfolding all_digits
one_digit k h = both (is_digit_lem k h) refl

within_digits : (most k : ℕ) → k ≤ most → all_digits (decimal_within most k) ≡ true
within_digits zero k h = ap all_digits (within_short zero k (omega arith)) ∙ one_digit k (omega arith)
within_digits (suc most) k h =
    either (ltb k 10)
    (λ t. ap all_digits (within_short (suc most) k (ltb-true k 10 t)) ∙ one_digit k (ltb-true k 10 t))
    (λ t.
    let b : 10 ≤ k = ltb-false k 10 t in
    ap all_digits (within_long most k b) ∙ digits_append (decimal_within most (k / 10)) (digit (k % 10) ∷ []) (within_digits most (k / 10) (omega arith)) (one_digit (k % 10) (omega arith)))

decimal_digits : (k : ℕ) → all_digits (decimal k) ≡ true
unfolding decimal
decimal_digits k = within_digits k k (omega arith)

-- a byte that is no digit does not stand among digits
digits_free : (s : ℕ) (xs : List ℕ) → is_digit s ≡ false → all_digits xs ≡ true → free s xs ≡ true
unfolding all_digits free
digits_free s [] n p = refl
digits_free s (x ∷ xs) n p =
    let (a, b) = and_parts (is_digit x) (all_digits xs) p in
    both (ap not (ne_eqb x s (λ e. refuted n (sym (ap is_digit e) ∙ a)))) (digits_free s xs n b)

pub decimal_free : (s k : ℕ) → is_digit s ≡ false → free s (decimal k) ≡ true
decimal_free s k n = digits_free s (decimal k) n (decimal_digits k)

-- ---- a number

read_append : (a : ℕ) (xs ys : List ℕ) (b : ℕ) → digits_read a xs ≡ some b → digits_read a (xs ++ ys) ≡ digits_read b ys
unfolding digits_read
read_append a [] ys b e = let f : a ≡ b = cc in ap (λ (k : ℕ). digits_read k ys) f
read_append a (x ∷ xs) ys b e =
    either (is_digit x)
    (λ t.
    cond-true (is_digit x) _ _ t
    ∙ read_append (10 * a + (x - 48)) xs ys b (sym (cond-true (is_digit x) (digits_read (10 * a + (x - 48)) xs) none t) ∙ e))
    (λ t.
    let f : none ≡ some b = sym (cond-false (is_digit x) (digits_read (10 * a + (x - 48)) xs) none t) ∙ e in
    let z : ◌≡◌ {A = ℕ} 0 1 = cc in
    absurd (omega arith))

read_digit : (a k : ℕ) → k < 10 → digits_read a (digit k ∷ []) ≡ some (10 * a + k)
unfolding digits_read
read_digit a k h = let e : 10 * a + (digit k - 48) ≡ 10 * a + k = omega arith in cond-true (is_digit (digit k)) _ _ (is_digit_lem k h) ∙ ap some e

read_first : (k : ℕ) → k < 10 → digits_read 0 (digit k ∷ []) ≡ some k
read_first k h = let e : 10 * 0 + k ≡ k = omega arith in read_digit 0 k h ∙ ap some e

within_read : (most k : ℕ) → k ≤ most → digits_read 0 (decimal_within most k) ≡ some k
within_read zero k h = ap (digits_read 0) (within_short zero k (omega arith)) ∙ read_first k (omega arith)
within_read (suc most) k h =
    either (ltb k 10)
    (λ t. ap (digits_read 0) (within_short (suc most) k (ltb-true k 10 t)) ∙ read_first k (ltb-true k 10 t))
    (λ t.
    let b : 10 ≤ k = ltb-false k 10 t in
    let e : 10 * (k / 10) + k % 10 ≡ k = omega arith in
    ap (digits_read 0) (within_long most k b)
    ∙ read_append 0 (decimal_within most (k / 10)) (digit (k % 10) ∷ []) (k / 10) (within_read most (k / 10) (omega arith))
    ∙ read_digit (k / 10) (k % 10) (omega arith)
    ∙ ap some e)

-- the first digit of a number from 1 on is not 0
record Lead (xs : List ℕ) : Type 0 where
  first : ℕ
  more : List ℕ
  is : xs ≡ first ∷ more
  above : 49 ≤ first

within_lead : (most k : ℕ) → k ≤ most → 1 ≤ k → Lead (decimal_within most k)
within_lead zero k h l = absurd (omega arith)
within_lead (suc most) k h l =
    either (ltb k 10)
    (λ t. record { first = digit k; more = []; is = within_short (suc most) k (ltb-true k 10 t); above = omega arith })
    (λ t.
    let b : 10 ≤ k = ltb-false k 10 t in
    let i = within_lead most (k / 10) (omega arith) (omega arith) in
    record {
      first = i.first;
      more = i.more ++ (digit (k % 10) ∷ []);
      is = within_long most k b ∙ ap (λ (l : List ℕ). l ++ (digit (k % 10) ∷ [])) i.is;
      above = i.above;
    })

decimal_lead : (k : ℕ) → 1 ≤ k → Lead (decimal k)
unfolding decimal
decimal_lead k h = within_lead k k (omega arith) h

lead_number : (xs : List ℕ) → Lead xs → number_read xs ≡ digits_read 0 xs
unfolding number_read
lead_number [] l = absurd (mathlib.Core.List.cons≢nil (sym l.is))
lead_number (b ∷ []) l = refl
lead_number (b ∷ c ∷ bs) l =
    let e : b ≡ l.first = let i = l.is in cc in
    cond-false (eqb b 48) _ _ (ne_eqb b 48 (λ f. omega (arith, l.above)))

number_zero : number_read (decimal 0) ≡ some 0
unfolding decimal decimal_within number_read digits_read
number_zero = refl

pub number_back : (k : ℕ) → number_read (decimal k) ≡ some k
unfolding decimal
number_back zero = number_zero
number_back (suc k) = lead_number (decimal (suc k)) (decimal_lead (suc k) (omega arith)) ∙ within_read (suc k) (suc k) (omega arith)

-- ---- a literal

lead_literal : (xs : List ℕ) → Lead xs → literal_read xs ≡ signed_read false (number_read xs)
unfolding literal_read
lead_literal [] l = absurd (mathlib.Core.List.cons≢nil (sym l.is))
lead_literal (b ∷ bs) l =
    let e : b ≡ l.first = let i = l.is in cc in
    cond-false (eqb b minus_sign) _ _ (ne_eqb b minus_sign (λ f. omega (arith, l.above)))

literal_back : (l : ℤ) → 1 ≤ variable_of l → literal_read (literal_text l) ≡ some l
unfolding literal_read
literal_back (pos zero) h = absurd (omega arith)
literal_back (pos (suc i)) h = lead_literal (decimal (suc i)) (decimal_lead (suc i) h) ∙ ap (signed_read false) (number_back (suc i))
literal_back (negsuc i) h = ap (signed_read true) (number_back (suc i))

literal_some : (l : ℤ) → 1 ≤ variable_of l → literal_text l ≡ [] → ⊥
unfolding literal_read
literal_some l h e = let f : none ≡ some l = sym (ap literal_read e) ∙ literal_back l h in let z : ◌≡◌ {A = ℕ} 0 1 = cc in omega arith

literal_free : (s : ℕ) (l : ℤ) → is_digit s ≡ false → eqb minus_sign s ≡ false → free s (literal_text l) ≡ true
unfolding free
literal_free s (pos v) n m = decimal_free s v n
literal_free s (negsuc i) n m = both (ap not m) (decimal_free s (suc i) n)

-- ---- a clause

literals_more : (f : List ℕ) (fs : List (List ℕ)) → (fs ≡ [] → ⊥) → literals_read (f ∷ fs) ≡ both_read ◌∷◌ (literal_read f) (literals_read fs)
unfolding literals_read
literals_more f [] h = absurd (h refl)
literals_more f (g ∷ fs) h = refl

zero_read : literals_read ((48 ∷ []) ∷ []) ≡ some []
unfolding literals_read
zero_read = cond-true (same (48 ∷ []) (48 ∷ [])) (some []) none (same_self (48 ∷ []))

-- literals and `0`
abbrev pub ended_text : List ℤ → List ℕ
ended_text ls = literals_text ls ++ (48 ∷ [])

pub ended_next : (l : ℤ) (ls : List ℤ) → ended_text (l ∷ ls) ≡ literal_text l ++ (blank ∷ ended_text ls)
unfolding literals_text
ended_next l ls =
    append_assoc (literal_text l ++ (blank ∷ [])) (literals_text ls) (48 ∷ []) ∙ append_assoc (literal_text l) (blank ∷ []) (literals_text ls ++ (48 ∷ []))

ended_parts : (l : ℤ) (ls : List ℤ) → parted_by blank (ended_text (l ∷ ls)) ≡ literal_text l ∷ parted_by blank (ended_text ls)
ended_parts l ls = ap (parted_by blank) (ended_next l ls) ∙ parts_cut blank (literal_text l) (ended_text ls) (literal_free blank l refl refl)

literals_back : (v : ℕ) (ls : List ℤ) → LiteralsWithin v ls → literals_read (parted_by blank (ended_text ls)) ≡ some ls
unfolding literals_text free
literals_back v [] w = ap literals_read (parts_one blank (48 ∷ []) refl) ∙ zero_read
literals_back v (l ∷ ls) w =
    ap literals_read (ended_parts l ls)
    ∙ literals_more (literal_text l) (parted_by blank (ended_text ls)) (parts_some blank (ended_text ls))
    ∙ ap₂ (both_read ◌∷◌) (literal_back l w.0.0) (literals_back v ls w.1)

ended_free : (s : ℕ) (ls : List ℤ) → is_digit s ≡ false → eqb minus_sign s ≡ false → eqb blank s ≡ false → free s (ended_text ls) ≡ true
unfolding literals_text free
ended_free s [] n m b = digits_free s (48 ∷ []) n (one_digit 0 (omega arith))
ended_free s (l ∷ ls) n m b =
    ap (free s) (ended_next l ls) ∙ free_append s (literal_text l) (blank ∷ ended_text ls) (literal_free s l n m) (both (ap not b) (ended_free s ls n m b))

-- a clause's line without its LF and its `x`
abbrev pub body_line : List ℤ → List ℕ
body_line ls = body_text ls ++ (48 ∷ [])

body_more : (f : List ℕ) (fs : List (List ℕ)) → (f ≡ [] → ⊥) → (fs ≡ [] → ⊥) → body_read (f ∷ fs) ≡ literals_read (f ∷ fs)
unfolding body_read
body_more f [] e h = absurd (h refl)
body_more f (g ∷ []) e h = cond-false (same f []) (literals_read (g ∷ [])) (literals_read (f ∷ g ∷ [])) (not_held _ (λ t. e (same_true f [] t)))
body_more f (g ∷ k ∷ fs) e h = refl

body_back : (v : ℕ) (ls : List ℤ) → LiteralsWithin v ls → body_read (parted_by blank (body_line ls)) ≡ some ls
unfolding body_read free
body_back v [] w =
    ap body_read (parts_cut blank [] (48 ∷ []) refl ∙ ap (λ (fs : List (List ℕ)). [] ∷ fs) (parts_one blank (48 ∷ []) refl))
    ∙ cond-true (same [] []) (literals_read ((48 ∷ []) ∷ [])) (literals_read ([] ∷ (48 ∷ []) ∷ [])) (same_self [])
    ∙ zero_read
body_back v (l ∷ ls) w =
    ap body_read (ended_parts l ls)
    ∙ body_more (literal_text l) (parted_by blank (ended_text ls)) (literal_some l w.0.0) (parts_some blank (ended_text ls))
    ∙ sym (ap literals_read (ended_parts l ls))
    ∙ literals_back v (l ∷ ls) w

body_free : (s : ℕ) (ls : List ℤ) → is_digit s ≡ false → eqb minus_sign s ≡ false → eqb blank s ≡ false → free s (body_line ls) ≡ true
unfolding literals_text free
body_free s [] n m b = both (ap not b) (ended_free s [] n m b)
body_free s (l ∷ ls) n m b = ended_free s (l ∷ ls) n m b

-- the first byte is no `x`
or_read : (line : List ℕ) → free xor_sign line ≡ true → clause_read line ≡ then_read OR (body_read (parted_by blank line))
unfolding clause_read body_read free
or_read [] p = sym (ap (λ (fs : List (List ℕ)). then_read OR (body_read fs)) (parts_none blank))
or_read (b ∷ bs) p = let (x, y) = and_parts (not (eqb b xor_sign)) (free xor_sign bs) p in cond-false (eqb b xor_sign) _ _ (not-true (eqb b xor_sign) x)

-- a clause's line without its LF
abbrev pub line_text : Clause → List ℕ
line_text (OR ls) = body_line ls
line_text (XOR ls) = xor_sign ∷ body_line ls

body_closed : (ls : List ℤ) (r : List ℕ) → clause_text (OR ls) ++ r ≡ body_line ls ++ (line_feed ∷ r)
body_closed ls r = append_assoc (body_text ls) (48 ∷ line_feed ∷ []) r ∙ sym (append_assoc (body_text ls) (48 ∷ []) (line_feed ∷ r))

pub line_closed : (c : Clause) (r : List ℕ) → clause_text c ++ r ≡ line_text c ++ (line_feed ∷ r)
line_closed (OR ls) r = body_closed ls r
line_closed (XOR ls) r = ap (λ (l : List ℕ). xor_sign ∷ l) (body_closed ls r)

line_free : (c : Clause) → free line_feed (line_text c) ≡ true
unfolding free
line_free (OR ls) = body_free line_feed ls refl refl refl
line_free (XOR ls) = body_free line_feed ls refl refl refl

clause_back : (v : ℕ) (c : Clause) → LiteralsWithin v (Rattle.checking.specs.Satisfaction.clause_literals c) → clause_read (line_text c) ≡ some c
unfolding clause_read
clause_back v (OR ls) w = or_read (body_line ls) (body_free xor_sign ls refl refl refl) ∙ ap (then_read OR) (body_back v ls w)
clause_back v (XOR ls) w = ap (then_read XOR) (body_back v ls w)

-- ---- the clauses

lines_more : (l : List ℕ) (ls : List (List ℕ)) → (ls ≡ [] → ⊥) → lines_read (l ∷ ls) ≡ both_read ◌∷◌ (clause_read l) (lines_read ls)
unfolding lines_read
lines_more l [] h = absurd (h refl)
lines_more l (k ∷ ls) h = refl

clauses_back : (v : ℕ) (cs : List Clause) → ClausesWithin v cs → lines_read (parted_by line_feed (clauses_text cs)) ≡ some cs
unfolding clauses_text lines_read
clauses_back v [] w = ap lines_read (parts_none line_feed) ∙ cond-true (same [] []) (some []) none (same_self [])
clauses_back v (c ∷ cs) w =
    ap (λ (t : List ℕ). lines_read (parted_by line_feed t)) (line_closed c (clauses_text cs))
    ∙ ap lines_read (parts_cut line_feed (line_text c) (clauses_text cs) (line_free c))
    ∙ lines_more (line_text c) (parted_by line_feed (clauses_text cs)) (parts_some line_feed (clauses_text cs))
    ∙ ap₂ (both_read ◌∷◌) (clause_back v c w.0) (clauses_back v cs w.1)

-- ---- the header

-- without its LF
abbrev pub header_line : ℕ → ℕ → List ℕ
header_line v m = (problem_word ++ (blank ∷ cnf_word)) ++ (blank ∷ (decimal v ++ (blank ∷ decimal m)))

pub header_closed : (v m : ℕ) (r : List ℕ) → header_text v m ++ r ≡ header_line v m ++ (line_feed ∷ r)
unfolding header_text
header_closed v m r =
    ap (λ (l : List ℕ). (problem_word ++ (blank ∷ cnf_word)) ++ (blank ∷ l))
    (append_assoc (decimal v) (blank ∷ (decimal m ++ (line_feed ∷ []))) r
    ∙ ap (λ (l : List ℕ). decimal v ++ (blank ∷ l)) (append_assoc (decimal m) (line_feed ∷ []) r)
    ∙ sym (append_assoc (decimal v) (blank ∷ decimal m) (line_feed ∷ r)))

header_free : (v m : ℕ) → free line_feed (header_line v m) ≡ true
unfolding free
header_free v m = free_append line_feed (decimal v) (blank ∷ decimal m) (decimal_free line_feed v refl) (decimal_free line_feed m refl)

header_parts : (v m : ℕ) → parted_by blank (header_line v m) ≡ problem_word ∷ cnf_word ∷ decimal v ∷ decimal m ∷ []
unfolding free
header_parts v m =
    parts_cut blank problem_word (cnf_word ++ (blank ∷ (decimal v ++ (blank ∷ decimal m)))) refl
    ∙ ap (λ (fs : List (List ℕ)). problem_word ∷ fs) (parts_cut blank cnf_word (decimal v ++ (blank ∷ decimal m)) refl)
    ∙ ap (λ (fs : List (List ℕ)). problem_word ∷ cnf_word ∷ fs)
    (parts_cut blank (decimal v) (decimal m) (decimal_free blank v refl) ∙ ap (λ (fs : List (List ℕ)). decimal v ∷ fs) (parts_one blank (decimal m) (decimal_free blank m refl)))

header_back : (v m : ℕ) → header_read (parted_by blank (header_line v m)) ≡ some (problem v m)
unfolding header_read
header_back v m =
    ap header_read (header_parts v m)
    ∙ cond-true (same problem_word problem_word) _ _ (same_self problem_word)
    ∙ cond-true (same cnf_word cnf_word) _ _ (same_self cnf_word)
    ∙ ap₂ (both_read problem) (number_back v) (number_back m)

-- ---- the whole text

pub text_back : (v : ℕ) (cs : List Clause) → ClausesWithin v cs → dimacs_read (dimacs_of v cs) ≡ some (record { variables = v; count = length cs; clauses = cs })
unfolding dimacs_of dimacs_read read_lines
text_back v cs w =
    ap (λ (t : List ℕ). read_lines (parted_by line_feed t)) (header_closed v (length cs) (clauses_text cs))
    ∙ ap read_lines (parts_cut line_feed (header_line v (length cs)) (clauses_text cs) (header_free v (length cs)))
    ∙ ap₂ (both_read over_problem) (header_back v (length cs)) (clauses_back v cs w)

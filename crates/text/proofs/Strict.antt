-- Only the text of clauses is read. Assumes nothing.
use mathlib.Core.Path.{◌≡◌, refl, sym, ap, ap₂, ◌∙◌}
use mathlib.Core.Bool.{Bool, true, false}
use mathlib.Core.List.{List, [], ◌∷◌, ◌++◌, append-nil, append_assoc}
use mathlib.Core.Option.{Option, none, some}
use Prim.Native.Nat.{ℕ, zero, suc, ◌+◌, ◌*◌, ◌-◌, ◌/◌, ◌%◌, ◌≤◌}
use native.Mathlib.Omega.{arith}
use lib.Dec.{eqb}
use lib.IntN.{ℤ, pos, negsuc}
use borrow.Author.Tests.{eqb-true, eqb-false}
use Rattle.bits.proofs.Bools.{either, cond-true, cond-false}
use Rattle.circuit.specs.Text.{line_feed, minus_sign, digit}
use Rattle.circuit.specs.File.{parted_by, is_digit, same}
use Rattle.circuit.proofs.Promises.{whole, whole_one, whole_next, parts_back, same_true, digit_bounds}
use Rattle.checking.specs.Clauses.{Clause, OR, XOR}
use Rattle.text.specs.Dimacs.{blank, xor_sign, problem_word, cnf_word, decimal, literal_text, literals_text, clauses_text, header_text, both_read, then_read, digits_read, number_read, signed_read, literal_read, literals_read, body_read, clause_read, lines_read, Dimacs, Problem, problem, header_read, over_problem, read_lines, dimacs_read}
use Rattle.text.proofs.Decimal.{decimal_short, decimal_long}
use Rattle.text.proofs.Reading.{ended_text, ended_next, body_line, line_text, line_closed, header_line, header_closed}

-- nothing was read
nothing : {A : Type 0} {a : A} → none ≡ some a → ⊥
nothing e = let z : ◌≡◌ {A = ℕ} 0 1 = cc in omega arith

both_were : {A B C : Type 0} (f : A → B → C) (x : Option A) (y : Option B) (c : C) → both_read f x y ≡ some c → (a : A) × (b : B) × (x ≡ some a) × (y ≡ some b) × (f a b ≡ c)
both_were f (some a) (some b) c e = let g : f a b ≡ c = cc in (a, b, refl, refl, g)
both_were f (some a) none c e = absurd (nothing e)
both_were f none (some b) c e = absurd (nothing e)
both_were f none none c e = absurd (nothing e)

then_was : {A B : Type 0} (f : A → B) (x : Option A) (b : B) → then_read f x ≡ some b → (a : A) × (x ≡ some a) × (f a ≡ b)
then_was f (some a) b e = let g : f a ≡ b = cc in (a, refl, g)
then_was f none b e = absurd (nothing e)

-- a test that was passed
was_true : {A : Type 0} (t : Bool) (x : Option A) (a : A) → mathlib.Core.Bool.cond t x none ≡ some a → (t ≡ true) × (x ≡ some a)
was_true true x a e = (refl, e)
was_true false x a e = absurd (nothing e)

was_false : {A : Type 0} (t : Bool) (x : Option A) (a : A) → mathlib.Core.Bool.cond t none x ≡ some a → (t ≡ false) × (x ≡ some a)
was_false true x a e = absurd (nothing e)
was_false false x a e = (refl, e)

-- one part more, and what the part and the others are
next_was : (s : ℕ) (f g : List ℕ) (fs : List (List ℕ)) {w r : List ℕ} → f ≡ w → whole s (g ∷ fs) ≡ r → whole s (f ∷ g ∷ fs) ≡ w ++ (s ∷ r)
next_was s f g fs a b = whole_next s f g fs ∙ ap₂ (λ (x y : List ℕ). x ++ (s ∷ y)) a b

-- ---- a number

digits_were : (a : ℕ) (xs : List ℕ) (k : ℕ) → 1 ≤ a → digits_read a xs ≡ some k → decimal a ++ xs ≡ decimal k
unfolding digits_read
digits_were a [] k h e = let f : a ≡ k = cc in append-nil (decimal a) ∙ ap decimal f
digits_were a (x ∷ xs) k h e =
    let (t, r) = was_true (is_digit x) (digits_read (10 * a + (x - 48)) xs) k e in
    let (low, high) = digit_bounds x t in
    let n : ℕ = 10 * a + (x - 48) in
    let q : n / 10 ≡ a = omega arith in
    let d : digit (n % 10) ≡ x = omega arith in
    sym (append_assoc (decimal a) (x ∷ []) xs)
    ∙ ap (λ (l : List ℕ). l ++ xs) (sym (decimal_long n (omega arith) ∙ ap₂ (λ (i j : ℕ). decimal i ++ (j ∷ [])) q d))
    ∙ digits_were n xs k (omega arith) r

number_was : (f : List ℕ) (k : ℕ) → number_read f ≡ some k → f ≡ decimal k
unfolding number_read digits_read
number_was [] k e = absurd (nothing e)
number_was (b ∷ []) k e =
    let (t, r) = was_true (is_digit b) (some (10 * 0 + (b - 48))) k e in
    let (low, high) = digit_bounds b t in
    let v : 10 * 0 + (b - 48) ≡ k = cc in
    let d : b ≡ digit k = omega arith in
    ap (λ (x : ℕ). x ∷ []) d ∙ sym (decimal_short k (omega arith))
number_was (b ∷ c ∷ bs) k e =
    let (z, r) = was_false (eqb b 48) (digits_read 0 (b ∷ c ∷ bs)) k e in
    let (t, s) = was_true (is_digit b) (digits_read (10 * 0 + (b - 48)) (c ∷ bs)) k r in
    let (low, high) = digit_bounds b t in
    let a : ℕ = 10 * 0 + (b - 48) in
    let ne : b ≡ 48 → ⊥ = eqb-false b 48 z in
    let big : 1 ≤ a = above b low ne in
    let d : digit a ≡ b = omega arith in
    sym (ap (λ (x : ℕ). x ∷ c ∷ bs) d) ∙ ap (λ (l : List ℕ). l ++ (c ∷ bs)) (sym (decimal_short a (omega arith))) ∙ digits_were a (c ∷ bs) k big s
  where
    above : (b : ℕ) → 48 ≤ b → (b ≡ 48 → ⊥) → 1 ≤ 10 * 0 + (b - 48)
    above b l ne = omega arith

-- ---- a literal

minus_was : (o : Option ℕ) (l : ℤ) → signed_read true o ≡ some l → (i : ℕ) × (o ≡ some (suc i)) × (l ≡ negsuc i)
minus_was none l e = absurd (nothing e)
minus_was (some zero) l e = absurd (nothing e)
minus_was (some (suc i)) l e = let f : l ≡ negsuc i = cc in (i, refl, f)

plus_was : (o : Option ℕ) (l : ℤ) → signed_read false o ≡ some l → (i : ℕ) × (o ≡ some (suc i)) × (l ≡ pos (suc i))
plus_was none l e = absurd (nothing e)
plus_was (some zero) l e = absurd (nothing e)
plus_was (some (suc i)) l e = let f : l ≡ pos (suc i) = cc in (i, refl, f)

literal_was : (f : List ℕ) (l : ℤ) → literal_read f ≡ some l → f ≡ literal_text l
unfolding literal_read
literal_was [] l e = absurd (nothing e)
literal_was (b ∷ bs) l e =
    either (eqb b minus_sign)
    (λ t.
    let (i, r, is) = minus_was (number_read bs) l (sym (cond-true (eqb b minus_sign) _ _ t) ∙ e) in
    ap₂ (λ (x : ℕ) (y : List ℕ). x ∷ y) (eqb-true b minus_sign t) (number_was bs (suc i) r) ∙ ap literal_text (sym is))
    (λ t.
    let (i, r, is) = plus_was (number_read (b ∷ bs)) l (sym (cond-false (eqb b minus_sign) _ _ t) ∙ e) in
    number_was (b ∷ bs) (suc i) r ∙ ap literal_text (sym is))

-- ---- a clause

last_was : (f : List ℕ) (ls : List ℤ) → literals_read (f ∷ []) ≡ some ls → (f ≡ 48 ∷ []) × ([] ≡ ls)
unfolding literals_read
last_was f ls e =
    let (t, r) = was_true (same f (48 ∷ [])) (some []) ls e in
    let n : [] ≡ ls = cc in
    (same_true f (48 ∷ []) t, n)

literals_were : (fs : List (List ℕ)) (ls : List ℤ) → literals_read fs ≡ some ls → whole blank fs ≡ ended_text ls
unfolding literals_read literals_text
literals_were [] ls e = absurd (nothing e)
literals_were (f ∷ []) ls e = let (z, n) = last_was f ls e in whole_one blank f ∙ z ∙ ap ended_text n
literals_were (f ∷ g ∷ fs) ls e =
    let (l, ms, a, b, is) = both_were ◌∷◌ (literal_read f) (literals_read (g ∷ fs)) ls e in
    next_was blank f g fs (literal_was f l a) (literals_were (g ∷ fs) ms b) ∙ sym (ended_next l ms) ∙ ap ended_text is

-- with one literal at least
some_were : (f g : List ℕ) (fs : List (List ℕ)) (ls : List ℤ) → literals_read (f ∷ g ∷ fs) ≡ some ls → whole blank (f ∷ g ∷ fs) ≡ body_line ls
unfolding literals_read
some_were f g fs ls e =
    let (l, ms, a, b, is) = both_were ◌∷◌ (literal_read f) (literals_read (g ∷ fs)) ls e in
    literals_were (f ∷ g ∷ fs) ls e ∙ sym (ap ended_text is) ∙ ap body_line is

body_were : (fs : List (List ℕ)) (ls : List ℤ) → body_read fs ≡ some ls → whole blank fs ≡ body_line ls
unfolding body_read
body_were [] ls e = absurd (nothing e)
body_were (f ∷ []) ls e = absurd (nothing e)
body_were (f ∷ g ∷ []) ls e =
    either (same f [])
    (λ t.
    let (z, n) = last_was g ls (sym (cond-true (same f []) _ _ t) ∙ e) in
    next_was blank f g [] (same_true f [] t) (whole_one blank g ∙ z) ∙ ap body_line n)
    (λ t. some_were f g [] ls (sym (cond-false (same f []) _ _ t) ∙ e))
body_were (f ∷ g ∷ h ∷ fs) ls e = some_were f g (h ∷ fs) ls e

clause_was : (line : List ℕ) (c : Clause) → clause_read line ≡ some c → line ≡ line_text c
unfolding clause_read
clause_was [] c e = absurd (nothing e)
clause_was (b ∷ bs) c e =
    either (eqb b xor_sign)
    (λ t.
    let (ls, r, is) = then_was XOR (body_read (parted_by blank bs)) c (sym (cond-true (eqb b xor_sign) _ _ t) ∙ e) in
    ap₂ (λ (x : ℕ) (y : List ℕ). x ∷ y) (eqb-true b xor_sign t) (sym (parts_back blank bs) ∙ body_were (parted_by blank bs) ls r) ∙ ap line_text is)
    (λ t.
    let (ls, r, is) = then_was OR (body_read (parted_by blank (b ∷ bs))) c (sym (cond-false (eqb b xor_sign) _ _ t) ∙ e) in
    sym (parts_back blank (b ∷ bs)) ∙ body_were (parted_by blank (b ∷ bs)) ls r ∙ ap line_text is)

-- ---- the clauses

lines_were : (ls : List (List ℕ)) (cs : List Clause) → lines_read ls ≡ some cs → whole line_feed ls ≡ clauses_text cs
unfolding lines_read clauses_text
lines_were [] cs e = absurd (nothing e)
lines_were (l ∷ []) cs e =
    let (t, r) = was_true (same l []) (some []) cs e in
    let n : [] ≡ cs = cc in
    whole_one line_feed l ∙ same_true l [] t ∙ ap clauses_text n
lines_were (l ∷ k ∷ ls) cs e =
    let (c, ds, a, b, is) = both_were ◌∷◌ (clause_read l) (lines_read (k ∷ ls)) cs e in
    next_was line_feed l k ls (clause_was l c a) (lines_were (k ∷ ls) ds b) ∙ sym (line_closed c (clauses_text ds)) ∙ ap clauses_text is

-- ---- the header

header_was : (fs : List (List ℕ)) (h : Problem) → header_read fs ≡ some h → whole blank fs ≡ header_line h.variables h.count
unfolding header_read
header_was [] h e = absurd (nothing e)
header_was (p ∷ []) h e = absurd (nothing e)
header_was (p ∷ c ∷ []) h e = absurd (nothing e)
header_was (p ∷ c ∷ v ∷ []) h e = absurd (nothing e)
header_was (p ∷ c ∷ v ∷ m ∷ []) h e =
    let (s, d) = was_true (same p problem_word) _ h e in
    let (t, f) = was_true (same c cnf_word) _ h d in
    let (x, y, a, b, is) = both_were problem (number_read v) (number_read m) h f in
    next_was blank p c (v ∷ m ∷ []) (same_true p problem_word s) (next_was blank c v (m ∷ []) (same_true c cnf_word t) (next_was blank v m [] (number_was v x a) (whole_one blank m ∙ number_was m y b)))
    ∙ ap (λ (k : Problem). header_line k.variables k.count) is
header_was (p ∷ c ∷ v ∷ m ∷ f ∷ fs) h e = absurd (nothing e)

-- ---- the whole text

read_were : (ls : List (List ℕ)) (d : Dimacs) → read_lines ls ≡ some d → whole line_feed ls ≡ header_text d.variables d.count ++ clauses_text d.clauses
unfolding read_lines lines_read
read_were [] d e = absurd (nothing e)
read_were (l ∷ []) d e = let (h, cs, a, b, is) = both_were over_problem (header_read (parted_by blank l)) none d e in absurd (nothing b)
read_were (l ∷ k ∷ ls) d e =
    let (h, cs, a, b, is) = both_were over_problem (header_read (parted_by blank l)) (lines_read (k ∷ ls)) d e in
    next_was line_feed l k ls (sym (parts_back blank l) ∙ header_was (parted_by blank l) h a) (lines_were (k ∷ ls) cs b)
    ∙ sym (header_closed h.variables h.count (clauses_text cs))
    ∙ ap (λ (x : Dimacs). header_text x.variables x.count ++ clauses_text x.clauses) is

pub text_was : (text : List ℕ) (d : Dimacs) → dimacs_read text ≡ some d → text ≡ header_text d.variables d.count ++ clauses_text d.clauses
unfolding dimacs_read
text_was text d e = sym (parts_back line_feed text) ∙ read_were (parted_by line_feed text) d e

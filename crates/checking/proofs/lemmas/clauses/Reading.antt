-- Stored words are read back, and only the words of clauses are read. Assumes nothing.
use Rattle.std.proofs.Common.{◌≡◌, ℕ, zero, suc, ◌+◌, ◌<◌, ◌≤◌, leb, ◌⊎◌, List, [], ◌∷◌, ◌++◌, length, take, drop, ℤ, pos, negsuc, sym, refl, ap, ◌∙◌, subst, ap₂, inl, inr, ⊎_elim, append_assoc, arith, length-append, length-drop, take-append-drop, length-take-le, le-leb, leb-false, leb-true}
use mathlib.Core.Option.{Option, none, some}
use lib.Seq.{take-append_seam, drop-append_seam}
use Rattle.bits.proofs.Bools.{either, cond-true, cond-false}
use Rattle.checking.specs.Clauses.{Clause, OR, XOR}
use Rattle.checking.specs.Stored.{stored_clause, stored, ReadBack, clauses_read, bad_record, clause_of, joined, read_record, read_from, clauses_in, BadAt}

pub stored_none : stored [] ≡ []
unfolding stored
stored_none = refl

pub stored_next : (c : Clause) (cs : List Clause) → stored (c ∷ cs) ≡ stored_clause c ++ stored cs
unfolding stored
stored_next c cs = refl

pub stored_append : (xs ys : List Clause) → stored (xs ++ ys) ≡ stored xs ++ stored ys
unfolding stored
stored_append [] ys = refl
stored_append (x ∷ xs) ys = ap (λ (r : List ℤ). stored_clause x ++ r) (stored_append xs ys) ∙ sym (append_assoc (stored_clause x) (stored xs) (stored ys))

-- one whole record, where its literals are followed by more words
record_read : (i : ℕ) (kind : ℤ) (ls more : List ℤ) (later : List ℤ → ReadBack)
    → read_record i kind (some (length ls)) (ls ++ more) later ≡ joined i (clause_of kind ls) (later more)
record_read i kind ls more later =
    cond-true (leb (length ls) (length (ls ++ more))) _ _ (le-leb (length ls) (length (ls ++ more)) (omega (arith, length-append ls more)))
    ∙ ap₂ (λ (a b : List ℤ). joined i (clause_of kind a) (later b)) (take-append_seam ls more) (drop-append_seam ls more)

read_all : (cs : List Clause) (i most : ℕ) → length (stored cs) ≤ most → read_from i most (stored cs) ≡ clauses_read cs
unfolding stored read_from
read_all [] i zero h = refl
read_all [] i (suc most) h = refl
read_all (OR ls ∷ cs) i zero h = absurd (omega arith)
read_all (XOR ls ∷ cs) i zero h = absurd (omega arith)
read_all (OR ls ∷ cs) i (suc most) h =
    record_read i (pos 0) ls (stored cs) (λ (rest : List ℤ). read_from (suc i) most rest)
    ∙ ap (joined i (some (OR ls))) (read_all cs (suc i) most (omega (arith, length-append ls (stored cs))))
read_all (XOR ls ∷ cs) i (suc most) h =
    record_read i (pos 1) ls (stored cs) (λ (rest : List ℤ). read_from (suc i) most rest)
    ∙ ap (joined i (some (XOR ls))) (read_all cs (suc i) most (omega (arith, length-append ls (stored cs))))

pub read_back : (cs : List Clause) (rest : List ℤ) → clauses_in (take (length (stored cs)) (stored cs ++ rest)) ≡ clauses_read cs
unfolding clauses_in
read_back cs rest = ap clauses_in (take-append_seam (stored cs) rest) ∙ read_all cs 0 (length (stored cs)) (omega arith)

-- ---- only the words of clauses are read

bad : {i : ℕ} {cs : List Clause} → bad_record i ≡ clauses_read cs → ⊥
bad e = let z : ◌≡◌ {A = ℕ} 0 1 = cc in omega arith

-- a record joined with what is read after it
joined_read : (i : ℕ) (c : Option Clause) (later : ReadBack) (cs : List Clause) → joined i c later ≡ clauses_read cs
    → (d : Clause) × (ds : List Clause) × (c ≡ some d) × (later ≡ clauses_read ds) × (cs ≡ d ∷ ds)
joined_read i none later cs e = absurd (bad e)
joined_read i (some d) (clauses_read ds) cs e = let f : cs ≡ d ∷ ds = cc in (d, ds, refl, refl, f)
joined_read i (some d) (bad_record j) cs e = absurd (bad e)

-- a kind word with literals stores their clause
kind_stored : (kind : ℤ) (ls : List ℤ) (c : Clause) → clause_of kind ls ≡ some c → kind ∷ pos (length ls) ∷ ls ≡ stored_clause c
kind_stored (pos zero) ls c e = let f : OR ls ≡ c = cc in ap stored_clause f
kind_stored (pos (suc zero)) ls c e = let f : XOR ls ≡ c = cc in ap stored_clause f
kind_stored (pos (suc (suc k))) ls c e = let z : ◌≡◌ {A = ℕ} 0 1 = cc in absurd (omega arith)
kind_stored (negsuc k) ls c e = let z : ◌≡◌ {A = ℕ} 0 1 = cc in absurd (omega arith)

read_words : (most i : ℕ) (ws : List ℤ) (cs : List Clause) → read_from i most ws ≡ clauses_read cs → ws ≡ stored cs
unfolding read_from stored
read_words zero i [] cs e = let f : cs ≡ [] = cc in ap stored (sym f)
read_words zero i (kind ∷ ws) cs e = absurd (bad e)
read_words (suc most) i [] cs e = let f : cs ≡ [] = cc in ap stored (sym f)
read_words (suc most) i (kind ∷ []) cs e = absurd (bad e)
read_words (suc most) i (kind ∷ negsuc k ∷ ws) cs e = absurd (bad e)
read_words (suc most) i (kind ∷ pos k ∷ ws) cs e =
    either (leb k (length ws))
    (λ t.
    let h : k ≤ length ws = leb-true k (length ws) t in
    let f = sym (cond-true (leb k (length ws)) (joined i (clause_of kind (take k ws)) (read_from (suc i) most (drop k ws))) (bad_record i) t) ∙ e in
    let (d, ds, p, q, r) = joined_read i (clause_of kind (take k ws)) (read_from (suc i) most (drop k ws)) cs f in
    let l : length (take k ws) ≡ k = length-take-le k ws h in
    ap (λ (x : List ℤ). kind ∷ pos k ∷ x) (sym (take-append-drop k ws))
    ∙ ap (λ (x : ℕ). (kind ∷ pos x ∷ take k ws) ++ drop k ws) (sym l)
    ∙ ap₂ (λ (x y : List ℤ). x ++ y) (kind_stored kind (take k ws) d p) (read_words most (suc i) (drop k ws) ds q)
    ∙ ap stored (sym r))
    (λ t. absurd (bad (sym (cond-false (leb k (length ws)) (joined i (clause_of kind (take k ws)) (read_from (suc i) most (drop k ws))) (bad_record i) t) ∙ e)))

pub read_stored : (ws : List ℤ) (cs : List Clause) → clauses_in ws ≡ clauses_read cs → ws ≡ stored cs
unfolding clauses_in
read_stored ws cs e = read_words (length ws) 0 ws cs e

-- ---- what a bad record says

unread : {i : ℕ} {cs : List Clause} → clauses_read cs ≡ bad_record i → ⊥
unread e = bad (sym e)

-- the words of a clause: a kind, a count, and at least so many more
stored_kind : (c : Clause) (more ws : List ℤ) (kind count : ℤ) → kind ∷ count ∷ ws ≡ stored_clause c ++ more
    → (ls : List ℤ) × (clause_of kind ls ≡ some c) × (count ≡ pos (length ls)) × (ws ≡ ls ++ more)
stored_kind (OR ls) more ws kind count e =
    let a : kind ≡ pos 0 = cc in
    let b : count ≡ pos (length ls) = cc in
    let d : ws ≡ ls ++ more = cc in
    (ls, ap (λ (k : ℤ). clause_of k ls) a, b, d)
stored_kind (XOR ls) more ws kind count e =
    let a : kind ≡ pos 1 = cc in
    let b : count ≡ pos (length ls) = cc in
    let d : ws ≡ ls ++ more = cc in
    (ls, ap (λ (k : ℤ). clause_of k ls) a, b, d)

stored_long : (c : Clause) (more : List ℤ) → 2 ≤ length (stored_clause c ++ more)
stored_long (OR ls) more = omega arith
stored_long (XOR ls) more = omega arith

-- whether there is a clause depends on the kind alone
kind_alone : (kind : ℤ) (xs ys : List ℤ) (c : Clause) → clause_of kind xs ≡ none → clause_of kind ys ≡ some c → ⊥
kind_alone (pos zero) xs ys c e f = let z : ◌≡◌ {A = ℕ} 0 1 = cc in omega arith
kind_alone (pos (suc zero)) xs ys c e f = let z : ◌≡◌ {A = ℕ} 0 1 = cc in omega arith
kind_alone (pos (suc (suc k))) xs ys c e f = let z : ◌≡◌ {A = ℕ} 0 1 = cc in omega arith
kind_alone (negsuc k) xs ys c e f = let z : ◌≡◌ {A = ℕ} 0 1 = cc in omega arith

-- the record with index i is bad: no clause is before it
at_once : (ws : List ℤ) (i j : ℕ) → (ws ≡ [] → ⊥) → ((c : Clause) (more : List ℤ) → ws ≡ stored_clause c ++ more → ⊥) → bad_record i ≡ bad_record j → (k : ℕ) × (j ≡ i + k) × BadAt ws k
unfolding stored
at_once ws i j left other e =
    let f : i ≡ j = cc in
    (0, omega arith, record { whole = []; left = ws; words = refl; count = refl; some_left = left; no_clause = other })

-- the record after a clause
after : (c : Clause) (ws rest : List ℤ) (i j : ℕ) → ws ≡ stored_clause c ++ rest → (k : ℕ) × (j ≡ suc i + k) × BadAt rest k → (k : ℕ) × (j ≡ i + k) × BadAt ws k
unfolding stored
after c ws rest i j e found =
    let (k, a, b) = found in (
      suc k,
      omega arith,
      record {
        whole = c ∷ b.whole;
        left = b.left;
        words = e ∙ ap (λ (r : List ℤ). stored_clause c ++ r) b.words ∙ sym (append_assoc (stored_clause c) (stored b.whole) b.left);
        count = ap suc b.count;
        some_left = b.some_left;
        no_clause = b.no_clause;
      },
    )

bad_joined : (i j : ℕ) (o : Option Clause) (later : ReadBack) → joined i o later ≡ bad_record j
    → ((o ≡ none) × (bad_record i ≡ bad_record j)) ⊎ ((c : Clause) × (o ≡ some c) × (later ≡ bad_record j))
bad_joined i j none later e = inl (refl, e)
bad_joined i j (some c) (clauses_read ds) e = absurd (unread e)
bad_joined i j (some c) (bad_record k) e = inr (c, refl, e)

read_bad_from : (most i : ℕ) (ws : List ℤ) (j : ℕ) → length ws ≤ most → read_from i most ws ≡ bad_record j → (k : ℕ) × (j ≡ i + k) × BadAt ws k
unfolding read_from
read_bad_from zero i [] j h e = absurd (unread e)
read_bad_from zero i (kind ∷ ws) j h e = absurd (omega arith)
read_bad_from (suc most) i [] j h e = absurd (unread e)
read_bad_from (suc most) i (kind ∷ []) j h e =
    at_once (kind ∷ []) i j (λ f. absurd (omega (arith, ap length f))) (λ c more f. absurd (omega (arith, ap length f, stored_long c more))) e
read_bad_from (suc most) i (kind ∷ negsuc k ∷ ws) j h e =
    at_once (kind ∷ negsuc k ∷ ws) i j (λ f. absurd (omega (arith, ap length f)))
    (λ c more f. let (ls, a, b, d) = stored_kind c more ws kind (negsuc k) f in let z : ◌≡◌ {A = ℕ} 0 1 = cc in omega arith) e
read_bad_from (suc most) i (kind ∷ pos k ∷ ws) j h e =
    either (leb k (length ws))
    (λ t.
    let l : k ≤ length ws = leb-true k (length ws) t in
    let f = sym (cond-true (leb k (length ws)) (joined i (clause_of kind (take k ws)) (read_from (suc i) most (drop k ws))) (bad_record i) t) ∙ e in
    ⊎_elim
    (λ x.
    at_once (kind ∷ pos k ∷ ws) i j (λ y. absurd (omega (arith, ap length y)))
    (λ c more y. let (ls, a, b, d) = stored_kind c more ws kind (pos k) y in kind_alone kind (take k ws) ls c x.0 a) x.1)
    (λ x.
    let (c, a, b) = x in
    let m : length (take k ws) ≡ k = length-take-le k ws l in
    after c (kind ∷ pos k ∷ ws) (drop k ws) i j
    (ap (λ (y : List ℤ). kind ∷ pos k ∷ y) (sym (take-append-drop k ws)) ∙ ap (λ (y : ℕ). (kind ∷ pos y ∷ take k ws) ++ drop k ws) (sym m)
    ∙ ap (λ (y : List ℤ). y ++ drop k ws) (kind_stored kind (take k ws) c a))
    (read_bad_from most (suc i) (drop k ws) j (omega (arith, length-drop k ws)) b))
    (bad_joined i j (clause_of kind (take k ws)) (read_from (suc i) most (drop k ws)) f))
    (λ t.
    let l : length ws < k = leb-false k (length ws) t in
    at_once (kind ∷ pos k ∷ ws) i j (λ y. absurd (omega (arith, ap length y)))
    (λ c more y.
    let (ls, a, b, d) = stored_kind c more ws kind (pos k) y in
    let n : k ≡ length ls = cc in
    omega (arith, ap length d, length-append ls more))
    (sym (cond-false (leb k (length ws)) (joined i (clause_of kind (take k ws)) (read_from (suc i) most (drop k ws))) (bad_record i) t) ∙ e))

pub read_bad : (ws : List ℤ) (i : ℕ) → clauses_in ws ≡ bad_record i → BadAt ws i
unfolding clauses_in
read_bad ws i e =
    let (k, a, b) = read_bad_from (length ws) 0 ws i (omega arith) e in
    let f : k ≡ i = omega arith in
    subst (BadAt ws) f b

-- The first of the clauses that words store, and the words of the others. Assumes nothing.
use mathlib.Core.Path.{◌≡◌, refl, sym, ap, ap₂, subst, ◌∙◌}
use mathlib.Core.List.{List, [], ◌∷◌, ◌++◌}
use Prim.Native.Nat.{ℕ, zero, suc, ◌+◌, ◌-◌, ◌≤◌, ◌<◌}
use native.Mathlib.Omega.{arith}
use lib.IntN.{ℤ, pos, negsuc, nat_abs}
use lib.ListN.{length, take, drop, get_or, length-append}
use lib.Seq.{drop-drop, take-append_seam, drop-append_seam}
use mir.Val.{to_z, of_z}
use Rattle.bits.proofs.Lists.{empty, rest_lent}
use Rattle.checking.specs.Clauses.{Clause, OR, XOR, max_variables}
use Rattle.checking.specs.Satisfaction.{LiteralsWithin, ClausesWithin}
use Rattle.checking.specs.Stored.{word_width, stored, clauses_in}
use Rattle.checking.proofs.Promises.{read_back, stored_none, stored_next}
use Rattle.text.specs.Compare.{max_list}
use Rattle.text.specs.Dimacs.{clause_text, clauses_text}
use Rattle.text.specs.Plain.{plain_clause, plain_clauses}
use Rattle.text.proofs.plain.Laws.{clauses_append}
use Rattle.text.specs.private.Words.{record_text, read_clauses, stored_in, clause_of, plain_record, ShortRecord, AllShort, Plainable, StoresList}

pub stored_in_lem : (ws : List ℤ) (cs : List Clause) → ws ≡ stored cs → stored_in ws ≡ cs
unfolding stored_in
stored_in_lem ws cs e =
    ap (λ (l : List ℤ). read_clauses (clauses_in l)) (e ∙ sym (take-append_seam (stored cs) [])) ∙ ap read_clauses (read_back cs [])

-- no words store no clause
pub none_stored : (ws : List ℤ) → length ws ≡ 0 → stored_in ws ≡ []
none_stored ws h = stored_in_lem ws [] (empty ws h ∙ sym stored_none)

-- the first clause has n literals
pub record First (ws : List ℤ) (n : ℕ) : Type 0 where
  pub inside : 2 + n ≤ length ws
  pub plainable : Plainable (get_or ws 0 (pos 0)) (take n (drop 2 ws))
  pub is : stored_in ws ≡ clause_of (get_or ws 0 (pos 0)) (take n (drop 2 ws)) ∷ stored_in (drop (2 + n) ws)
  pub stores : StoresList (drop (2 + n) ws)

module _ (ws : List ℤ) (few : length ws ≤ max_list) (k : ℤ) (ls : List ℤ) (cs : List Clause) (words : ws ≡ k ∷ pos (length ls) ∷ (ls ++ stored cs)) (is : stored_in ws ≡ clause_of k ls ∷ cs)
    (short : ShortRecord k ls) (within : LiteralsWithin max_variables ls) (shorts : AllShort cs) (withins : ClausesWithin max_variables cs) where
  first_of : (n : ℕ) → n ≡ nat_abs (get_or ws 1 (pos 0)) → First ws n
  first_of n e =
      let long : n ≡ length ls = e ∙ ap (λ (l : List ℤ). nat_abs (get_or l 1 (pos 0))) words in
      let kind : get_or ws 0 (pos 0) ≡ k = ap (λ (l : List ℤ). get_or l 0 (pos 0)) words in
      let literals : take n (drop 2 ws) ≡ ls = ap₂ (λ (m : ℕ) (l : List ℤ). take m (drop 2 l)) long words ∙ take-append_seam ls (stored cs) in
      let later : drop (2 + n) ws ≡ stored cs =
      sym (drop-drop n 2 ws) ∙ ap₂ (λ (m : ℕ) (l : List ℤ). drop m (drop 2 l)) long words ∙ drop-append_seam ls (stored cs) in
      let size : length ws ≡ 2 + n + length (stored cs) = omega (arith, ap length words, length-append ls (stored cs)) in
      let same : ls ≡ take n (drop 2 ws) = sym literals in
      record {
        inside = omega arith;
        plainable = subst (λ (l : List ℤ). Plainable (get_or ws 0 (pos 0)) l) same (subst (λ (x : ℤ). Plainable x ls) (sym kind) (record { short = short; few = omega (arith, size); within = within }));
        is = is ∙ ap₂ ◌∷◌ (sym (ap₂ clause_of kind literals)) (sym (stored_in_lem (drop (2 + n) ws) cs later));
        stores = record { clauses = cs; words = later; short = shorts; within = withins; few = omega (arith, ap length later, size) };
      }

first_by : (ws : List ℤ) (cs : List Clause) → ws ≡ stored cs → AllShort cs → ClausesWithin max_variables cs → length ws ≤ max_list → 0 < length ws → (n : ℕ) → n ≡ nat_abs (get_or ws 1 (pos 0)) → First ws n
first_by ws [] e s w few h = absurd (omega (arith, ap length (e ∙ stored_none)))
first_by ws (OR ls ∷ cs) e s w few h = first_of ws few (pos 0) ls cs (e ∙ stored_next (OR ls) cs) (stored_in_lem ws (OR ls ∷ cs) e) s.0 w.0 s.1 w.1
first_by ws (XOR ls ∷ cs) e s w few h = first_of ws few (pos 1) ls cs (e ∙ stored_next (XOR ls) cs) (stored_in_lem ws (XOR ls ∷ cs) e) s.0 w.0 s.1 w.1

-- the second word, as it is passed on
abbrev second : List ℤ → ℤ
second ws = to_z word_width (of_z word_width (get_or ws 1 (pos 0)))

pub first : (ws : List ℤ) → StoresList ws → 0 < length ws → (n : ℕ) → n ≡ nat_abs (second ws) → second ws ≡ get_or ws 1 (pos 0) → First ws n
first ws s h n e is = first_by ws s.clauses s.words s.short s.within s.few h n (e ∙ ap nat_abs is)

-- two words at least
pub first_two : (ws : List ℤ) → StoresList ws → 0 < length ws → 1 < length ws
first_two ws s h = omega (arith, (first_by ws s.clauses s.words s.short s.within s.few h _ refl).inside)

-- as the code cuts the words
module _ {ws : List ℤ} {n : ℕ} (f : First ws n) where
  rest : take (length ws - (2 + n)) (drop (2 + n) ws) ≡ drop (2 + n) ws
  rest = rest_lent ws (2 + n)

  pub first_left : StoresList (take (length ws - (2 + n)) (drop (2 + n) ws))
  first_left = subst StoresList (sym rest) f.stores

  pub first_step : (k : ℤ) → k ≡ get_or ws 0 (pos 0)
      → (stored_in ws ≡ clause_of k (take (2 + n - 2) (drop 2 ws)) ∷ stored_in (take (length ws - (2 + n)) (drop (2 + n) ws))) × Plainable k (take (2 + n - 2) (drop 2 ws))
  first_step k e =
      let m : n ≡ 2 + n - 2 = omega arith in
      let same : take n (drop 2 ws) ≡ take (2 + n - 2) (drop 2 ws) = ap (λ (x : ℕ). take x (drop 2 ws)) m in
      (f.is ∙ ap₂ (λ (c : Clause) (l : List ℤ). c ∷ stored_in l) (ap₂ clause_of (sym e) same) (sym rest), subst (λ (l : List ℤ). Plainable k l) same (subst (λ (x : ℤ). Plainable x (take n (drop 2 ws))) (sym e) f.plainable))

  pub first_fewer : length (stored_in (take (length ws - (2 + n)) (drop (2 + n) ws))) < length (stored_in ws)
  first_fewer = omega (arith, ap length f.is, ap (λ (l : List ℤ). length (stored_in l)) rest)

-- ---- the text of the first clause, and of the others

record_is : (k : ℤ) (ls : List ℤ) → clause_text (clause_of k ls) ≡ record_text k ls
record_is (pos zero) ls = refl
record_is (pos (suc zero)) ls = refl
record_is (pos (suc (suc k))) ls = refl
record_is (negsuc i) ls = refl

plain_is : (k : ℤ) (ls : List ℤ) → plain_clause (clause_of k ls) ≡ plain_record k ls
plain_is (pos zero) ls = refl
plain_is (pos (suc zero)) ls = refl
plain_is (pos (suc (suc k))) ls = refl
plain_is (negsuc i) ls = refl

module _ (k : ℤ) (ls : List ℤ) {cs more : List Clause} (e : cs ≡ clause_of k ls ∷ more) (z : ℤ) (is : z ≡ k) where
  pub text_step : clauses_text cs ≡ record_text z ls ++ clauses_text more
  unfolding clauses_text
  text_step = ap clauses_text e ∙ ap (λ (l : List ℕ). l ++ clauses_text more) (record_is k ls ∙ ap (λ (x : ℤ). record_text x ls) (sym is))

  pub plain_step : plain_clauses cs ≡ plain_record z ls ++ plain_clauses more
  unfolding plain_clauses
  plain_step = ap plain_clauses e ∙ ap (λ (l : List Clause). l ++ plain_clauses more) (plain_is k ls ∙ ap (λ (x : ℤ). plain_record x ls) (sym is))

  pub plain_text_step : clauses_text (plain_clauses cs) ≡ clauses_text (plain_record z ls) ++ clauses_text (plain_clauses more)
  plain_text_step = ap clauses_text plain_step ∙ clauses_append (plain_record z ls) (plain_clauses more)

pub no_text : {cs : List Clause} → cs ≡ [] → clauses_text cs ≡ []
unfolding clauses_text
no_text e = ap clauses_text e

pub no_plain : {cs : List Clause} → cs ≡ [] → plain_clauses cs ≡ []
unfolding plain_clauses
no_plain e = ap plain_clauses e

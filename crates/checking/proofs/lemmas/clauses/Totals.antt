-- What the lines add to the sums over the gates, and how much those are at most. Assumes nothing.
use Rattle.std.proofs.Common.{◌≡◌, ℕ, zero, suc, ◌+◌, ◌*◌, ◌/◌, ◌<◌, ◌≤◌, Bool, true, false, cond, not, ◌&&◌, lt-ltb, List, [], ◌∷◌, ◌++◌, length, sym, refl, ap, ◌∙◌, subst, ap₂, arith, length-append}
use mathlib.Core.Bool.{and-true}
use lib.Count.{ones}
use Rattle.bits.specs.Digits.{bit, lines_in}
use Rattle.bits.proofs.Bools.{cond-false}
use Rattle.bits.proofs.Digits.{bit_none, lines_ones}
use Rattle.circuit.specs.declared.gate.Gate.{Gate}
use Rattle.circuit.specs.Gate.{max_lines, control_count}
use Rattle.circuit.specs.Outcome.{Outcome, served, and_then}
use Rattle.circuit.specs.Words.{gates_of, all_valid, valid_from}
use Rattle.circuit.proofs.Promises.{unserved, then_both, from_served, gates_length, valid_parts}
use Rattle.checking.specs.declared.clauses.Totals.{Totals}
use Rattle.checking.specs.declared.sums.Sums.{Sums}
use Rattle.checking.specs.Clauses.{targeted, up_from}
use Rattle.checking.specs.Sizes.{totals, added, gate_sizes, gates_sizes, lines_sizes, sizes_of}
use Rattle.checking.specs.Pair.{without_junk}
use Rattle.checking.specs.Faults.{mask_where}
use Rattle.checking.specs.private.Sums.{sums_of, list_totals, Small}
use Rattle.checking.proofs.lemmas.clauses.Forced.{length_up_from}
use Rattle.checking.proofs.lemmas.clauses.Loop.{controls_few}
use Rattle.checking.proofs.lemmas.clauses.Sums.{totals_same}
use Rattle.checking.proofs.lemmas.faults.Masks.{mask_below, mask_bit}

-- ---- lines that count

pub up_from_more : (i m : ℕ) → up_from i (suc m) ≡ up_from i m ++ ((i + m) ∷ [])
unfolding up_from
up_from_more i zero = let e : i ≡ i + 0 = omega arith in ap (λ (j : ℕ). j ∷ []) e
up_from_more i (suc m) =
    let e : suc i + m ≡ i + suc m = omega arith in
    ap (λ (l : List ℕ). i ∷ l) (up_from_more (suc i) m ∙ ap (λ (j : ℕ). up_from (suc i) m ++ (j ∷ [])) e)

-- the lines below n that are not junk
abbrev pub lines_counted : ℕ → ℕ → List ℕ
lines_counted junk n = without_junk junk (up_from 0 n)

junk_append : (junk : ℕ) (xs ys : List ℕ) → without_junk junk (xs ++ ys) ≡ without_junk junk xs ++ without_junk junk ys
unfolding without_junk
junk_append junk [] ys = refl
junk_append junk (x ∷ xs) ys = one (bit junk x) (junk_append junk xs ys)
  where
    one : (b : Bool) → without_junk junk (xs ++ ys) ≡ without_junk junk xs ++ without_junk junk ys
        → cond b (without_junk junk (xs ++ ys)) (x ∷ without_junk junk (xs ++ ys)) ≡ cond b (without_junk junk xs) (x ∷ without_junk junk xs) ++ without_junk junk ys
    one true e = e
    one false e = ap (λ (l : List ℕ). x ∷ l) e

pub counted_more : (junk n : ℕ) → lines_counted junk (suc n) ≡ lines_counted junk n ++ cond (bit junk n) [] (n ∷ [])
unfolding without_junk
counted_more junk n =
    let e : 0 + n ≡ n = omega arith in
    ap (without_junk junk) (up_from_more 0 n ∙ ap (λ (j : ℕ). up_from 0 n ++ (j ∷ [])) e)
    ∙ junk_append junk (up_from 0 n) (n ∷ [])

-- with the junk lines they are all
pub counted_count : (junk n : ℕ) → length (lines_counted junk n) + length (lines_in junk n) ≡ n
unfolding without_junk lines_in up_from
counted_count junk zero = refl
counted_count junk (suc n) =
    omega (
      arith,
      ap length (counted_more junk n),
      length-append (lines_counted junk n) (cond (bit junk n) [] (n ∷ [])),
      length-append (lines_in junk n) (cond (bit junk n) (n ∷ []) []),
      one (bit junk n),
      counted_count junk n,
    )
  where
    one : (b : Bool) → length (cond b [] (n ∷ [])) + length (cond b (n ∷ []) []) ≡ 1
    one true = refl
    one false = refl

-- ---- what they add

lines_append : (hit : ℕ → Bool) (xs ys : List ℕ) → lines_sizes hit (xs ++ ys) ≡ added (lines_sizes hit xs) (lines_sizes hit ys)
unfolding lines_sizes
lines_append hit [] ys = totals_same _ _ (omega arith) (omega arith) (omega arith)
lines_append hit (x ∷ xs) ys =
    let more = lines_append hit xs ys in
    totals_same _ _ (omega (arith, ap (λ (t : Totals). t.variables) more)) (omega (arith, ap (λ (t : Totals). t.clauses) more)) (omega (arith, ap (λ (t : Totals). t.words) more))

-- of k lines, of which the mask has some
abbrev share : ℕ → ℕ → Totals
share k hit = totals k k (3 * k + 2 * hit)

line_totals : (hit : ℕ → Bool) (n : ℕ) (j : Bool) → lines_sizes hit (cond j [] (n ∷ [])) ≡ cond j (totals 0 0 0) (totals 1 1 (cond (hit n) 5 3 + 0))
unfolding lines_sizes
line_totals hit n true = refl
line_totals hit n false = refl

shared : (n : ℕ) (j h : Bool) → cond j (totals 0 0 0) (totals 1 1 (cond h 5 3 + 0)) ≡ share (length (cond j [] (n ∷ []))) (length (cond (h && not j) (n ∷ []) []))
shared n true true = refl
shared n true false = refl
shared n false true = refl
shared n false false = refl

line_share : (mask junk : ℕ) (hit : ℕ → Bool) (n : ℕ) → bit mask n ≡ (hit n && not (bit junk n))
    → lines_sizes hit (cond (bit junk n) [] (n ∷ [])) ≡ share (length (cond (bit junk n) [] (n ∷ []))) (length (cond (bit mask n) (n ∷ []) []))
line_share mask junk hit n e =
    line_totals hit n (bit junk n)
    ∙ shared n (bit junk n) (hit n)
    ∙ ap (λ (b : Bool). share (length (cond (bit junk n) [] (n ∷ []))) (length (cond b (n ∷ []) []))) (sym e)

-- the mask has the lines that count and are hit
pub lines_share : (mask junk : ℕ) (hit : ℕ → Bool) (n : ℕ) → ((k : ℕ) → k < n → bit mask k ≡ (hit k && not (bit junk k)))
    → lines_sizes hit (lines_counted junk n) ≡ share (length (lines_counted junk n)) (length (lines_in mask n))
unfolding lines_sizes lines_in up_from without_junk
lines_share mask junk hit zero same = refl
lines_share mask junk hit (suc n) same =
    let last : List ℕ = cond (bit junk n) [] (n ∷ []) in
    let more : lines_sizes hit (lines_counted junk (suc n)) ≡ added (share (length (lines_counted junk n)) (length (lines_in mask n))) (lines_sizes hit last) =
    ap (lines_sizes hit) (counted_more junk n)
    ∙ lines_append hit (lines_counted junk n) last
    ∙ ap (λ (t : Totals). added t (lines_sizes hit last)) (lines_share mask junk hit n (λ k h. same k (omega arith))) in
    let one = line_share mask junk hit n (same n (omega arith)) in
    let long = ap length (counted_more junk n) ∙ length-append (lines_counted junk n) last in
    let found = length-append (lines_in mask n) (cond (bit mask n) (n ∷ []) []) in
    totals_same _ _
    (omega (arith, ap (λ (t : Totals). t.variables) more, ap (λ (t : Totals). t.variables) one, long))
    (omega (arith, ap (λ (t : Totals). t.clauses) more, ap (λ (t : Totals). t.clauses) one, long))
    (omega (arith, ap (λ (t : Totals). t.words) more, ap (λ (t : Totals). t.words) one, long, found))

-- all lines, where none is junk
none_left_out : (ks : List ℕ) → without_junk 0 ks ≡ ks
unfolding without_junk
none_left_out [] = refl
none_left_out (k ∷ ks) = cond-false (bit 0 k) (without_junk 0 ks) (k ∷ without_junk 0 ks) (bit_none k) ∙ ap (λ (l : List ℕ). k ∷ l) (none_left_out ks)

pub none_junk : (n : ℕ) → lines_counted 0 n ≡ up_from 0 n
none_junk n = none_left_out (up_from 0 n)

-- so the sums give the sizes of a cascade's list
pub sizes_totals : (n : ℕ) (gs : List Gate) → sizes_of n gs ≡ list_totals n 0 n (length (lines_in (mask_where n (targeted gs)) n)) (gates_sizes gs)
unfolding sizes_of
sizes_totals n gs =
    let mask : ℕ = mask_where n (targeted gs) in
    let same : (k : ℕ) → k < n → bit mask k ≡ (targeted gs k && not (bit 0 k)) =
    λ k h.
    mask_bit n (targeted gs) k
    ∙ ap (λ (b : Bool). b && targeted gs k) (lt-ltb k n h)
    ∙ sym (ap (λ (b : Bool). targeted gs k && not b) (bit_none k) ∙ and-true (targeted gs k)) in
    let lines : lines_sizes (targeted gs) (up_from 0 n) ≡ share n (length (lines_in mask n)) =
    ap (lines_sizes (targeted gs)) (sym (none_junk n))
    ∙ lines_share mask 0 (targeted gs) n same
    ∙ ap (λ (k : ℕ). share k (length (lines_in mask n))) (ap length (none_junk n) ∙ length_up_from 0 n) in
    ap (λ (t : Totals). added (totals n 0 0) (added (gates_sizes gs) (added t (totals 0 1 (n + 2))))) lines
    ∙ totals_same _ _ (omega arith) (omega arith) (omega arith)

-- ---- how much the sums are at most

small_gate : (k : ℕ) → k ≤ max_lines → Small 1 (gate_sizes k)
small_gate zero h = record { few_variables = omega arith; few_clauses = omega arith; few_words = omega arith }
small_gate (suc zero) h = record { few_variables = omega arith; few_clauses = omega arith; few_words = omega arith }
small_gate (suc (suc k)) h = record { few_variables = omega arith; few_clauses = omega arith; few_words = omega arith }

pub small_sums : (n : ℕ) (gs : List Gate) → n ≤ max_lines → all_valid n gs ≡ true → Small (length gs) (gates_sizes gs)
unfolding gates_sizes
small_sums n [] few v = record { few_variables = omega arith; few_clauses = omega arith; few_words = omega arith }
small_sums n (g ∷ gs) few v =
    let (a, b) = valid_parts n g gs v in
    let one = small_gate (control_count g) (controls_few n g few a) in
    let more = small_sums n gs few b in
    record {
      few_variables = omega (arith, one.few_variables, more.few_variables);
      few_clauses = omega (arith, one.few_clauses, more.few_clauses);
      few_words = omega (arith, one.few_words, more.few_words);
    }

pub small_more : (i j : ℕ) (t : Totals) → i ≤ j → Small i t → Small j t
small_more i j t h s =
    record { few_variables = omega (arith, s.few_variables); few_clauses = omega (arith, s.few_clauses); few_words = omega (arith, s.few_words) }

-- ---- what the code made of the words

-- the sums over a caller's words
abbrev pub summed_words : ℕ → List ℕ → Outcome Sums
summed_words n ws = and_then (valid_from n 0 (gates_of ws)) (λ k. served (sums_of n (gates_of ws)))

module _ (n : ℕ) (ws : List ℕ) (s : Sums) (made : summed_words n ws ≡ served s) where
  abbrev gs : List Gate
  gs = gates_of ws

  pub summed_valid : all_valid n gs ≡ true
  summed_valid = let (k, v, f) = then_both (valid_from n 0 gs) (λ k. served (sums_of n gs)) s made in (from_served n 0 gs k v).0

  pub summed_is : sums_of n gs ≡ s
  summed_is = let (k, v, f) = then_both (valid_from n 0 gs) (λ k. served (sums_of n gs)) s made in unserved f

  pub summed_small : (m : ℕ) → n ≤ max_lines → length ws / 3 ≤ m → Small m s.totals
  summed_small m few short =
      subst (λ (t : Totals). Small m t) (ap (λ (x : Sums). x.totals) summed_is)
      (small_more (length gs) m (gates_sizes gs) (omega (arith, gates_length ws)) (small_sums n gs few summed_valid))

  pub summed_totals : (hit : ℕ) → hit ≡ ones s.targets → list_totals n 0 n hit s.totals ≡ sizes_of n gs
  summed_totals hit e =
      let found : hit ≡ length (lines_in (mask_where n (targeted gs)) n) =
      e ∙ ap ones (sym (ap (λ (x : Sums). x.targets) summed_is)) ∙ sym (lines_ones n (mask_where n (targeted gs)) (mask_below n (targeted gs))) in
      ap₂ (list_totals n 0 n) found (sym (ap (λ (x : Sums). x.totals) summed_is)) ∙ sym (sizes_totals n gs)

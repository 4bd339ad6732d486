-- What the loop over the sizes of the plain clauses keeps. Assumes nothing.
use mathlib.Core.Path.{◌≡◌, ap, ap₂, ◌∙◌}
use mathlib.Core.List.{List, [], ◌∷◌}
use Prim.Native.Nat.{ℕ, ◌+◌, ◌*◌, ◌≤◌}
use native.Mathlib.Omega.{arith}
use lib.IntN.{ℤ}
use lib.ListN.{length, length-append}
use Rattle.checking.specs.Clauses.{Clause}
use Rattle.text.specs.declared.plain.PlainSizes.{PlainSizes}
use Rattle.text.specs.Dimacs.{clauses_text}
use Rattle.text.specs.Plain.{plain_clauses}
use Rattle.text.specs.Compare.{max_list}
use Rattle.text.specs.private.Words.{stored_in, clause_of, plain_record, StoresList, plain_sizes}
use Rattle.text.proofs.Sizes.{count_few}
use Rattle.text.proofs.plain.Laws.{plain_few}
use Rattle.text.proofs.plain.Xors.{xors_few}
use Rattle.text.proofs.stored.Laws.{stored_in_lem, plain_step, plain_text_step, no_text, no_plain}

-- `left` are the clauses that are left
pub record Sizing (ws : List ℤ) (bytes clauses : ℕ) (left : List Clause) : Type 0 where
  pub bytes_sum : bytes + length (clauses_text (plain_clauses left)) ≡ length (clauses_text (plain_clauses (stored_in ws)))
  pub clauses_sum : clauses + length (plain_clauses left) ≡ length (plain_clauses (stored_in ws))
  pub bytes_few : length (clauses_text (plain_clauses (stored_in ws))) ≤ 58 * max_list
  pub clauses_few : length (plain_clauses (stored_in ws)) ≤ max_list

pub sizing_start : (ws : List ℤ) → StoresList ws → Sizing ws 0 0 (stored_in ws)
sizing_start ws s =
    let e = stored_in_lem ws s.clauses s.words in
    let (a, b) = plain_few s.clauses s.short s.within in
    let l = ap length s.words in
    record {
      bytes_sum = omega arith;
      clauses_sum = omega arith;
      bytes_few = omega (arith, a, xors_few s.clauses, count_few s.clauses, l, s.few, ap (λ (cs : List Clause). length (clauses_text (plain_clauses cs))) e);
      clauses_few = omega (arith, b, l, s.few, ap (λ (cs : List Clause). length (plain_clauses cs)) e);
    }

module _ {ws : List ℤ} {bytes clauses : ℕ} {left : List Clause} (t : Sizing ws bytes clauses left) (k : ℤ) (ls : List ℤ) {more : List Clause} (e : left ≡ clause_of k ls ∷ more) (z : ℤ) (is : z ≡ k) where
  bytes_next : length (clauses_text (plain_clauses left)) ≡ length (clauses_text (plain_record z ls)) + length (clauses_text (plain_clauses more))
  bytes_next = ap length (plain_text_step k ls e z is) ∙ length-append (clauses_text (plain_record z ls)) (clauses_text (plain_clauses more))

  clauses_next : length (plain_clauses left) ≡ length (plain_record z ls) + length (plain_clauses more)
  clauses_next = ap length (plain_step k ls e z is) ∙ length-append (plain_record z ls) (plain_clauses more)

  pub bytes_room : (a : ℕ) → a ≡ length (clauses_text (plain_record z ls)) → bytes + a ≤ 58 * max_list
  bytes_room a f = omega (arith, f, bytes_next, t.bytes_sum, t.bytes_few)

  pub clauses_room : (b : ℕ) → b ≡ length (plain_record z ls) → clauses + b ≤ max_list
  clauses_room b g = omega (arith, g, clauses_next, t.clauses_sum, t.clauses_few)

  pub sizing_on : (a b : ℕ) → a ≡ length (clauses_text (plain_record z ls)) → b ≡ length (plain_record z ls) → Sizing ws (bytes + a) (clauses + b) more
  sizing_on a b f g =
      record { bytes_sum = omega (arith, bytes_next, t.bytes_sum, f); clauses_sum = omega (arith, clauses_next, t.clauses_sum, g); bytes_few = t.bytes_few; clauses_few = t.clauses_few }

pub sizing_done : {ws : List ℤ} {bytes clauses : ℕ} {left : List Clause} → Sizing ws bytes clauses left → left ≡ [] → ◌≡◌ {A = PlainSizes} (record { bytes = bytes; clauses = clauses }) (plain_sizes ws)
sizing_done {ws} {bytes} {clauses} {left} t e =
    let a : bytes ≡ length (clauses_text (plain_clauses (stored_in ws))) = omega (arith, t.bytes_sum, ap length (no_text (no_plain e))) in
    let b : clauses ≡ length (plain_clauses (stored_in ws)) = omega (arith, t.clauses_sum, ap length (no_plain e)) in
    ap₂ (λ (x y : ℕ). record { bytes = x; clauses = y }) a b

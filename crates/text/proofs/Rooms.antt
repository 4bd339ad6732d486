-- The call that compares two files, by the rooms that are lent. Assumes nothing.
use mathlib.Core.Path.{◌≡◌, ap, ◌∙◌}
use mathlib.Core.Bool.{Bool, true, ◌&&◌}
use mathlib.Core.List.{List}
use Prim.Native.Nat.{ℕ, ◌≤◌}
use lib.IntN.{ℤ}
use lib.Dec.{leb}
use lib.ListN.{length}
use borrow.Author.Tests.{le-leb, leb-true}
use Rattle.bits.proofs.Bools.{and_parts, both}
use Rattle.circuit.specs.Outcome.{Outcome, served, demand, Yields}
use Rattle.circuit.specs.Refusal.{no_room}
use Rattle.circuit.proofs.Promises.{demand_met}
use Rattle.std.proofs.Common.{Result}
use Rattle.text.specs.declared.comparison.Compared.{Compared}
use Rattle.text.specs.declared.refused.FileRefusal.{FileRefusal}
use Rattle.text.specs.Answers.{fit_outcome, fit_buffer, WritesWhere}
use Rattle.text.specs.Compare.{max_list, file_words, miter_words, comparison, compared_text, compare_text, Rooms, RoomsFit, compare_outcome, compare_buffer}
use Rattle.text.specs.private.Comparing.{of_compared, SaysCompared}
use Rattle.text.proofs.answer.Laws.{fit_told}
use Rattle.text.proofs.Writes.{two_tests, writes_where}

-- every room is long enough
module _ (first second : List ℕ) (lent : Rooms) (good : file_words ≤ lent.first) (good-2 : file_words ≤ lent.second) (good-3 : miter_words ≤ lent.miter) (good-4 : max_list ≤ lent.clauses) where
  pub rooms_good : (room : ℕ) → compare_outcome first second lent room ≡ fit_outcome (compare_text first second) room
  unfolding compare_outcome
  rooms_good room =
      demand_met _ _ _ _ (le-leb file_words lent.first good) ∙ demand_met _ _ _ _ (le-leb file_words lent.second good-2)
      ∙ demand_met _ _ _ _ (le-leb miter_words lent.miter good-3) ∙ demand_met _ _ _ _ (le-leb max_list lent.clauses good-4)

  pub compared_told : (answer : Result Compared FileRefusal) (clauses : List ℤ) → SaysCompared answer clauses (comparison first second) → (r : Outcome ℕ) (last out : List ℕ)
      → Yields r last (fit_outcome (compared_text (of_compared answer clauses)) (length out)) (fit_buffer (compared_text (of_compared answer clauses)) out)
      → Yields r last (compare_outcome first second lent (length out)) (compare_buffer first second lent out)
  unfolding compare_buffer compare_text
  compared_told answer clauses s r last out y = fit_told _ (compare_text first second) out _ r last (ap compared_text s.is) (rooms_good (length out)) y

-- ---- exactly where everything fits

module _ (first second : List ℕ) (lent : Rooms) (out : List ℕ) where
  abbrev text : List ℕ
  text = compare_text first second

  abbrev fits : Bool
  fits =
      leb file_words lent.first && (leb file_words lent.second && (leb miter_words lent.miter && (leb max_list lent.clauses && leb (length text) (length out))))

  one_test : compare_outcome first second lent (length out) ≡ demand fits no_room 0 (served (length text))
  unfolding compare_outcome fit_outcome
  one_test =
      ap (λ (o : Outcome ℕ). demand (leb file_words lent.first) no_room 0 o)
      (ap (λ (o : Outcome ℕ). demand (leb file_words lent.second) no_room 0 o)
      (ap (λ (o : Outcome ℕ). demand (leb miter_words lent.miter) no_room 0 o) (two_tests (leb max_list lent.clauses) _ no_room 0 _)
      ∙ two_tests (leb miter_words lent.miter) _ no_room 0 _)
      ∙ two_tests (leb file_words lent.second) _ no_room 0 _)
      ∙ two_tests (leb file_words lent.first) _ no_room 0 _

  all_fit : fits ≡ true → RoomsFit lent × (length text ≤ length out)
  all_fit e =
      let (a, f) = and_parts (leb file_words lent.first) _ e in
      let (b, g) = and_parts (leb file_words lent.second) _ f in
      let (c, h) = and_parts (leb miter_words lent.miter) _ g in
      let (d, i) = and_parts (leb max_list lent.clauses) _ h in
      ((leb-true _ _ a, leb-true _ _ b, leb-true _ _ c, leb-true _ _ d), leb-true _ _ i)

  fit_all : RoomsFit lent × (length text ≤ length out) → fits ≡ true
  fit_all ((a, b, c, d), i) = both (le-leb _ _ a) (both (le-leb _ _ b) (both (le-leb _ _ c) (both (le-leb _ _ d) (le-leb _ _ i))))

  pub call : WritesWhere (RoomsFit lent × (length text ≤ length out)) (compare_outcome first second lent (length out)) text out (compare_buffer first second lent out)
  unfolding compare_buffer
  call = writes_where (RoomsFit lent × (length text ≤ length out)) fits all_fit fit_all (compare_outcome first second lent (length out)) text out one_test

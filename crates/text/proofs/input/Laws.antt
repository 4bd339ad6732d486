-- A state in characters: reading it from its last one back, and writing it from its first one on. Assumes nothing.
use mathlib.Core.Path.{◌≡◌, refl, sym, ap, ap₂, ◌∙◌}
use mathlib.Core.Bool.{Bool, true, false, not, cond, ◌&&◌}
use mathlib.Core.List.{List, [], ◌∷◌, ◌++◌, append-nil, append_assoc}
use mathlib.Core.Option.{Option, none, some}
use Prim.Native.Nat.{ℕ, zero, suc, ◌+◌, ◌*◌, ◌-◌, ◌/◌, ◌%◌, ◌^◌, ◌≤◌, ◌<◌}
use native.Mathlib.Numerals.{add-one}
use native.Mathlib.Omega.{arith}
use lib.Dec.{leb}
use mir.Val.{bool_byte}
use lib.ListN.{length, take, drop, set, get_or, length-set, length-append}
use lib.Pow.{pow_mono}
use lib.Seq.{drop-cons, take_all}
use borrow.Author.Tests.{le-leb, lt-leb}
use Rattle.bits.specs.Lists.{over, Put}
use Rattle.bits.proofs.Bools.{both, and_second, cond-true, cond-false}
use Rattle.bits.proofs.Lists.{over_prefix}
use Rattle.circuit.specs.declared.header.Header.{Header}
use Rattle.circuit.specs.Header.{alike}
use Rattle.circuit.specs.Outcome.{Outcome, Yields}
use Rattle.circuit.proofs.Promises.{demand_met}
use Rattle.circuit.specs.Text.{tab, line_feed, digit}
use Rattle.text.specs.Dimacs.{then_read}
use Rattle.std.proofs.Common.{Result}
use Rattle.text.specs.declared.input.Outputs.{Outputs}
use Rattle.text.specs.declared.refused.FileRefusal.{FileRefusal}
use Rattle.text.specs.Answers.{fit_outcome, fit_buffer}
use Rattle.text.specs.FileOutcome.{answer_of}
use Rattle.text.specs.Compare.{file_words, differ_word}
use Rattle.text.specs.private.Checking.{SaysChecked}
use Rattle.text.specs.CheckInput.{state_text, state_read, agree_word, outputs_text, checked, checked_text, check_text, input_outcome, input_buffer}
use Rattle.text.proofs.answer.Laws.{fit_told}

-- ---- reading

none_then : (t : Bool) (f : ℕ → ℕ) (o : Option ℕ) → o ≡ none → cond t (then_read f o) none ≡ none
none_then true f o e = ap (then_read f) e
none_then false f o e = refl

-- a text of another length spells no state
pub other_length : (n : ℕ) (bs : List ℕ) → (length bs ≡ n → ⊥) → state_read n bs ≡ none
unfolding state_read
other_length zero [] h = absurd (h refl)
other_length zero (b ∷ bs) h = refl
other_length (suc n) [] h = refl
other_length (suc n) (b ∷ bs) h = none_then (leb 48 b && leb b 49) _ (state_read n bs) (other_length n bs (λ e. h (ap suc e)))

-- and none is spelled where none is by the last characters
none_before : (rest passed : List ℕ) → state_read (length passed) passed ≡ none → state_read (length (rest ++ passed)) (rest ++ passed) ≡ none
unfolding state_read
none_before [] passed e = e
none_before (b ∷ rest) passed e = none_then (leb 48 b && leb b 49) _ _ (none_before rest passed e)

-- the characters after `rest` spell x
pub record Spelling (n : ℕ) (text : List ℕ) (x : ℕ) (rest : List ℕ) : Type 0 where
  pub whole : length text ≡ n
  pub few : n ≤ 64
  pub passed : List ℕ
  pub parts : rest ++ passed ≡ text
  pub is : state_read (length passed) passed ≡ some x
  pub below : x < 2 ^ length passed

pub spelling_start : (n : ℕ) (text : List ℕ) → length text ≡ n → n ≤ 64 → Spelling n text 0 text
unfolding state_read
spelling_start n text e h = record { whole = e; few = h; passed = []; parts = append-nil text; is = refl; below = omega arith }

module _ {n : ℕ} {text : List ℕ} {x : ℕ} {rest : List ℕ} (s : Spelling n text x rest) (rest-2 : List ℕ) (b : ℕ) (e : rest ≡ rest-2 ++ (b ∷ [])) where
  next : rest-2 ++ (b ∷ s.passed) ≡ text
  next = sym (append_assoc rest-2 (b ∷ []) s.passed) ∙ ap (λ (l : List ℕ). l ++ s.passed) (sym e) ∙ s.parts

  test : state_read (suc (length s.passed)) (b ∷ s.passed) ≡ cond (leb 48 b && leb b 49) (then_read (λ (y : ℕ). (b - 48) + 2 * y) (state_read (length s.passed) s.passed)) none
  unfolding state_read
  test = refl

  -- a character that is no 0 or 1
  spelled_none : (leb 48 b && leb b 49) ≡ false → none ≡ state_read n text
  spelled_none f =
      sym (ap (λ (k : ℕ). state_read k text) (sym s.whole)
      ∙ ap (λ (l : List ℕ). state_read (length l) l) (sym next)
      ∙ none_before rest-2 (b ∷ s.passed) (test ∙ cond-false (leb 48 b && leb b 49) _ _ f))

  pub spelled_low : b < 48 → none ≡ state_read n text
  spelled_low l = spelled_none (ap (λ (t : Bool). t && leb b 49) (lt-leb 48 b l))

  pub spelled_high : 49 < b → none ≡ state_read n text
  spelled_high l = spelled_none (and_second (leb 48 b) (lt-leb b 49 l))

  module _ (low : 48 ≤ b) (high : b ≤ 49) where
    spelled_below : 2 * x + (b - 48) < 2 ^ suc (length s.passed)
    spelled_below = omega (arith, s.below)

    pub spelled_fits : 2 * x + (b - 48) < 2 ^ 64
    spelled_fits =
        omega (arith, spelled_below, pow_mono {i = suc (length s.passed)} {j = 64} (omega (arith, ap length next, length-append rest-2 (b ∷ s.passed), s.whole, s.few)))

    pub spelling_on : Spelling n text (2 * x + (b - 48)) rest-2
    spelling_on =
        let f : (b - 48) + 2 * x ≡ 2 * x + (b - 48) = omega arith in
        record {
          whole = s.whole;
          few = s.few;
          passed = b ∷ s.passed;
          parts = next;
          is =
              test
              ∙ cond-true (leb 48 b && leb b 49) _ _ (both (le-leb 48 b low) (le-leb b 49 high))
              ∙ ap (then_read (λ (y : ℕ). (b - 48) + 2 * y)) s.is
              ∙ ap some f;
          below = spelled_below;
        }

pub spelling_done : {n : ℕ} {text : List ℕ} {x : ℕ} {rest : List ℕ} → Spelling n text x rest → rest ≡ [] → some x ≡ state_read n text
spelling_done {n} {text} {x} {rest} s e =
    let f : s.passed ≡ text = ap (λ (l : List ℕ). l ++ s.passed) (sym e) ∙ s.parts in
    sym s.is ∙ ap (λ (l : List ℕ). state_read (length l) l) f ∙ ap (λ (k : ℕ). state_read k text) s.whole

-- ---- writing

pub state_long : (n x : ℕ) → length (state_text n x) ≡ n
unfolding state_text
state_long zero x = refl
state_long (suc n) x = ap suc (state_long n (x / 2))

-- the first i characters of x stand at the buffer's start, and the others are those of `left`
pub record Stating (n x : ℕ) (first out : List ℕ) (left i : ℕ) : Type 0 where
  pub inside : i ≤ n
  pub same : length out ≡ length first
  pub room : n ≤ length first
  pub is : out ≡ over (take i (state_text n x)) first
  pub rest : drop i (state_text n x) ≡ state_text (n - i) left

pub stating_start : (n x : ℕ) (out : List ℕ) → n ≤ length out → Stating n x out out x 0
stating_start n x out h =
    let z : n - 0 ≡ n = omega arith in
    record { inside = omega arith; same = refl; room = h; is = refl; rest = ap (λ (k : ℕ). state_text k x) (sym z) }

state_next : (k left : ℕ) → state_text (suc k) left ≡ digit (left % 2) ∷ state_text k (left / 2)
unfolding state_text
state_next k left = refl

pub stating_on : (n x : ℕ) (first out : List ℕ) (left i : ℕ) → Stating n x first out left i → i < n → Stating n x first (set out i (48 + left % 2)) (left / 2) (i + 1)
stating_on n x first out left i s h =
    let w : List ℕ = state_text n x in
    let e : n - i ≡ suc (n - (i + 1)) = omega arith in
    let f : get_or w i 0 ∷ drop (suc i) w ≡ digit (left % 2) ∷ state_text (n - (i + 1)) (left / 2) =
    sym (drop-cons w i 0 (omega (arith, state_long n x))) ∙ s.rest ∙ ap (λ (k : ℕ). state_text k left) e ∙ state_next (n - (i + 1)) left in
    let g : get_or w i 0 ≡ 48 + left % 2 = cc in
    let r : drop (suc i) w ≡ state_text (n - (i + 1)) (left / 2) = cc in
    record {
      inside = omega arith;
      same = length-set out i (48 + left % 2) ∙ s.same;
      room = s.room;
      is =
          ap₂ (λ (l : List ℕ) (v : ℕ). set l i v) s.is (sym g)
          ∙ over_prefix w first 0 i (omega (arith, state_long n x)) (omega (arith, s.room));
      rest = ap (λ (k : ℕ). drop k w) (add-one i) ∙ r;
    }

pub stating_done : (n x : ℕ) (first out : List ℕ) (left i : ℕ) → Stating n x first out left i → n ≤ i → Put n out (state_text n x) first
stating_done n x first out left i s h =
    record {
      count = omega (arith, state_long n x);
      buffer = s.is ∙ ap (λ (l : List ℕ). over l first) (take_all i (state_text n x) (omega (arith, state_long n x)));
    }

-- ---- the whole text

verdict_long : (t : Bool) → (5 ≤ length (cond t agree_word differ_word)) × (length (cond t agree_word differ_word) ≤ 6)
verdict_long true = (omega arith, omega arith)
verdict_long false = (omega arith, omega arith)

abbrev pub outputs_of : ℕ → ℕ → ℕ → List ℕ
outputs_of n first second = (tab ∷ state_text n first) ++ ((tab ∷ state_text n second) ++ (line_feed ∷ []))

pub outputs_long : (n first second : ℕ) → length (outputs_of n first second) ≡ 2 * n + 3
outputs_long n first second =
    omega (arith, length-append (state_text n first) ((tab ∷ state_text n second) ++ (line_feed ∷ [])), length-append (state_text n second) (line_feed ∷ []), state_long n first, state_long n second)

-- the text is as long as the verdict and the outputs
pub record Parts (h : Header) (first second : ℕ) : Type 0 where
  pub sum : length (outputs_text h first second) ≡ length (cond (alike h first second) agree_word differ_word) + (2 * h.lines + 3)
  pub low : 5 ≤ length (cond (alike h first second) agree_word differ_word)
  pub high : length (cond (alike h first second) agree_word differ_word) ≤ 6

pub parts : (h : Header) (first second : ℕ) → Parts h first second
unfolding outputs_text
parts h first second =
    let (a, b) = verdict_long (alike h first second) in
    record {
      sum = length-append (cond (alike h first second) agree_word differ_word) (outputs_of h.lines first second) ∙ omega (arith, outputs_long h.lines first second);
      low = a;
      high = b;
    }

size_by : (t : Bool) → length (cond t agree_word differ_word) ≡ 5 + bool_byte (not t)
size_by true = refl
size_by false = refl

pub size_is : (h : Header) (first second : ℕ) → length (outputs_text h first second) ≡ 2 * h.lines + 8 + bool_byte (not (alike h first second))
size_is h first second = omega (arith, (parts h first second).sum, size_by (alike h first second))

-- ---- the call, by the rooms that are lent

module _ (first second state : List ℕ) (room_a room_b : ℕ) (out : List ℕ) where
  abbrev outcome : Outcome ℕ
  outcome = input_outcome first second state room_a room_b (length out)

  module _ (good : file_words ≤ room_a) where
    module _ (good-2 : file_words ≤ room_b) where
      pub rooms_good : outcome ≡ fit_outcome (check_text first second state) (length out)
      unfolding input_outcome
      rooms_good = demand_met _ _ _ _ (le-leb file_words room_a good) ∙ demand_met _ _ _ _ (le-leb file_words room_b good-2)

      pub checked_told : (x : Result Outputs FileRefusal) → SaysChecked x (checked first second state) → (r : Outcome ℕ) (last : List ℕ)
          → Yields r last (fit_outcome (checked_text (answer_of x)) (length out)) (fit_buffer (checked_text (answer_of x)) out) → Yields r last outcome (input_buffer first second state room_a room_b out)
      unfolding input_buffer check_text
      checked_told x s r last y = fit_told _ (check_text first second state) out outcome r last (ap checked_text s.is) rooms_good y

-- What is proved of the calls that make a list of words wide or narrow, and of any such calls.
use Rattle.std.specs.Prelude.{◌≡◌, ℕ, ◌<◌, ◌≤◌, Bool, true, false, ◌↔◌, List, length, take, ℤ}
use Rattle.std.specs.Int.{w16, w32}
use mir.Val.{SFits}
use Rattle.bits.specs.Lists.{over}
use Rattle.circuit.specs.declared.gate.Gate.{Gate}
use Rattle.circuit.specs.declared.header.Header.{Header}
use Rattle.circuit.specs.Gate.{max_lines}
use Rattle.circuit.specs.Outcome.{Outcome, served, refused, Wrong, Fails, Untouched}
use Rattle.circuit.specs.Refusal.{no_room, word_too_wide}
use Rattle.circuit.specs.Words.{all_valid}
use Rattle.checking.specs.Each.{Every, AtFirst}
use Rattle.checking.specs.Clauses.{clauses_of, variables_of}
use Rattle.checking.specs.Pair.{pair_clauses, pair_variables}
use Rattle.checking.specs.Stored.{stored, clauses_in, FitsWord}
use Rattle.checking.specs.Widths.{narrow_limit, Narrow, is_narrow, widen_outcome, widen_buffer, narrow_outcome, narrow_buffer}

-- every word passes a test
abbrev pub Passing : (ℤ → Bool) → List ℤ → Type 0
Passing test ws = Every (λ (w : ℤ). test w ≡ true) ws

-- what is wrong with a list for a buffer that holds the words which pass a test: 16 at the first that does not; or 10 for a shorter buffer
abbrev pub ConvertRefused : (ℤ → Bool) → List ℤ → ℕ → ℕ → ℕ → Type 0
ConvertRefused test ws room =
    Wrong (AtFirst (λ w. test w ≡ true) (λ w. test w ≡ false) ws word_too_wide) (λ k. (k ≡ length ws) × Passing test ws) (λ k. Fails (room < k) no_room 0)

-- a call that puts a list into such a buffer, by what it answers and what it leaves
pub record Converts (test : ℤ → Bool) (answer : List ℤ → ℕ → Outcome ℕ) (leaves : List ℤ → List ℤ → List ℤ) : Type 0 where
  -- served exactly where each word passes and the buffer has room, with the number of words; else refused by what is wrong
  pub served_exactly : (ws : List ℤ) (room k : ℕ) → (answer ws room ≡ served k) ↔ ((Passing test ws) × (length ws ≤ room) × (k ≡ length ws))
  pub refused_exactly : (ws : List ℤ) (room number place : ℕ) → (answer ws room ≡ refused number place) ↔ ConvertRefused test ws room number place
  -- the words at the buffer's start and the rest as it was, or the buffer as it was
  pub puts : (ws out : List ℤ) (k : ℕ) → answer ws (length out) ≡ served k → leaves ws out ≡ over ws out
  pub untouched : (ws out : List ℤ) → Untouched (answer ws (length out)) out (leaves ws out)

pub record WidthLaws : Type 0 where
  -- the test of a word: −32,768 to 32,767, exactly the words of 16 bits, and the words of a clause list are those of 32
  pub narrow_word : (w : ℤ) → (is_narrow w ≡ true) ↔ Narrow w
  pub narrow_bits : (w : ℤ) → Narrow w ↔ SFits w16 w
  pub word_bits : (w : ℤ) → FitsWord w ↔ SFits w32 w
  -- every list of words of 16 bits is made wide, and exactly those of such words are made narrow
  pub widens : Converts (λ w. true) widen_outcome widen_buffer
  pub narrows : Converts is_narrow narrow_outcome narrow_buffer
  -- every such call answers and leaves the same
  pub converts_only : (test : ℤ → Bool) (f g : List ℤ → ℕ → Outcome ℕ) (left right : List ℤ → List ℤ → List ℤ) → Converts test f left → Converts test g right
      → ((ws : List ℤ) (room : ℕ) → f ws room ≡ g ws room) × ((ws out : List ℤ) → left ws out ≡ right ws out)
  -- there and back, both ways: what one call was served with comes back by the other, where its words hold the list
  pub comes_back : (test again : ℤ → Bool) (f g : List ℤ → ℕ → Outcome ℕ) (left right : List ℤ → List ℤ → List ℤ) → Converts test f left → Converts again g right
      → (ws out back : List ℤ) (k : ℕ) → f ws (length out) ≡ served k → Passing again ws → length ws ≤ length back
      → (g (take k (left ws out)) (length back) ≡ served k) × (take k (right (take k (left ws out)) back) ≡ ws)
  -- the same clauses are read back, or the same record is bad
  pub reads_same : (test : ℤ → Bool) (f : List ℤ → ℕ → Outcome ℕ) (left : List ℤ → List ℤ → List ℤ) → Converts test f left
      → (ws out : List ℤ) (k : ℕ) → f ws (length out) ≡ served k → clauses_in (take k (left ws out)) ≡ clauses_in ws
  -- a call that is served for a list with a wider word does not narrow: cut off, a word has another value
  pub cut_off : (answer : List ℤ → ℕ → Outcome ℕ) (leaves : List ℤ → List ℤ → List ℤ) (ws : List ℤ) (room k : ℕ) → answer ws room ≡ served k → (Every Narrow ws → ⊥) → Converts is_narrow answer leaves → ⊥
  -- the clause list of a cascade, and of a pair, with so few variables is one of 16 bits
  pub narrow_list : (n : ℕ) (gs : List Gate) → n ≤ max_lines → all_valid n gs ≡ true → variables_of n gs < narrow_limit → Every Narrow (stored (clauses_of n gs))
  pub narrow_pair : (h : Header) (a b : List Gate) → h.lines ≤ max_lines → all_valid h.lines a ≡ true → all_valid h.lines b ≡ true → pair_variables h a b < narrow_limit
      → Every Narrow (stored (pair_clauses h a b))

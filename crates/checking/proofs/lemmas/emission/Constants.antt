-- What the emission's walk over the constants writes, line by line. Assumes nothing.
use Rattle.std.proofs.Common.{◌≡◌, ℕ, ◌+◌, ◌-◌, ◌^◌, ◌<◌, ◌≤◌, List, [], ◌∷◌, ◌++◌, map, length, take, drop, ℤ, pos, sym, refl, ap, ◌∙◌, arith, length-append}
use mathlib.Core.List.{map-append}
use lib.Bits.{bit_and, and_le_l}
use lib.Count.{count_trailing_zeros}
use borrow.Rule.Slice.PartMut.{put_mid}
use Rattle.bits.specs.Digits.{bit, lines_in}
use Rattle.bits.specs.Lists.{over, Put}
use Rattle.bits.proofs.Lists.{over_length, lent_over}
use Rattle.bits.proofs.Lowest.{lowest_below, lines_on, lines_done}
use Rattle.circuit.specs.declared.header.Header.{Header}
use Rattle.circuit.specs.Gate.{max_lines}
use Rattle.checking.specs.Clauses.{input_of}
use Rattle.checking.specs.Pair.{constant_clause, constant_clauses}
use Rattle.checking.specs.Stored.{stored}
use Rattle.checking.specs.private.Emitter.{literal_word}
use Rattle.checking.specs.private.Emission.{ConstantsReady}
use Rattle.checking.proofs.lemmas.clauses.Reading.{stored_append}

-- the clauses of the constants on these lines, in words
abbrev constants_stored : Header → List ℕ → List ℤ
constants_stored h lines = stored (map (constant_clause h) lines)

constants_append : (h : Header) (xs ys : List ℕ) → constants_stored h (xs ++ ys) ≡ constants_stored h xs ++ constants_stored h ys
constants_append h xs ys = ap stored (map-append (constant_clause h) xs ys) ∙ stored_append (map (constant_clause h) xs) (map (constant_clause h) ys)

-- the words of one
abbrev pub constant_words : Header → ℕ → List ℤ
constant_words h line = pos 0 ∷ pos 1 ∷ literal_word (bit h.values line) (line + 1) ∷ []

one_constant : (h : Header) (line : ℕ) → constants_stored h (line ∷ []) ≡ constant_words h line
unfolding stored
one_constant h line =
    let e : input_of line ≡ line + 1 = omega arith in
    ap (λ (v : ℕ). pos 0 ∷ pos 1 ∷ literal_word (bit h.values line) v ∷ []) e

-- those before `left` stand at the buffer's start, and the others are left
pub record Walked (h : Header) (first out : List ℤ) (left at : ℕ) : Type 0 where
  pub below : left < 2 ^ h.lines
  pub passed : List ℕ
  pub all : lines_in h.constants h.lines ≡ passed ++ lines_in left h.lines
  pub place : length (constants_stored h passed) ≡ at
  pub as_long : length out ≡ length first
  pub buffer : out ≡ over (constants_stored h passed) first

pub walked_none : (h : Header) (first : List ℤ) → ConstantsReady h (length first) → Walked h first first h.constants 0
unfolding stored
walked_none h first ready = record { below = ready.below; passed = []; all = refl; place = refl; as_long = refl; buffer = refl }

module _ (h : Header) (first out : List ℤ) (left at : ℕ) (ready : ConstantsReady h (length first)) (w : Walked h first out left at) where
  abbrev n : ℕ
  n = h.lines

  pub walked_all : left ≡ 0 → Put at out (stored (constant_clauses h)) first
  walked_all e =
      let done : constants_stored h w.passed ≡ stored (constant_clauses h) = sym (ap (constants_stored h) (lines_done max_lines n h.constants left w.passed w.all e)) in
      record { count = sym w.place ∙ ap length done; buffer = w.buffer ∙ ap (λ (l : List ℤ). over l first) done }

  -- a line is left
  module _ (some : left ≡ 0 → ⊥) (line : ℕ) (is : line ≡ count_trailing_zeros max_lines left) where
    pub line_below : line < n
    line_below = omega (arith, is, lowest_below max_lines n left ready.lines (omega arith) w.below)

    more : lines_in h.constants n ≡ (w.passed ++ (line ∷ [])) ++ lines_in (bit_and left (left - 1)) n
    more = lines_on max_lines n h.constants left w.passed w.all ready.lines (omega arith) w.below line is

    passed_more : constants_stored h (w.passed ++ (line ∷ [])) ≡ constants_stored h w.passed ++ constant_words h line
    passed_more = constants_append h w.passed (line ∷ []) ∙ ap (λ (l : List ℤ). constants_stored h w.passed ++ l) (one_constant h line)

    long : length (constants_stored h (w.passed ++ (line ∷ []))) ≡ at + 3
    long = omega (arith, ap length passed_more, length-append (constants_stored h w.passed) (constant_words h line), w.place)

    pub constant_room : at + 3 ≤ length out
    constant_room =
        omega (
          arith,
          long,
          ap (λ (l : List ℕ). length (constants_stored h l)) more,
          ap length (constants_append h (w.passed ++ (line ∷ [])) (lines_in (bit_and left (left - 1)) n)),
          length-append (constants_stored h (w.passed ++ (line ∷ []))) (constants_stored h (lines_in (bit_and left (left - 1)) n)),
          ready.enough,
          w.as_long,
        )

    pub walked_next : (last : List ℤ) (words : ℕ) → Put words last (constant_words h line) (take (length out - at) (drop at out))
        → Walked h first (put_mid at (length out - at) out last) (bit_and left (left - 1)) (at + words)
    walked_next last words p =
        let filled = lent_over (constants_stored h w.passed) (constant_words h line) first out last at w.buffer w.place (omega (arith, constant_room)) p.buffer in
        record {
          below = omega (arith, and_le_l left (left - 1), w.below);
          passed = w.passed ++ (line ∷ []);
          all = more;
          place = omega (arith, long, p.count);
          as_long = ap length filled ∙ over_length (constants_stored h w.passed ++ constant_words h line) first (omega (arith, ap length passed_more, long, constant_room, w.as_long));
          buffer = filled ∙ ap (λ (l : List ℤ). over l first) (sym passed_more);
        }

-- Two gates: how they match, and what remains, by document 01; whether they may pass each other, by T-01 of document 02.
use Rattle.std.specs.Prelude.{ℕ, ◌^◌, Bool, cond, not, ◌&&◌, ◌||◌, List, [], ◌∷◌, ◌==◌, bit_and, bit_or, bit_xor, count_ones}
use Rattle.std.specs.declared.option.Option.{Option}
use Rattle.std.specs.declared.option.Option.TheVariants.{None, Some}
use Rattle.circuit.specs.declared.gate.Gate.{Gate}
use Rattle.checking.specs.declared.step.Kind as declared_kind
use Rattle.checking.specs.declared.step.Kind.TheVariants as kind
use Rattle.checking.specs.declared.step.Match as declared_match
use Rattle.checking.specs.declared.step.Match.TheVariants as match

-- the control lines
unfoldable pub control_lines : Gate → ℕ
control_lines g = bit_or g.positive g.negative

-- neither's target is a control of the other
unfoldable pub targets_uncontrolled : Gate → Gate → Bool
targets_uncontrolled g h = bit_and (control_lines h) (2 ^ g.target) == 0 && bit_and (control_lines g) (2 ^ h.target) == 0

-- the lines that are a positive control of one and a negative control of the other
unfoldable pub opposing : Gate → Gate → ℕ
opposing g h = bit_or (bit_and g.positive h.negative) (bit_and g.negative h.positive)

-- neither's target is a control of the other, or some line is a positive control of one and a negative control of the other
unfoldable pub may_pass : Gate → Gate → Bool
may_pass g h = targets_uncontrolled g h || not (opposing g h == 0)

-- what two gates that differ on one control line leave: without that control, and with it reversed
unfoldable pub control_removed : Gate → Gate → Gate
control_removed g h =
    record {
      positive = bit_and g.positive h.positive;
      negative = bit_and g.negative h.negative;
      target = h.target;
    }

unfoldable pub control_inverted : Gate → Gate → Gate
control_inverted g h =
    record {
      positive = bit_or (bit_and g.positive h.positive) (bit_xor g.negative h.negative);
      negative = bit_or (bit_and g.negative h.negative) (bit_xor g.positive h.positive);
      target = h.target;
    }

-- the lines on which the controls differ
unfoldable pub differing : Gate → Gate → ℕ
differing g h = bit_or (bit_xor g.positive h.positive) (bit_xor g.negative h.negative)

-- which match it was, with its number in C: 01 has none
pub data Kind : Type 0 where
  pair drop turn : Kind

abbrev pub kind_number : Kind → ℕ
kind_number Kind.pair = 0
kind_number Kind.drop = 1
kind_number Kind.turn = 2

-- a match, with the gate that remains
pub data Match : Type 0 where
  pair : Match
  drop turn : Gate → Match

-- two gates match or do not
pub data Compared : Type 0 where
  apart : Compared
  matched : Match → Compared

-- how two gates with the same target match: they differ on no line, or on one, in both masks (drop) or in one (turn)
unfoldable pub match_of : Gate → Gate → Compared
match_of g h =
    cond (g.target == h.target)
    (cond (differing g h == 0) (matched Match.pair)
    (cond (count_ones (differing g h) == 1)
    (cond (bit_xor g.positive h.positive == bit_xor g.negative h.negative)
    (matched (Match.drop (control_removed g h)))
    (matched (Match.turn (control_inverted g h))))
    apart))
    apart

-- which match it was, and the gate that remains
abbrev pub kind_of : Match → Kind
kind_of Match.pair = Kind.pair
kind_of (Match.drop r) = Kind.drop
kind_of (Match.turn r) = Kind.turn

abbrev pub remaining : Match → List Gate
remaining Match.pair = []
remaining (Match.drop r) = r ∷ []
remaining (Match.turn r) = r ∷ []

-- the code's answers in document 01's words
abbrev pub of_kind : declared_kind.Kind → Kind
of_kind kind.Cancel = Kind.pair
of_kind kind.RemoveControl = Kind.drop
of_kind kind.InvertControl = Kind.turn

abbrev pub of_match : declared_match.Match → Match
of_match match.Cancel = Match.pair
of_match (match.RemoveControl r) = Match.drop r
of_match (match.InvertControl r) = Match.turn r

abbrev pub of_matched : Option declared_match.Match → Compared
of_matched None = apart
of_matched (Some m) = matched (of_match m)

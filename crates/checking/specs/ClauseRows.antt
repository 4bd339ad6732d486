-- Rows by full literals: cascades with the sizes, the clauses and the stored words that document 01 gives them. A pair's clause list is that of its miter; against the empty cascade that is the cascade itself.
use Rattle.std.specs.Prelude.{◌≡◌, ℕ, List, [], ◌∷◌, ℤ}
use Rattle.bits.specs.Lists.{All}
use Rattle.circuit.specs.declared.gate.Gate.{Gate}
use Rattle.checking.specs.declared.clauses.Totals.{Totals}
use Rattle.checking.specs.Clauses.{Clause, OR, XOR, plus, minus, clauses_of}
use Rattle.checking.specs.Stored.{stored}
use Rattle.checking.specs.Rows.{gate}
use Rattle.checking.specs.Sizes.{totals, sizes_of}

pub record ClauseRow : Type 0 where
  pub lines : ℕ
  pub gates : List Gate
  pub sizes : Totals
  pub clauses : List Clause

abbrev row : ℕ → List Gate → Totals → List Clause → ClauseRow
row lines gates sizes clauses = record { lines = lines; gates = gates; sizes = sizes; clauses = clauses }

-- n = 1, both empty
abbrev pub empty_row : ClauseRow
empty_row =
    row 1 [] (totals 2 2 6)
    (OR (minus 2 ∷ []) ∷ OR (plus 2 ∷ []) ∷ [])

-- n = 3, t2+0+1 against empty
abbrev pub two_row : ClauseRow
two_row =
    row 3 (gate 2 3 0 ∷ []) (totals 8 8 34)
    (OR (plus 4 ∷ minus 1 ∷ minus 2 ∷ []) ∷ OR (minus 4 ∷ plus 1 ∷ []) ∷ OR (minus 4 ∷ plus 2 ∷ []) ∷ XOR (minus 5 ∷ plus 3 ∷ plus 4 ∷ []) ∷ OR (minus 6 ∷ [])
    ∷ OR (minus 7 ∷ []) ∷ XOR (minus 8 ∷ plus 3 ∷ plus 5 ∷ []) ∷ OR (plus 6 ∷ plus 7 ∷ plus 8 ∷ []) ∷ [])

-- 01's printed example: t1+0 against empty, n = 2
abbrev pub printed_row : ClauseRow
printed_row =
    row 2 (gate 1 1 0 ∷ []) (totals 5 4 17)
    (XOR (minus 3 ∷ plus 2 ∷ plus 1 ∷ []) ∷ OR (minus 4 ∷ []) ∷ XOR (minus 5 ∷ plus 2 ∷ plus 3 ∷ []) ∷ OR (plus 4 ∷ plus 5 ∷ []) ∷ [])

-- no control: t0
abbrev pub not_row : ClauseRow
not_row =
    row 1 (gate 0 0 0 ∷ []) (totals 3 3 12)
    (XOR (plus 2 ∷ plus 1 ∷ []) ∷ XOR (minus 3 ∷ plus 1 ∷ plus 2 ∷ []) ∷ OR (plus 3 ∷ []) ∷ [])

-- one negative control: t0-1
abbrev pub negative_row : ClauseRow
negative_row =
    row 2 (gate 0 0 2 ∷ []) (totals 5 4 17)
    (XOR (minus 3 ∷ plus 1 ∷ minus 2 ∷ []) ∷ XOR (minus 4 ∷ plus 1 ∷ plus 3 ∷ []) ∷ OR (minus 5 ∷ []) ∷ OR (plus 4 ∷ plus 5 ∷ []) ∷ [])

-- t0, then both polarities: t1+0-2
abbrev pub both_row : ClauseRow
both_row =
    row 3 (gate 0 0 0 ∷ gate 1 1 4 ∷ []) (totals 9 9 40)
    (XOR (plus 4 ∷ plus 1 ∷ []) ∷ OR (plus 5 ∷ minus 4 ∷ plus 3 ∷ []) ∷ OR (minus 5 ∷ plus 4 ∷ []) ∷ OR (minus 5 ∷ minus 3 ∷ [])
    ∷ XOR (minus 6 ∷ plus 2 ∷ plus 5 ∷ []) ∷ XOR (minus 7 ∷ plus 1 ∷ plus 4 ∷ []) ∷ XOR (minus 8 ∷ plus 2 ∷ plus 6 ∷ []) ∷ OR (minus 9 ∷ [])
    ∷ OR (plus 7 ∷ plus 8 ∷ plus 9 ∷ []) ∷ [])

-- 63 controls of both polarities: t63, positive on even lines
abbrev pub long_row : ClauseRow
long_row =
    row 64 (gate 63 6148914691236517205 3074457345618258602 ∷ []) (totals 130 130 583)
    (OR (plus 65 ∷ minus 1 ∷ plus 2 ∷ minus 3 ∷ plus 4 ∷ minus 5 ∷ plus 6 ∷ minus 7 ∷ plus 8 ∷ minus 9 ∷ plus 10 ∷ minus 11 ∷ plus 12 ∷ minus 13 ∷ plus 14 ∷ minus 15 ∷ plus 16 ∷ minus 17 ∷ plus 18 ∷ minus 19 ∷ plus 20 ∷ minus 21 ∷ plus 22 ∷ minus 23 ∷ plus 24 ∷ minus 25 ∷ plus 26 ∷ minus 27 ∷ plus 28 ∷ minus 29 ∷ plus 30 ∷ minus 31 ∷ plus 32 ∷ minus 33 ∷ plus 34 ∷ minus 35 ∷ plus 36 ∷ minus 37 ∷ plus 38 ∷ minus 39 ∷ plus 40 ∷ minus 41 ∷ plus 42 ∷ minus 43 ∷ plus 44 ∷ minus 45 ∷ plus 46 ∷ minus 47 ∷ plus 48 ∷ minus 49 ∷ plus 50 ∷ minus 51 ∷ plus 52 ∷ minus 53 ∷ plus 54 ∷ minus 55 ∷ plus 56 ∷ minus 57 ∷ plus 58 ∷ minus 59 ∷ plus 60 ∷ minus 61 ∷ plus 62 ∷ minus 63 ∷ [])
    ∷ OR (minus 65 ∷ plus 1 ∷ []) ∷ OR (minus 65 ∷ minus 2 ∷ []) ∷ OR (minus 65 ∷ plus 3 ∷ []) ∷ OR (minus 65 ∷ minus 4 ∷ []) ∷ OR (minus 65 ∷ plus 5 ∷ [])
    ∷ OR (minus 65 ∷ minus 6 ∷ []) ∷ OR (minus 65 ∷ plus 7 ∷ []) ∷ OR (minus 65 ∷ minus 8 ∷ []) ∷ OR (minus 65 ∷ plus 9 ∷ []) ∷ OR (minus 65 ∷ minus 10 ∷ [])
    ∷ OR (minus 65 ∷ plus 11 ∷ []) ∷ OR (minus 65 ∷ minus 12 ∷ []) ∷ OR (minus 65 ∷ plus 13 ∷ []) ∷ OR (minus 65 ∷ minus 14 ∷ [])
    ∷ OR (minus 65 ∷ plus 15 ∷ []) ∷ OR (minus 65 ∷ minus 16 ∷ []) ∷ OR (minus 65 ∷ plus 17 ∷ []) ∷ OR (minus 65 ∷ minus 18 ∷ [])
    ∷ OR (minus 65 ∷ plus 19 ∷ []) ∷ OR (minus 65 ∷ minus 20 ∷ []) ∷ OR (minus 65 ∷ plus 21 ∷ []) ∷ OR (minus 65 ∷ minus 22 ∷ [])
    ∷ OR (minus 65 ∷ plus 23 ∷ []) ∷ OR (minus 65 ∷ minus 24 ∷ []) ∷ OR (minus 65 ∷ plus 25 ∷ []) ∷ OR (minus 65 ∷ minus 26 ∷ [])
    ∷ OR (minus 65 ∷ plus 27 ∷ []) ∷ OR (minus 65 ∷ minus 28 ∷ []) ∷ OR (minus 65 ∷ plus 29 ∷ []) ∷ OR (minus 65 ∷ minus 30 ∷ [])
    ∷ OR (minus 65 ∷ plus 31 ∷ []) ∷ OR (minus 65 ∷ minus 32 ∷ []) ∷ OR (minus 65 ∷ plus 33 ∷ []) ∷ OR (minus 65 ∷ minus 34 ∷ [])
    ∷ OR (minus 65 ∷ plus 35 ∷ []) ∷ OR (minus 65 ∷ minus 36 ∷ []) ∷ OR (minus 65 ∷ plus 37 ∷ []) ∷ OR (minus 65 ∷ minus 38 ∷ [])
    ∷ OR (minus 65 ∷ plus 39 ∷ []) ∷ OR (minus 65 ∷ minus 40 ∷ []) ∷ OR (minus 65 ∷ plus 41 ∷ []) ∷ OR (minus 65 ∷ minus 42 ∷ [])
    ∷ OR (minus 65 ∷ plus 43 ∷ []) ∷ OR (minus 65 ∷ minus 44 ∷ []) ∷ OR (minus 65 ∷ plus 45 ∷ []) ∷ OR (minus 65 ∷ minus 46 ∷ [])
    ∷ OR (minus 65 ∷ plus 47 ∷ []) ∷ OR (minus 65 ∷ minus 48 ∷ []) ∷ OR (minus 65 ∷ plus 49 ∷ []) ∷ OR (minus 65 ∷ minus 50 ∷ [])
    ∷ OR (minus 65 ∷ plus 51 ∷ []) ∷ OR (minus 65 ∷ minus 52 ∷ []) ∷ OR (minus 65 ∷ plus 53 ∷ []) ∷ OR (minus 65 ∷ minus 54 ∷ [])
    ∷ OR (minus 65 ∷ plus 55 ∷ []) ∷ OR (minus 65 ∷ minus 56 ∷ []) ∷ OR (minus 65 ∷ plus 57 ∷ []) ∷ OR (minus 65 ∷ minus 58 ∷ [])
    ∷ OR (minus 65 ∷ plus 59 ∷ []) ∷ OR (minus 65 ∷ minus 60 ∷ []) ∷ OR (minus 65 ∷ plus 61 ∷ []) ∷ OR (minus 65 ∷ minus 62 ∷ [])
    ∷ OR (minus 65 ∷ plus 63 ∷ []) ∷ XOR (minus 66 ∷ plus 64 ∷ plus 65 ∷ []) ∷ OR (minus 67 ∷ []) ∷ OR (minus 68 ∷ []) ∷ OR (minus 69 ∷ [])
    ∷ OR (minus 70 ∷ []) ∷ OR (minus 71 ∷ []) ∷ OR (minus 72 ∷ []) ∷ OR (minus 73 ∷ []) ∷ OR (minus 74 ∷ []) ∷ OR (minus 75 ∷ []) ∷ OR (minus 76 ∷ [])
    ∷ OR (minus 77 ∷ []) ∷ OR (minus 78 ∷ []) ∷ OR (minus 79 ∷ []) ∷ OR (minus 80 ∷ []) ∷ OR (minus 81 ∷ []) ∷ OR (minus 82 ∷ []) ∷ OR (minus 83 ∷ [])
    ∷ OR (minus 84 ∷ []) ∷ OR (minus 85 ∷ []) ∷ OR (minus 86 ∷ []) ∷ OR (minus 87 ∷ []) ∷ OR (minus 88 ∷ []) ∷ OR (minus 89 ∷ []) ∷ OR (minus 90 ∷ [])
    ∷ OR (minus 91 ∷ []) ∷ OR (minus 92 ∷ []) ∷ OR (minus 93 ∷ []) ∷ OR (minus 94 ∷ []) ∷ OR (minus 95 ∷ []) ∷ OR (minus 96 ∷ []) ∷ OR (minus 97 ∷ [])
    ∷ OR (minus 98 ∷ []) ∷ OR (minus 99 ∷ []) ∷ OR (minus 100 ∷ []) ∷ OR (minus 101 ∷ []) ∷ OR (minus 102 ∷ []) ∷ OR (minus 103 ∷ []) ∷ OR (minus 104 ∷ [])
    ∷ OR (minus 105 ∷ []) ∷ OR (minus 106 ∷ []) ∷ OR (minus 107 ∷ []) ∷ OR (minus 108 ∷ []) ∷ OR (minus 109 ∷ []) ∷ OR (minus 110 ∷ []) ∷ OR (minus 111 ∷ [])
    ∷ OR (minus 112 ∷ []) ∷ OR (minus 113 ∷ []) ∷ OR (minus 114 ∷ []) ∷ OR (minus 115 ∷ []) ∷ OR (minus 116 ∷ []) ∷ OR (minus 117 ∷ []) ∷ OR (minus 118 ∷ [])
    ∷ OR (minus 119 ∷ []) ∷ OR (minus 120 ∷ []) ∷ OR (minus 121 ∷ []) ∷ OR (minus 122 ∷ []) ∷ OR (minus 123 ∷ []) ∷ OR (minus 124 ∷ []) ∷ OR (minus 125 ∷ [])
    ∷ OR (minus 126 ∷ []) ∷ OR (minus 127 ∷ []) ∷ OR (minus 128 ∷ []) ∷ OR (minus 129 ∷ []) ∷ XOR (minus 130 ∷ plus 64 ∷ plus 66 ∷ [])
    ∷ OR (plus 67 ∷ plus 68 ∷ plus 69 ∷ plus 70 ∷ plus 71 ∷ plus 72 ∷ plus 73 ∷ plus 74 ∷ plus 75 ∷ plus 76 ∷ plus 77 ∷ plus 78 ∷ plus 79 ∷ plus 80 ∷ plus 81 ∷ plus 82 ∷ plus 83 ∷ plus 84 ∷ plus 85 ∷ plus 86 ∷ plus 87 ∷ plus 88 ∷ plus 89 ∷ plus 90 ∷ plus 91 ∷ plus 92 ∷ plus 93 ∷ plus 94 ∷ plus 95 ∷ plus 96 ∷ plus 97 ∷ plus 98 ∷ plus 99 ∷ plus 100 ∷ plus 101 ∷ plus 102 ∷ plus 103 ∷ plus 104 ∷ plus 105 ∷ plus 106 ∷ plus 107 ∷ plus 108 ∷ plus 109 ∷ plus 110 ∷ plus 111 ∷ plus 112 ∷ plus 113 ∷ plus 114 ∷ plus 115 ∷ plus 116 ∷ plus 117 ∷ plus 118 ∷ plus 119 ∷ plus 120 ∷ plus 121 ∷ plus 122 ∷ plus 123 ∷ plus 124 ∷ plus 125 ∷ plus 126 ∷ plus 127 ∷ plus 128 ∷ plus 129 ∷ plus 130 ∷ []) ∷ [])

-- the sizes and the clauses of every row are those that the definitions give
abbrev pub RowsHold : List ClauseRow → Type 0
RowsHold rs = All (λ (r : ClauseRow). (sizes_of r.lines r.gates ≡ r.sizes) × (clauses_of r.lines r.gates ≡ r.clauses)) rs

abbrev pub clause_rows : List ClauseRow
clause_rows = empty_row ∷ two_row ∷ printed_row ∷ not_row ∷ negative_row ∷ both_row ∷ long_row ∷ []

-- a cascade with the words in which its clauses are stored
pub record WordsRow : Type 0 where
  pub lines : ℕ
  pub gates : List Gate
  pub words : List ℤ

-- 01's printed example, t1+0 against empty, n = 2: XOR of three, OR of one, XOR of three, OR of two
abbrev pub printed_words : WordsRow
printed_words =
    record {
      lines = 2;
      gates = gate 1 1 0 ∷ [];
      words =
          plus 1 ∷ plus 3 ∷ minus 3 ∷ plus 2 ∷ plus 1
          ∷ plus 0 ∷ plus 1 ∷ minus 4
          ∷ plus 1 ∷ plus 3 ∷ minus 5 ∷ plus 2 ∷ plus 3
          ∷ plus 0 ∷ plus 2 ∷ plus 4 ∷ plus 5 ∷ [];
    }

abbrev pub WordsHold : List WordsRow → Type 0
WordsHold rs = All (λ (r : WordsRow). stored (clauses_of r.lines r.gates) ≡ r.words) rs

abbrev pub words_rows : List WordsRow
words_rows = printed_words ∷ []

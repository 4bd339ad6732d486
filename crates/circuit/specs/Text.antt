-- The text of a cascade, by documents 01 and 02.
use Rattle.std.specs.Prelude.{ℕ, ◌+◌, ◌/◌, ◌%◌, Bool, cond, List, [], ◌∷◌, ◌++◌, nat_lt}
use Rattle.std.specs.List.{flat_map}
use Rattle.bits.specs.Digits.{bit, lines_in}
use Rattle.circuit.specs.declared.gate.Gate.{Gate}
use Rattle.circuit.specs.declared.header.Header.{Header}
use Rattle.circuit.specs.Gate.{Control, controls_of}

-- tab, LF, `+`, `-`, and the digit of a number below 10
abbrev pub tab : ℕ
tab = 9

abbrev pub line_feed : ℕ
line_feed = 10

abbrev pub plus_sign : ℕ
plus_sign = 43

abbrev pub minus_sign : ℕ
minus_sign = 45

abbrev pub digit : ℕ → ℕ
digit k = 48 + k

-- `lines`, `const`, `junk`, `g`, `end`
abbrev pub lines_word : List ℕ
lines_word = 108 ∷ 105 ∷ 110 ∷ 101 ∷ 115 ∷ []

abbrev pub const_word : List ℕ
const_word = 99 ∷ 111 ∷ 110 ∷ 115 ∷ 116 ∷ []

abbrev pub junk_word : List ℕ
junk_word = 106 ∷ 117 ∷ 110 ∷ 107 ∷ []

abbrev pub gate_word : List ℕ
gate_word = 103 ∷ []

abbrev pub end_word : List ℕ
end_word = 101 ∷ 110 ∷ 100 ∷ []

-- a number below 100: decimal, one or two digits, no leading zero
unfoldable pub number_text : ℕ → List ℕ
number_text k = cond (nat_lt k 10) (digit k ∷ []) (digit (k / 10) ∷ digit (k % 10) ∷ [])

-- a control: its sign and its line
abbrev pub control_text : Control → List ℕ
control_text c = cond c.positive plus_sign minus_sign ∷ number_text c.line

-- fields, each after a tab
unfoldable pub controls_text : List Control → List ℕ
controls_text [] = []
controls_text (c ∷ cs) = (tab ∷ control_text c) ++ controls_text cs

-- a gate's line without its LF: `g`, target, then each control by rising line
abbrev pub gate_text : Gate → List ℕ
gate_text g = gate_word ++ (tab ∷ (number_text g.target ++ controls_text (controls_of g)))

-- lines, each with its LF
abbrev pub count_line : ℕ → List ℕ
count_line n = lines_word ++ (tab ∷ (number_text n ++ (line_feed ∷ [])))

abbrev pub gate_line : Gate → List ℕ
gate_line g = gate_text g ++ (line_feed ∷ [])

abbrev pub end_line : List ℕ
end_line = end_word ++ (line_feed ∷ [])

unfoldable pub gate_lines : List Gate → List ℕ
gate_lines [] = []
gate_lines (g ∷ gs) = gate_line g ++ gate_lines gs

-- the line of a constant and its value, and that of a junk line
abbrev pub const_line : ℕ → Bool → List ℕ
const_line k value = const_word ++ (tab ∷ (number_text k ++ (tab ∷ digit (cond value 1 0) ∷ line_feed ∷ [])))

abbrev pub junk_line : ℕ → List ℕ
junk_line k = junk_word ++ (tab ∷ (number_text k ++ (line_feed ∷ [])))

-- the constants of a header, and its junk lines, by rising line
abbrev pub const_lines : Header → List ℕ
const_lines h = flat_map (λ k. const_line k (bit h.values k)) (lines_in h.constants h.lines)

abbrev pub junk_lines : Header → List ℕ
junk_lines h = flat_map junk_line (lines_in h.junk h.lines)

-- the lines before those of the gates: `lines`, n; each constant; each junk line
abbrev pub header_lines : Header → List ℕ
header_lines h = count_line h.lines ++ (const_lines h ++ junk_lines h)

-- first the header's lines; each gate; last `end`
abbrev pub text_of : Header → List Gate → List ℕ
text_of h gs = header_lines h ++ (gate_lines gs ++ end_line)

-- The laws of the writer of mark lines: the lines of a mask are those of a header, and how long they are. Assumes nothing.
use Rattle.std.proofs.Common.{◌≡◌, ℕ, ◌+◌, ◌*◌, ◌/◌, ◌^◌, ◌≤◌, Bool, true, false, cond, [], ◌∷◌, ◌++◌, length, sym, refl, ap, arith, length-append}
use Rattle.std.specs.List.{flat_map}
use Rattle.std.proofs.Math.Pow.{pow_mono}
use lib.Count.{ones}
use Rattle.bits.specs.Digits.{bit}
use Rattle.circuit.specs.declared.header.Header.{Header}
use Rattle.circuit.specs.Gate.{max_lines}
use Rattle.circuit.specs.Header.{marks_good}
use Rattle.circuit.specs.Text.{tab, line_feed, digit, number_text, count_line, const_line, junk_line, const_lines, junk_lines, header_lines}
use Rattle.circuit.specs.private.Put.{mark_text}
use Rattle.circuit.specs.private.Scan.{width}
use Rattle.circuit.proofs.lemmas.header.Marks.{marks_facts}
use Rattle.circuit.proofs.lemmas.file.scan.Rest.{number_width}
use Rattle.circuit.proofs.lemmas.file.Groups.{lines_within_lines}
use Rattle.circuit.proofs.lemmas.file.put.Laws.{mask_long, header_length}

-- a mark's line has ten or seven bytes, and a second digit from line 10 on
pub const_long : (k : ℕ) (value : Bool) → length (const_line k value) + 1 ≡ 10 + width k
const_long k value = omega (arith, length-append (number_text k) (tab ∷ digit (cond value 1 0) ∷ line_feed ∷ []), number_width k)

pub junk_long : (k : ℕ) → length (junk_line k) + 1 ≡ 7 + width k
junk_long k = omega (arith, length-append (number_text k) (line_feed ∷ []), number_width k)

module _ (h : Header) (high : h.lines ≤ max_lines) (good : marks_good h ≡ true) where
  -- the lines of a mask below 64 are those below the line count
  pub const_text : mark_text true h.constants h.values ≡ const_lines h
  const_text =
      let (c, j, v) = marks_facts h good in
      ap (flat_map (λ k. const_line k (bit h.values k))) (lines_within_lines h.constants h.lines max_lines c high)

  pub junk_text : mark_text false h.junk 0 ≡ junk_lines h
  junk_text = let (c, j, v) = marks_facts h good in ap (flat_map junk_line) (lines_within_lines h.junk h.lines max_lines j high)

  pub header_parts : length (header_lines h) ≡ length (count_line h.lines) + (length (const_lines h) + length (junk_lines h))
  header_parts = omega (arith, length-append (count_line h.lines) (const_lines h ++ junk_lines h), length-append (const_lines h) (junk_lines h))

  pub header_long : 7 + width h.lines + (10 * ones h.constants + ones (h.constants / 2 ^ 10)) + (7 * ones h.junk + ones (h.junk / 2 ^ 10)) ≡ length (header_lines h)
  header_long =
      let (c, j, v) = marks_facts h good in
      let up : 2 ^ h.lines ≤ 2 ^ 64 = pow_mono high in
      let a = mask_long 10 (λ k. const_line k (bit h.values k)) (λ k. const_long k (bit h.values k)) h.constants (omega (arith, c, up)) in
      let b = mask_long 7 junk_line junk_long h.junk (omega (arith, j, up)) in
      omega (arith, a, b, ap length const_text, ap length junk_text, header_parts, header_length h.lines)

-- ---- a mark's line, in the parts that are written

pub const_parts : (k : ℕ) (value b : Bool) → value ≡ b → (99 ∷ 111 ∷ 110 ∷ 115 ∷ 116 ∷ 9 ∷ number_text k) ++ (tab ∷ digit (cond b 1 0) ∷ line_feed ∷ []) ≡ const_line k value
const_parts k value b e = ap (const_line k) (sym e)

pub const_length : (k : ℕ) (value : Bool) → length (const_line k value) ≡ length (99 ∷ 111 ∷ 110 ∷ 115 ∷ 116 ∷ 9 ∷ number_text k) + 3
const_length k value = omega (arith, length-append (number_text k) (tab ∷ digit (cond value 1 0) ∷ line_feed ∷ []))

pub junk_parts : (k : ℕ) → (106 ∷ 117 ∷ 110 ∷ 107 ∷ 9 ∷ number_text k) ++ (line_feed ∷ []) ≡ junk_line k
junk_parts k = refl

pub junk_length : (k : ℕ) → length (junk_line k) ≡ length (106 ∷ 117 ∷ 110 ∷ 107 ∷ 9 ∷ number_text k) + 1
junk_length k = omega (arith, length-append (number_text k) (line_feed ∷ []))

-- Files without marks: their text and their reading are those of document 01. Assumes nothing.
use Rattle.std.proofs.Common.{◌≡◌, leb, length, ℕ, ◌*◌, ◌≤◌, Bool, true, false, List, [], ◌++◌, drop, sym, refl, ap, ◌∙◌, ap₂, append_assoc, append-nil, arith}
use Rattle.std.specs.List.{flat_map}
use Rattle.bits.specs.Digits.{bit}
use Rattle.bits.proofs.Lowest.{lines_none}
use Rattle.circuit.specs.declared.gate.Gate.{Gate}
use Rattle.circuit.specs.declared.header.Header.{Header}
use Rattle.circuit.specs.Gate.{max_lines, max_gates}
use Rattle.circuit.specs.Header.{unmarked}
use Rattle.circuit.specs.Outcome.{Outcome, served, refused, demand, and_then, written, Yields}
use Rattle.circuit.specs.Text.{const_line, junk_line, const_lines, junk_lines, count_line, header_lines, gate_lines, end_line, text_of}
use Rattle.circuit.specs.File.{Line, first_line, later_lines, lines_of, line_size, count_on, starts_mark, no_marks, read_from, Reading, reading, counts_of, gates_read, read_outcome, read_buffer, write_outcome, write_buffer}
use Rattle.circuit.specs.FileLaws.{unmarked_text, unmarked_reading, unmarked_read_outcome, unmarked_read_buffer, unmarked_write_outcome, unmarked_write_buffer, line_1, NoMarkLine, UnmarkedFiles, FileCascade, ReaderLaws}
use Rattle.circuit.specs.Words.{gates_of, words_of}
use Rattle.circuit.specs.Refusal.{no_room}
use Rattle.circuit.proofs.lemmas.header.Tests.{unmarked_outcome}
use Rattle.circuit.proofs.lemmas.Outcome.{never, then_served, then_both}
use Rattle.circuit.proofs.lemmas.file.Lines.{cut_first}
use Rattle.circuit.proofs.lemmas.file.Texts.{count_line_lem}
use Rattle.circuit.proofs.lemmas.file.Offences.{HeaderFound, header_found, Walked, whole_text, stopped, walked}
use Rattle.circuit.proofs.lemmas.file.Groups.{group_stops}
use Rattle.circuit.proofs.lemmas.file.Headers.{from_groups, no_mark_after}
use Rattle.circuit.proofs.lemmas.file.Laws.{no_gates, read_cascade}
use Rattle.circuit.proofs.lemmas.header.Marks.{facts_marks}

-- ---- the text

no_lines : (n : ℕ) → const_lines (unmarked n) ++ junk_lines (unmarked n) ≡ []
no_lines n = ap₂ ◌++◌ (ap (flat_map (λ k. const_line k (bit 0 k))) (lines_none n)) (ap (flat_map junk_line) (lines_none n))

pub unmarked_lines : (n : ℕ) → header_lines (unmarked n) ≡ count_line n
unmarked_lines n = ap (λ (x : List ℕ). count_line n ++ x) (no_lines n) ∙ append-nil (count_line n)

pub same_text : (n : ℕ) (gs : List Gate) → text_of (unmarked n) gs ≡ unmarked_text n gs
same_text n gs = ap (λ (x : List ℕ). x ++ (gate_lines gs ++ end_line)) (unmarked_lines n)

-- ---- the reading

-- without mark lines both groups are empty
no_groups : (n at : ℕ) (ls : List Line) → starts_mark true (first_line ls) ≡ false → starts_mark false (first_line ls) ≡ false → from_groups n at ls ≡ read_from (unmarked n) 1 [] at ls
no_groups n at ls s t =
    then_served _ _ _ (group_stops true n 1 at no_marks ls s) ∙ then_served _ _ _ (group_stops false n 1 at no_marks ls t)

pub same_answer : (text : List ℕ) → NoMarkLine text → reading text ≡ unmarked_reading text
unfolding reading unmarked_reading
same_answer text none = go (count_on (first_line (lines_of text)))
  where
    at : ℕ
    at = line_size (first_line (lines_of text))

    go : (o : Outcome ℕ) → and_then o (λ n. from_groups n at (later_lines (lines_of text))) ≡ and_then o (λ n. read_from (unmarked n) 1 [] at (later_lines (lines_of text)))
    go (served n) = no_groups n at (later_lines (lines_of text)) (none true) (none false)
    go (refused number place) = refl

-- what was served has no mark line
abbrev Before : List ℕ → Reading → Type 0
Before text c = NoMarkLine text × (c.header ≡ unmarked c.header.lines)

pub served_before : (text : List ℕ) (c : Reading) → unmarked_reading text ≡ served c → Before text c
unfolding unmarked_reading
served_before text c e =
    let l = first_line (lines_of text) in
    let (n, a, b) = then_both (count_on l) _ c e in
    go n (count_on l) (header_found l) a b
  where
    walk : (n : ℕ) → n ≤ max_lines → (r : List ℕ) → lines_of r ≡ later_lines (lines_of text) → (o : Outcome Reading)
        → Walked (unmarked n) 1 [] (line_size (first_line (lines_of text))) r o → o ≡ served c → Before text c
    walk n high r is o (stopped hs rest q w few number x) z = absurd (never z refl)
    walk n high r is o (whole_text hs rest q w few) z =
        let no : (constant : Bool) → starts_mark constant (line_1 text) ≡ false =
        λ constant. ap (λ (ls : List Line). starts_mark constant (first_line ls)) (sym is ∙ ap lines_of q) ∙ no_mark_after n high hs w rest constant in
        let h : unmarked n ≡ c.header = ap header_read z in
        (no, sym h ∙ ap (λ (k : Header). unmarked k.lines) h)
      where
        header_read : Outcome Reading → Header
        header_read (served d) = d.header
        header_read (refused number place) = unmarked 0

    go : (n : ℕ) (o : Outcome ℕ) → HeaderFound (first_line (lines_of text)) o → o ≡ served n
        → read_from (unmarked n) 1 [] (line_size (first_line (lines_of text))) (later_lines (lines_of text)) ≡ served c → Before text c
    go n o (HeaderFound.bad number x) p b = absurd (never p refl)
    go n o (HeaderFound.good k low high x d) p b =
        let l = first_line (lines_of text) in
        let cut = cut_first text d in
        let same : k ≡ n = cc in
        let up : n ≤ max_lines = omega arith in
        walk n up (drop (line_size l) text) cut.later (read_from (unmarked n) 1 [] (line_size l) (later_lines (lines_of text)))
        (walked (unmarked n) 1 up (later_lines (lines_of text)) [] (line_size l) (drop (line_size l) text) cut.later (omega arith)) b

-- and what is served without marks was
pub served_now : (text : List ℕ) (c : Reading) → reading text ≡ served c → c.header ≡ unmarked c.header.lines → unmarked_reading text ≡ served c
served_now text c e plain =
    let (rest, good, t, k) = read_cascade text c e in
    let n : ℕ = c.header.lines in
    let after : List ℕ = gate_lines c.gates ++ (end_line ++ rest) in
    let starts : text ≡ count_line n ++ after =
    t
    ∙ append_assoc (header_lines c.header) (gate_lines c.gates ++ end_line) rest
    ∙ ap₂ (λ (x y : List ℕ). x ++ y) (ap header_lines plain ∙ unmarked_lines n) (append_assoc (gate_lines c.gates) end_line rest) in
    let no : (constant : Bool) → starts_mark constant (line_1 text) ≡ false =
    λ constant.
    ap (λ (ls : List Line). starts_mark constant (first_line (later_lines ls))) (ap lines_of starts ∙ count_line_lem n after good.lines_high)
    ∙ no_mark_after n good.lines_high c.gates good.gates rest constant in
    sym (same_answer text no) ∙ e

-- ---- the calls

read_call : (text out : List ℕ) → NoMarkLine text
    → Yields (read_outcome text (length out)) (read_buffer text out) (unmarked_read_outcome text (length out)) (unmarked_read_buffer text out)
unfolding read_outcome read_buffer unmarked_read_outcome unmarked_read_buffer
read_call text out none =
    let e : reading text ≡ unmarked_reading text = same_answer text none in
    record {
      answer = ap (λ (o : Outcome Reading). and_then o (λ c. demand (leb (3 * length c.gates) (length out)) no_room 0 (served (counts_of c)))) e;
      buffer = ap (λ (o : Outcome Reading). written (and_then o (λ c. demand (leb (3 * length c.gates) (length out)) no_room 0 (served (counts_of c)))) (words_of (gates_read o)) out) e;
    }

write_call : (n : ℕ) (ws out : List ℕ)
    → Yields (write_outcome (unmarked n) ws (length out)) (write_buffer (unmarked n) ws out) (unmarked_write_outcome n ws (length out)) (unmarked_write_buffer n ws out)
unfolding write_outcome write_buffer unmarked_write_outcome unmarked_write_buffer
write_call n ws out =
    let o = unmarked_outcome n ws max_gates in
    let t = same_text n (gates_of ws) in
    record {
      answer = ap₂ (λ (o : Outcome ℕ) (t : List ℕ). and_then o (λ k. demand (leb (length t) (length out)) no_room 0 (served (length t)))) o t;
      buffer = ap₂ (λ (o : Outcome ℕ) (t : List ℕ). written (and_then o (λ k. demand (leb (length t) (length out)) no_room 0 (served (length t)))) t out) o t;
    }

pub unmarked_files : UnmarkedFiles
unmarked_files =
    record { text = same_text; answer = same_answer; served_before = served_before; served_now = served_now; read_call = read_call; write_call = write_call }

-- with a junk line the reading without marks does not have the laws
junk_0 : Header
junk_0 = record { lines = 1; constants = 0; values = 0; junk = 1 }

pub marks_unread : ReaderLaws unmarked_reading → ⊥
unfolding junk_0
marks_unread r =
    let good : FileCascade junk_0 [] =
    record { lines_low = omega arith; lines_high = omega arith; marks = facts_marks junk_0 (omega arith) (omega arith) refl; few = omega arith; gates = no_gates 1 } in
    let (s, e) = served_before (text_of junk_0 [] ++ []) _ (r.text_read junk_0 [] [] good) in
    let z : ◌≡◌ {A = ℕ} 1 0 = ap (λ (h : Header). h.junk) e in
    omega arith

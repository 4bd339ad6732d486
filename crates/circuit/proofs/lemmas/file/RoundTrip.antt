-- The two calls on files, one after the other. Assumes nothing.
use Rattle.std.proofs.Common.{◌≡◌, ℕ, ◌*◌, ◌/◌, ◌≤◌, List, [], ◌∷◌, ◌++◌, length, take, replicate, sym, refl, ap, ◌∙◌, ap₂, append-nil, arith, take_at}
use Rattle.bits.specs.Digits.{bit, lines_in}
use Rattle.bits.specs.Lists.{over}
use Rattle.circuit.specs.declared.gate.Gate.{Gate}
use Rattle.circuit.specs.declared.header.Header.{Header}
use Rattle.circuit.specs.Gate.{max_gates, not_gate, valid}
use Rattle.circuit.specs.Outcome.{Outcome, served, Untouched, Yields}
use Rattle.circuit.specs.Header.{unmarked}
use Rattle.circuit.specs.Words.{gates_of, words_of, all_valid, Headed}
use Rattle.circuit.proofs.lemmas.header.Marks.{unmarked_good}
use Rattle.circuit.specs.Text.{number_text, gate_lines, text_of}
use Rattle.circuit.specs.File.{Reading, reading, gates_read, read_outcome, read_buffer, write_outcome, write_buffer}
use Rattle.circuit.specs.declared.file.ReadCounts.{ReadCounts}
use Rattle.circuit.specs.FileLaws.{FileCascade, Readable, Writable, RoundTrip}
use Rattle.circuit.proofs.lemmas.Outcome.{written_served, written_refused}
use Rattle.circuit.proofs.lemmas.words.Gates.{gates_length, gates_words, words_length}
use Rattle.circuit.proofs.lemmas.words.Tests.{words_cascade, cascade_count, cascade_words}
use Rattle.circuit.proofs.lemmas.file.Headers.{text_read}
use Rattle.circuit.proofs.lemmas.file.Laws.{read_fits, read_served, write_served, served_write}

read_untouched : (text out : List ℕ) → Untouched (read_outcome text (length out)) out (read_buffer text out)
unfolding read_buffer
read_untouched text out = written_refused (words_of (gates_read (reading text))) out (read_outcome text (length out))

write_untouched : (h : Header) (ws out : List ℕ) → Untouched (write_outcome h ws (length out)) out (write_buffer h ws out)
unfolding write_buffer
write_untouched h ws out = written_refused (text_of h (gates_of ws)) out (write_outcome h ws (length out))

write_leaves : (h : Header) (ws out : List ℕ) (k : ℕ) → write_outcome h ws (length out) ≡ served k → write_buffer h ws out ≡ over (text_of h (gates_of ws)) out
unfolding write_buffer
write_leaves h ws out k e = written_served (text_of h (gates_of ws)) out (write_outcome h ws (length out)) k e

-- the words of what is read
pub read_leaves : (text out : List ℕ) (c : ReadCounts) (r : Reading) → read_outcome text (length out) ≡ served c → reading text ≡ served r
    → read_buffer text out ≡ over (words_of r.gates) out
unfolding read_buffer
read_leaves text out c r e f =
    written_served (words_of (gates_read (reading text))) out (read_outcome text (length out)) c e ∙ ap (λ (o : Outcome Reading). over (words_of (gates_read o)) out) f

-- the text of a cascade is read
module _ (h : Header) (gs : List Gate) (rest out : List ℕ) (good : FileCascade h gs) (fits : 3 * length gs ≤ length out) where
  pub text_counts : read_outcome (text_of h gs ++ rest) (length out) ≡ served (record { header = h; gates = length gs; taken = length (text_of h gs) })
  text_counts = read_fits (text_of h gs ++ rest) (length out) _ (text_read h gs rest good) fits

  pub text_words : read_buffer (text_of h gs ++ rest) out ≡ over (words_of gs) out
  text_words = read_leaves (text_of h gs ++ rest) out _ _ text_counts (text_read h gs rest good)

-- a cascade of a caller's header and words
headed_cascade : (h : Header) (ws : List ℕ) (k : ℕ) → Headed h ws max_gates k → FileCascade h (gates_of ws)
headed_cascade h ws k c =
    let w = c.cascade in
    record {
      lines_low = w.lines_low;
      lines_high = w.lines_high;
      marks = c.marks;
      few = omega (arith, w.few, cascade_count h.lines ws max_gates k w);
      gates = w.gates;
    }

write_read : (h : Header) (ws out : List ℕ) (k : ℕ) → write_outcome h ws (length out) ≡ served k → (into : List ℕ) → length ws ≤ length into
    → Yields (read_outcome (take k (write_buffer h ws out)) (length into)) (read_buffer (take k (write_buffer h ws out)) into)
    (served (record { header = h; gates = length ws / 3; taken = k })) (over ws into)
write_read h ws out k e into l =
    let gs : List Gate = gates_of ws in
    let w : Writable h ws (length out) k = write_served h ws (length out) k e in
    let c = w.good.cascade in
    let good : FileCascade h gs = headed_cascade h ws w.gates w.good in
    let fits : 3 * length gs ≤ length into = omega (arith, c.size, cascade_count h.lines ws max_gates w.gates c) in
    let text : take k (write_buffer h ws out) ≡ text_of h gs ++ [] =
    ap (take k) (write_leaves h ws out k e) ∙ take_at (text_of h gs) _ k (sym w.bytes) ∙ sym (append-nil (text_of h gs)) in
    record {
      answer =
          ap (λ (t : List ℕ). read_outcome t (length into)) text
          ∙ text_counts h gs [] into good fits
          ∙ ap₂ (λ (g t : ℕ). served (record { header = h; gates = g; taken = t })) (gates_length ws) (sym w.bytes);
      buffer =
          ap (λ (t : List ℕ). read_buffer t into) text
          ∙ text_words h gs [] into good fits
          ∙ ap (λ (x : List ℕ). over x into) (cascade_words h.lines ws max_gates w.gates c);
    }

read_write : (text out : List ℕ) (c : ReadCounts) → read_outcome text (length out) ≡ served c → (into : List ℕ) → c.taken ≤ length into
    → Yields (write_outcome c.header (take (3 * c.gates) (read_buffer text out)) (length into)) (write_buffer c.header (take (3 * c.gates) (read_buffer text out)) into)
    (served c.taken) (over (take c.taken text) into)
read_write text out c e into l =
    let r : Readable text (length out) c = read_served text (length out) c e in
    let h : Header = c.header in
    let gs : List Gate = r.cascade in
    let good = r.good in
    let words : take (3 * c.gates) (read_buffer text out) ≡ words_of gs =
    ap (λ (t : List ℕ). take (3 * c.gates) (read_buffer t out)) r.starts
    ∙ ap (take (3 * c.gates)) (text_words h gs r.rest out good r.fits)
    ∙ take_at (words_of gs) _ (3 * c.gates) (words_length gs ∙ ap (λ (k : ℕ). 3 * k) (sym r.gates)) in
    let back : text_of h (gates_of (words_of gs)) ≡ text_of h gs = ap (text_of h) (gates_words gs) in
    let made : write_outcome h (words_of gs) (length into) ≡ served c.taken =
    served_write h (words_of gs) (length into) c.taken
    (record {
      gates = length gs;
      good = record { marks = good.marks; cascade = words_cascade h.lines gs max_gates good.lines_low good.lines_high good.few good.gates };
      bytes = r.taken ∙ ap length (sym back);
      fits = l;
    }) in
    let bytes : take c.taken text ≡ text_of h gs = ap (take c.taken) r.starts ∙ take_at (text_of h gs) r.rest c.taken (sym r.taken) in
    record {
      answer = ap (λ (ws : List ℕ). write_outcome h ws (length into)) words ∙ made;
      buffer =
          ap (λ (ws : List ℕ). write_buffer h ws into) words
          ∙ write_leaves h (words_of gs) into c.taken made
          ∙ ap (λ (t : List ℕ). over t into) (back ∙ sym bytes);
    }

pub round_trip : RoundTrip read_outcome read_buffer write_outcome write_buffer
round_trip =
    record {
      read_leaves = λ h gs rest out good fits. text_words h gs rest out good fits;
      read_untouched = read_untouched;
      write_leaves = write_leaves;
      write_untouched = write_untouched;
      write_read = write_read;
      read_write = read_write;
    }

-- ---- calls that leave their buffers

not_0 : FileCascade (unmarked 1) (not_gate 0 ∷ [])
unfolding all_valid valid
not_0 =
    record { lines_low = omega arith; lines_high = omega arith; marks = unmarked_good 1; few = omega arith; gates = refl }

pub idle_reading : (read : List ℕ → ℕ → Outcome ReadCounts) (write : Header → List ℕ → ℕ → Outcome ℕ) (write_into : Header → List ℕ → List ℕ → List ℕ)
    → RoundTrip read (λ text out. out) write write_into → ⊥
unfolding words_of
idle_reading read write write_into r =
    let e : ◌≡◌ {A = List ℕ} (1 ∷ 1 ∷ 1 ∷ []) (0 ∷ 0 ∷ 0 ∷ []) = r.read_leaves (unmarked 1) (not_gate 0 ∷ []) [] (1 ∷ 1 ∷ 1 ∷ []) not_0 (omega arith) in
    let z : ◌≡◌ {A = ℕ} 1 0 = cc in
    omega arith

-- no text has a byte 0
pub idle_writing : (read : List ℕ → ℕ → Outcome ReadCounts) (read_into : List ℕ → List ℕ → List ℕ) → RoundTrip read read_into write_outcome (λ h ws out. out) → ⊥
unfolding all_valid gates_of gate_lines number_text lines_in bit
idle_writing read read_into r =
    let h : Header = unmarked 1 in
    let out : List ℕ = replicate 12 0 in
    let good : Headed h [] max_gates 0 =
    record { marks = unmarked_good 1; cascade = record { lines_low = omega arith; lines_high = omega arith; size = refl; few = omega arith; gates = refl } } in
    let served_12 : write_outcome h [] 12 ≡ served 12 =
    served_write h [] 12 12 (record { gates = 0; good = good; bytes = refl; fits = omega arith }) in
    let e : out ≡ over (text_of h (gates_of [])) out = r.write_leaves h [] out 12 served_12 in
    let z : ◌≡◌ {A = ℕ} 0 108 = cc in
    omega arith

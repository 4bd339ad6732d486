-- Writing as the code takes it: one gate line of the two loops over gates, and what the call owes. Assumes nothing.
use Rattle.std.proofs.Common.{◌≡◌, ℕ, ◌+◌, ◌-◌, ◌*◌, ◌/◌, ◌<◌, ◌≤◌, true, List, [], ◌++◌, length, take, drop, sym, ap, ◌∙◌, append_assoc, arith, length-append, le-leb}
use borrow.Author.Tests.{lt-leb}
use borrow.Rule.Slice.PartMut.{put_mid}
use Rattle.bits.specs.Lists.{Put}
use Rattle.bits.proofs.Bools.{and_parts}
use Rattle.circuit.specs.declared.gate.Gate.{Gate}
use Rattle.circuit.specs.declared.header.Header.{Header}
use Rattle.circuit.specs.Gate.{max_lines, max_gates, valid}
use Rattle.circuit.specs.Outcome.{Outcome, served, refused, written, Yields}
use Rattle.circuit.specs.Refusal.{no_room}
use Rattle.circuit.specs.Words.{gates_of, gate_at, all_valid, headed_outcome}
use Rattle.circuit.specs.Text.{header_lines, gate_line, gate_lines, end_line, text_of}
use Rattle.circuit.specs.File.{write_outcome, write_buffer}
use Rattle.circuit.proofs.lemmas.Outcome.{demand_met, demand_failed, then_served, then_refused, told}
use Rattle.circuit.proofs.lemmas.gate.Valid.{valid_facts}
use Rattle.circuit.proofs.lemmas.words.Gates.{gates_next, gates_end}
use Rattle.circuit.proofs.lemmas.file.put.Laws.{Written, written_more, written_put, put_as}

-- the gates from gate i on
abbrev pub gates_from : List ℕ → ℕ → List Gate
gates_from ws i = gates_of (drop (3 * i) ws)

lines_next : (ws : List ℕ) (i : ℕ) → i < length ws / 3 → gate_lines (gates_from ws i) ≡ gate_line (gate_at ws i) ++ gate_lines (gates_from ws (i + 1))
unfolding gate_lines
lines_next ws i h = ap gate_lines (gates_next ws i h)

lines_end : (ws : List ℕ) (i : ℕ) → length ws / 3 ≤ i → gate_lines (gates_from ws i) ≡ []
unfolding gate_lines
lines_end ws i h = ap gate_lines (gates_end ws i h)

-- ---- what the loop that counts keeps

pub record Sizing (h : Header) (ws : List ℕ) (size i : ℕ) : Type 0 where
  pub few : length ws / 3 ≤ max_gates
  pub sum : size + length (gate_lines (gates_from ws i)) ≡ length (text_of h (gates_of ws))
  pub small : size ≤ 1504 + 800 * i

pub sizing_start : (h : Header) (ws : List ℕ) (size : ℕ) → length ws / 3 ≤ max_gates → size ≡ length (header_lines h) → size ≤ 1500 → Sizing h ws (size + 4) 0
sizing_start h ws size few e low =
    record {
      few = few;
      sum = omega (arith, length-append (header_lines h) (gate_lines (gates_of ws) ++ end_line), length-append (gate_lines (gates_of ws)) end_line);
      small = omega arith;
    }

pub sizing_on : (h : Header) (ws : List ℕ) (size i : ℕ) → Sizing h ws size i → i < length ws / 3 → (g : Gate) → g ≡ gate_at ws i → (r : ℕ) → r ≡ length (gate_line g) → r ≤ 800
    → Sizing h ws (size + r) (i + 1)
sizing_on h ws size i s l g e r q b =
    let x = s.sum in
    let y = s.small in
    let z : r ≡ length (gate_line (gate_at ws i)) = q ∙ ap (λ (f : Gate). length (gate_line f)) e in
    record {
      few = s.few;
      sum = omega (arith, ap length (lines_next ws i l), length-append (gate_line (gate_at ws i)) (gate_lines (gates_from ws (i + 1))));
      small = omega arith;
    }

pub sizing_done : (h : Header) (ws : List ℕ) (size i : ℕ) → Sizing h ws size i → length ws / 3 ≤ i → size ≡ length (text_of h (gates_of ws))
sizing_done h ws size i s l = omega (arith, s.sum, ap length (lines_end ws i l))

-- ---- what the loop that writes keeps: the lines up to gate i stand at the buffer's start

pub record Typing (ws first out : List ℕ) (at i : ℕ) : Type 0 where
  pub front : List ℕ
  pub filled : Written first out at front
  pub left : front ++ (gate_lines (gates_from ws i) ++ end_line) ≡ gate_lines (gates_of ws) ++ end_line
  pub valid : all_valid max_lines (gates_from ws i) ≡ true
  pub room : length (gate_lines (gates_of ws) ++ end_line) ≤ length first

module _ (ws first out : List ℕ) (at i : ℕ) (t : Typing ws first out at i) where
  all_length : length t.front + length (gate_lines (gates_from ws i)) + 4 ≤ length out
  all_length =
      let r = t.room in
      let s = t.filled.same in
      omega (arith, ap length t.left, length-append t.front (gate_lines (gates_from ws i) ++ end_line), length-append (gate_lines (gates_from ws i)) end_line)

  pub typing_at : at + 4 ≤ length out
  typing_at = omega (arith, all_length, t.filled.long)

  module _ (h : i < length ws / 3) (g : Gate) (is : g ≡ gate_at ws i) where
    pub typing_room : at + length (gate_line g) ≤ length out
    typing_room =
        omega (arith, all_length, t.filled.long, ap length (lines_next ws i h), length-append (gate_line (gate_at ws i)) (gate_lines (gates_from ws (i + 1))), ap (λ (f : Gate). length (gate_line f)) is)

    both_valid : (valid max_lines (gate_at ws i) ≡ true) × (all_valid max_lines (gates_from ws (i + 1)) ≡ true)
    both_valid = unfold all_valid in and_parts _ _ (sym (ap (all_valid max_lines) (gates_next ws i h)) ∙ t.valid)

    pub typing_target : g.target < 100
    typing_target = omega (arith, (valid_facts max_lines (gate_at ws i) both_valid.0).target_below, ap (λ (f : Gate). f.target) is)

    pub typing_on : (r : ℕ) (last : List ℕ) → Put r last (gate_line g) (take (length out - at) (drop at out)) → length last ≡ length (take (length out - at) (drop at out))
        → Typing ws first (put_mid at (length out - at) out last) (at + r) (i + 1)
    typing_on r last p k =
        record {
          front = t.front ++ gate_line g;
          filled = written_more first out at t.front t.filled r last (gate_line g) (omega (arith, typing_at)) p k;
          left =
              append_assoc t.front (gate_line g) (gate_lines (gates_from ws (i + 1)) ++ end_line)
              ∙ ap (λ (l : List ℕ). t.front ++ l)
              (sym (append_assoc (gate_line g) (gate_lines (gates_from ws (i + 1))) end_line)
              ∙ ap (λ (f : Gate). (gate_line f ++ gate_lines (gates_from ws (i + 1))) ++ end_line) is
              ∙ ap (λ (l : List ℕ). l ++ end_line) (sym (lines_next ws i h)))
              ∙ t.left;
          valid = both_valid.1;
          room = t.room;
        }

  pub typing_done : length ws / 3 ≤ i → (r : ℕ) (last : List ℕ) → Put r last end_line (take (length out - at) (drop at out)) → length last ≡ length (take (length out - at) (drop at out))
      → Put (at + r) (put_mid at (length out - at) out last) (gate_lines (gates_of ws) ++ end_line) first
  typing_done h r last p k =
      put_as _ _ _ _ _ (ap (λ (l : List ℕ). t.front ++ (l ++ end_line)) (sym (lines_end ws i h)) ∙ t.left)
      (written_put _ _ _ _ (written_more first out at t.front t.filled r last end_line (omega (arith, typing_at)) p k))

pub text_parts : (h : Header) (ws : List ℕ) → length (text_of h (gates_of ws)) ≡ length (header_lines h) + length (gate_lines (gates_of ws) ++ end_line)
text_parts h ws = length-append (header_lines h) (gate_lines (gates_of ws) ++ end_line)

-- ---- what the call answers and leaves

module _ (h : Header) (ws : List ℕ) (room : ℕ) where
  pub write_refused : (number place : ℕ) → headed_outcome h ws max_gates ≡ refused number place → write_outcome h ws room ≡ refused number place
  unfolding write_outcome
  write_refused number place e = then_refused _ _ number place e

  module _ (k : ℕ) (good : headed_outcome h ws max_gates ≡ served k) where
    pub write_short : room < length (text_of h (gates_of ws)) → write_outcome h ws room ≡ refused no_room 0
    unfolding write_outcome
    write_short l = then_served _ _ k good ∙ demand_failed _ _ _ _ (lt-leb _ _ l)

    pub write_made : length (text_of h (gates_of ws)) ≤ room → write_outcome h ws room ≡ served (length (text_of h (gates_of ws)))
    unfolding write_outcome
    write_made l = then_served _ _ k good ∙ demand_met _ _ _ _ (le-leb _ _ l)

pub write_told : (h : Header) (ws out : List ℕ) (r o : Outcome ℕ) (last : List ℕ) → r ≡ o → write_outcome h ws (length out) ≡ o
    → last ≡ written o (text_of h (gates_of ws)) out → Yields r last (write_outcome h ws (length out)) (write_buffer h ws out)
unfolding write_buffer
write_told h ws out r o last e f l = told (text_of h (gates_of ws)) out r last (write_outcome h ws (length out)) o e f l

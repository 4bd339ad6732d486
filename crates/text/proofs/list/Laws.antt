-- What the functions from an input to its clause list owe, case by case. Assumes nothing.
use mathlib.Core.Path.{◌≡◌, refl, sym, ap, ap₂, subst, ◌∙◌}
use mathlib.Core.Bool.{true, false}
use mathlib.Core.List.{List, ◌++◌}
use Prim.Native.Nat.{ℕ, ◌*◌, ◌/◌, ◌≤◌, ◌<◌}
use native.Mathlib.Omega.{arith}
use lib.Dec.{leb}
use lib.IntN.{ℤ}
use lib.ListN.{length, take, drop, length-append}
use lib.Seq.{take-append_seam, take-append-le, take_at}
use borrow.Author.Tests.{le-leb, lt-leb, leb-true}
use Rattle.bits.specs.Lists.{over}
use Rattle.bits.proofs.Bools.{either}
use Rattle.bits.proofs.Lists.{over_length}
use Rattle.circuit.specs.declared.gate.Gate.{Gate}
use Rattle.circuit.specs.declared.header.Header.{Header}
use Rattle.circuit.specs.Gate.{max_gates, max_miter_gates}
use Rattle.circuit.specs.Outcome.{Outcome, served, refused, demand, before, then, fails}
use Rattle.circuit.specs.Refusal.{line_counts_differ, marks_differ, no_room, refusal_number, refusal_place}
use Rattle.circuit.specs.Words.{gates_of, words_of, all_valid, Cascade, Headed, HeadersDiffer, other_lines, other_marks}
use Rattle.circuit.proofs.Promises.{never, same_refusal, demand_met, demand_failed, demanded, gates_length, gates_words, words_length, headed_pair_refused, read_as, read_served, read_refused, read_leaves}
use Rattle.circuit.specs.File.{Reading, read_outcome, read_buffer}
use Rattle.circuit.specs.declared.file.ReadCounts.{ReadCounts}
use Rattle.circuit.specs.FileLaws.{ReadRefused, ReadAs}
use Rattle.checking.specs.declared.clauses.Totals.{Totals}
use Rattle.checking.specs.Clauses.{Clause, max_variables}
use Rattle.checking.specs.Satisfaction.{ClausesWithin}
use Rattle.checking.specs.Pair.{pair_clauses, pair_variables, pair_emit_outcome, pair_emit_buffer}
use Rattle.checking.specs.Stored.{stored}
use Rattle.checking.specs.Sizes.{totals}
use Rattle.checking.specs.Emit.{emit_outcome, emit_buffer}
use Rattle.checking.proofs.Promises.{emit_laws, emit_cascade, pair_emit_good, pair_emit_wrong, pair_emit_leaves}
use Rattle.std.proofs.Common.{Result, Ok, Err}
use Rattle.text.specs.declared.refused.FileRefusal.{FileRefusal}
use Rattle.text.specs.WholeFile.{file_within, whole_file, WithinRefused}
use Rattle.text.specs.Formula.{Formula, formula_of, pair_formula}
use Rattle.text.specs.FileOutcome.{FileOutcome, answered, refused_at, of_file, file_number, answer_of}
use Rattle.text.specs.BytesTell.{max_input_gates}
use Rattle.text.specs.Tomiter.{max_input, max_words, list_verdict, pair_verdict, second_verdict, verdict}
use Rattle.text.specs.private.Lists.{FileWords, ListStands, Delivers}
use Rattle.text.specs.private.Words.{AllShort}
use Rattle.text.proofs.FileOutcome.{both_met, both_failed, file_served, file_refused, said, said_wrong}
use Rattle.text.proofs.Pairs.{by_headers, headers_met, lines_apart, marks_apart, Listable, list_below}
use Rattle.text.proofs.WholeFile.{within_refused, within_as}
use Rattle.text.proofs.plain.Short.{list_short, list_within as gates_within, pair_short}

-- the same verdict, said in another way
pub says_as : (r : Result Totals FileRefusal) (buffer : List ℤ) (v w : FileOutcome Formula) → v ≡ w → Delivers r buffer w → Delivers r buffer v
says_as r buffer v w e s = subst (Delivers r buffer) (sym e) s

-- a refusal says the verdict that it is
pub says_refusal : {A : Type 0} (r : FileRefusal) (buffer : List ℤ) (v : FileOutcome Formula) (number file place : ℕ) → v ≡ refused_at number file place → file_number r.file ≡ file
    → ◌≡◌ {A = Outcome A} (refused (refusal_number r.why) (refusal_place r.why)) (refused number place) → Delivers (Err r) buffer v
says_refusal r buffer v number file place e z f =
    let n : refusal_number r.why ≡ number = cc in
    let p : refusal_place r.why ≡ place = cc in
    says_as (Err r) buffer v _ e (n, z, p)

-- what was said of a file
pub says_file : {A : Type 0} (r : FileRefusal) (file : ℕ) (o : Outcome A) (buffer : List ℤ) (v : FileOutcome Formula)
    → refused_at (refusal_number r.why) (file_number r.file) (refusal_place r.why) ≡ of_file file o answered
    → ((number place : ℕ) → o ≡ refused number place → v ≡ refused_at number file place) → Delivers (Err r) buffer v
says_file r file o buffer v e f = let (z, g) = said_wrong file o _ _ _ e in says_as (Err r) buffer v _ (f _ _ g) (refl, z, refl)

-- ---- the clause list

-- a served emission of clauses: its totals, and the list at the buffer's start
module _ (f : Formula) (short : AllShort f.clauses) (within : ClausesWithin max_variables f.clauses) where
  abbrev size : ℕ
  size = length (stored f.clauses)

  pub list_stands : (t : Totals) (buffer out : List ℤ) → demand (leb size (length out)) no_room 0 (served (totals f.variables (length f.clauses) size)) ≡ served t → buffer ≡ over (stored f.clauses) out
      → ListStands t buffer f
  list_stands t buffer out e is =
      let (r, g) = demanded (leb size (length out)) no_room 0 _ t e in
      let same : t ≡ totals f.variables (length f.clauses) size = cc in
      let fits = leb-true size (length out) r in
      let w : t.words ≡ size = ap (λ (y : Totals). y.words) same in
      record {
        variables_are = ap (λ (y : Totals). y.variables) same;
        count = ap (λ (y : Totals). y.clauses) same;
        inside = omega (arith, ap length is, w, fits, over_length (stored f.clauses) out fits);
        words = ap₂ take w is ∙ take-append_seam (stored f.clauses) (drop size out);
        short = short;
        within = within;
      }

-- of gates
pub emit_stands : (n : ℕ) (ws : List ℕ) (k : ℕ) → Cascade n ws max_miter_gates k → (t : Totals) (buffer out : List ℤ)
    → emit_outcome n ws (length out) ≡ served t → buffer ≡ emit_buffer n ws out → ListStands t buffer (formula_of n (gates_of ws))
emit_stands n ws k c t buffer out o b =
    list_stands (formula_of n (gates_of ws)) (list_short n (gates_of ws))
    (gates_within n (gates_of ws) c.lines_high (omega (arith, gates_length ws, c.size, c.few)) c.gates) t buffer out
    (sym (emit_cascade n ws k c (length out)) ∙ o) (b ∙ emit_laws.emit_leaves n ws out t o)

-- ---- two cascades

module _ (ha : Header) (a : List ℕ) (hb : Header) (b : List ℕ) (wa : FileWords ha a) (wb : FileWords hb b) where
  abbrev A : List Gate
  A = gates_of a

  abbrev B : List Gate
  B = gates_of b

  abbrev cs : List Clause
  cs = pair_clauses ha A B

  abbrev emitted : ℕ → Outcome Totals
  emitted room = demand (leb (length (stored cs)) room) no_room 0 (served (totals (pair_variables ha A B) (length cs) (length (stored cs))))

  module _ (same : ha ≡ hb) where
    pub words_listable : Listable ha A B
    words_listable =
        let x = wa.cascade.cascade in
        let y = wb.cascade.cascade in
        record {
          lines = x.lines_high;
          marks = wa.cascade.marks;
          few = omega (arith, x.size, x.few, y.size, y.few, gates_length a, gates_length b);
          first = x.gates;
          second = subst (λ (h : Header). all_valid h.lines B ≡ true) (sym same) y.gates;
        }

    pair_good : (room : ℕ) → pair_emit_outcome ha a hb b room ≡ emitted room
    pair_good = pair_emit_good ha a hb b (record { first = wa.count; second = wb.count }) (record { first_good = wa.cascade; second_good = wb.cascade; header = same })

    -- a served emission of a pair
    pub pair_stands : (t : Totals) (buffer out : List ℤ) → pair_emit_outcome ha a hb b (length out) ≡ served t → buffer ≡ pair_emit_buffer ha a hb b out → ListStands t buffer (pair_formula ha A B)
    pair_stands t buffer out e is =
        list_stands (pair_formula ha A B) (pair_short ha A B) (list_below ha A B words_listable) t buffer out
        (sym (pair_good (length out)) ∙ e) (is ∙ pair_emit_leaves ha a hb b out t e)

    pair_listed : pair_verdict ha A hb B ≡ list_verdict ha A B
    unfolding pair_verdict
    pair_listed = headers_met ha hb (list_verdict ha A B) same

  module _ (x y : ℕ) (differ : HeadersDiffer ha hb x y) where
    pair_apart : (room : ℕ) → pair_emit_outcome ha a hb b room ≡ refused x y
    pair_apart = pair_emit_wrong ha a hb b x y ((headed_pair_refused ha a hb b x y).1 (then wa.count wa.cascade (then wb.count wb.cascade differ)))

  list_over : leb (length (stored cs)) max_words ≡ false → list_verdict ha A B ≡ refused_at no_room 0 0
  unfolding list_verdict
  list_over t = both_failed (leb (length (stored cs)) max_words) _ _ t

  list_fits : leb (length (stored cs)) max_words ≡ true → list_verdict ha A B ≡ answered (pair_formula ha A B)
  unfolding list_verdict
  list_fits t = both_met (leb (length (stored cs)) max_words) _ _ t

  -- a refused emission is refused as the verdict is
  refused_as : (x y : ℕ) → pair_emit_outcome ha a hb b max_words ≡ refused x y → pair_verdict ha A hb B ≡ refused_at x 0 y
  unfolding pair_verdict
  refused_as x y e =
      by_headers ha hb
      (λ s.
      either (leb (length (stored cs)) max_words)
      (λ t. absurd (never (pair_good s max_words ∙ demand_met _ _ _ _ t) e))
      (λ t.
      same_refusal (λ (u v : ℕ). pair_verdict ha A hb B ≡ refused_at u 0 v) (sym (pair_good s max_words ∙ demand_failed _ _ _ _ t) ∙ e) (pair_listed s ∙ list_over t)))
      (λ l. same_refusal (λ (u v : ℕ). pair_verdict ha A hb B ≡ refused_at u 0 v) (sym (pair_apart line_counts_differ 0 (other_lines l) max_words) ∙ e) (lines_apart ha hb _ l))
      (λ l m. same_refusal (λ (u v : ℕ). pair_verdict ha A hb B ≡ refused_at u 0 v) (sym (pair_apart marks_differ 0 (other_marks l m) max_words) ∙ e) (marks_apart ha hb _ l m))

  -- and a served one stores the verdict's clauses
  module _ (t : Totals) (buffer out : List ℤ) (long : length out ≡ max_words) (is : buffer ≡ pair_emit_buffer ha a hb b out) where
    served_as : pair_emit_outcome ha a hb b (length out) ≡ served t → Delivers (Ok t) buffer (pair_verdict ha A hb B)
    served_as e =
        by_headers ha hb
        (λ s.
        let (fits, _) = demanded (leb (length (stored cs)) (length out)) no_room 0 _ t (sym (pair_good s (length out)) ∙ e) in
        says_as (Ok t) buffer _ _ (pair_listed s ∙ list_fits (ap (leb (length (stored cs))) (sym long) ∙ fits)) (pair_stands s t buffer out e is))
        (λ l. absurd (never e (pair_apart line_counts_differ 0 (other_lines l) (length out))))
        (λ l m. absurd (never e (pair_apart marks_differ 0 (other_marks l m) (length out))))

  -- by what was said of both files
  pub pair_delivers : (out : List ℤ) → length out ≡ max_words → (o : Outcome Totals) → o ≡ pair_emit_outcome ha a hb b (length out) → (r : Result Totals FileRefusal) (buffer : List ℤ)
      → answer_of r ≡ of_file 0 o answered → buffer ≡ pair_emit_buffer ha a hb b out → Delivers r buffer (pair_verdict ha A hb B)
  pair_delivers out long o told (Ok t) buffer e is = served_as t buffer out long is (sym told ∙ said 0 o t e)
  pair_delivers out long o told (Err r) buffer e is =
      let (z, f) = said_wrong 0 o _ _ _ e in
      says_as (Err r) buffer _ _ (refused_as _ _ (ap (pair_emit_outcome ha a hb b) (sym long) ∙ sym told ∙ f)) (refl, z, refl)

-- ---- a file

-- its words tell the count
pub own_count : (h : Header) (ws : List ℕ) → FileWords h ws → Headed h ws max_gates (length ws / 3)
own_count h ws w = let e : w.count ≡ length ws / 3 = omega (arith, w.cascade.cascade.size) in subst (Headed h ws max_gates) e w.cascade

pub own_words : (h : Header) (ws : List ℕ) → Headed h ws max_gates (length ws / 3) → FileWords h ws
own_words h ws c = record { count = length ws / 3; cascade = c }

-- a file that was read: its cascade, the words in the buffer, and the bytes that were taken
pub record FileRead (text : List ℕ) (most : ℕ) (h : Header) (gates taken : ℕ) (buffer : List ℕ) : Type 0 where
  pub cascade : List Gate
  pub is : file_within most text ≡ served (record { header = h; gates = cascade; taken = taken })
  pub few : gates ≤ most
  pub inside : 3 * gates ≤ length buffer
  pub words : FileWords h (take (3 * gates) buffer)
  pub gates_are : gates_of (take (3 * gates) buffer) ≡ cascade

abbrev counts : Header → ℕ → ℕ → ReadCounts
counts h gates taken = record { header = h; gates = gates; taken = taken }

-- read into a room for so many gates
module _ (text : List ℕ) (most : ℕ) (out : List ℕ) (is : length out ≡ 3 * most) where
  -- it is refused as a file of at most as many
  pub file_bad : (number place : ℕ) → read_outcome text (length out) ≡ refused number place → file_within most text ≡ refused number place
  file_bad number place e = (within_refused most text number place).1 (wrong number place ((read_refused text (length out) number place).0 e))
    where
      wrong : (number place : ℕ) → ReadRefused text (length out) number place → WithinRefused most text number place
      wrong number place (before f) = before f
      wrong _ _ (then c good (fails less)) = then c good (fails (omega (arith, less, is)))

  pub file_read : (h : Header) (gates taken : ℕ) (buffer : List ℕ) → read_outcome text (length out) ≡ served (counts h gates taken) → buffer ≡ read_buffer text out
      → FileRead text most h gates taken buffer
  file_read h gates taken buffer e b =
      let s = read_served text (length out) (counts h gates taken) e in
      let hs : List Gate = s.cascade in
      let g = s.good in
      let c : Reading = record { header = h; gates = hs; taken = taken } in
      let r : ReadAs text c = record { good = g; rest = s.rest; starts = s.starts; bytes = s.taken } in
      let stands : buffer ≡ over (words_of hs) out = b ∙ read_leaves text out (counts h gates taken) c e ((read_as text c).1 r) in
      let l : length (words_of hs) ≡ 3 * gates = words_length hs ∙ ap (λ (k : ℕ). 3 * k) (sym s.gates) in
      let t : take (3 * gates) buffer ≡ words_of hs = ap (take (3 * gates)) stands ∙ take_at (words_of hs) (drop (length (words_of hs)) out) (3 * gates) l in
      let few : gates ≤ max_gates = omega (arith, s.gates, g.few) in
      record {
        cascade = hs;
        is = (within_as most text c).1 (record { read = r; few = omega (arith, s.fits, is) });
        few = omega (arith, s.gates, s.fits, is);
        inside = omega (arith, ap length stands, over_length (words_of hs) out (omega arith));
        words =
            subst (FileWords h) (sym t)
            (record {
              count = gates;
              cascade =
                  record {
                    marks = g.marks;
                    cascade =
                        record {
                          lines_low = g.lines_low;
                          lines_high = g.lines_high;
                          size = l;
                          few = few;
                          gates = ap (all_valid h.lines) (gates_words hs) ∙ g.gates;
                        };
                  };
            });
        gates_are = ap gates_of t ∙ gates_words hs;
      }

-- what follows the room stands behind it
pub read_within : {text : List ℕ} {most : ℕ} {h : Header} {gates taken : ℕ} {buffer : List ℕ} (rest : List ℕ) → FileRead text most h gates taken buffer → FileRead text most h gates taken (buffer ++ rest)
read_within {text} {most} {h} {gates} {taken} {buffer} rest r =
    let e : take (3 * gates) (buffer ++ rest) ≡ take (3 * gates) buffer = take-append-le (3 * gates) buffer rest r.inside in
    record {
      cascade = r.cascade;
      is = r.is;
      few = r.few;
      inside = omega (arith, r.inside, length-append buffer rest);
      words = subst (FileWords h) (sym e) r.words;
      gates_are = ap gates_of e ∙ r.gates_are;
    }

-- ---- the second file

module _ (h : Header) (gs : List Gate) (text : List ℕ) where
  pub verdict_refused : (number place : ℕ) → whole_file max_input_gates text ≡ refused number place → second_verdict h gs text ≡ refused_at number 2 place
  unfolding second_verdict
  verdict_refused number place e = file_refused 2 (whole_file max_input_gates text) _ number place e

  pub verdict_served : (c : Reading) → whole_file max_input_gates text ≡ served c → second_verdict h gs text ≡ pair_verdict h gs c.header c.gates
  unfolding second_verdict
  verdict_served c e = file_served 2 (whole_file max_input_gates text) _ c e

-- ---- the input

pub input_long : (input : List ℕ) → max_input < length input → verdict input ≡ refused_at no_room 0 0
unfolding verdict
input_long input h = both_failed (leb (length input) max_input) _ _ (lt-leb (length input) max_input h)

module _ (input : List ℕ) (short : length input ≤ max_input) where
  pub first_bad : (number place : ℕ) → file_within max_input_gates input ≡ refused number place → verdict input ≡ refused_at number 1 place
  unfolding verdict
  first_bad number place e =
      both_met (leb (length input) max_input) _ _ (le-leb (length input) max_input short) ∙ file_refused 1 (file_within max_input_gates input) _ number place e

  pub first_good : (c : Reading) → file_within max_input_gates input ≡ served c → verdict input ≡ second_verdict c.header c.gates (drop c.taken input)
  unfolding verdict
  first_good c e =
      both_met (leb (length input) max_input) _ _ (le-leb (length input) max_input short) ∙ file_served 1 (file_within max_input_gates input) _ c e

-- What is written for one input. Assumes nothing.
use mathlib.Core.Path.{◌≡◌, refl, sym, ap, ap₂, subst, ◌∙◌}
use mathlib.Core.Logic.{◌↔◌}
use mathlib.Core.Bool.{Bool, true, false, cond, ◌&&◌}
use mathlib.Core.List.{List, [], ◌∷◌}
use mathlib.Core.Option.{Option, none, some}
use Prim.Native.Nat.{ℕ, zero, suc, ◌+◌, ◌*◌, ◌-◌, ◌/◌, ◌%◌, ◌^◌, ◌≤◌, ◌<◌}
use native.Mathlib.Nat.{le_trans}
use native.Mathlib.Omega.{arith}
use lib.Dec.{eqb, leb}
use lib.ListN.{length, get_or}
use borrow.Author.Tests.{le-leb, leb-true, eqb-true, eqb-false}
use Rattle.bits.proofs.Bools.{either, refuted, and_parts, both, cond-true, cond-false}
use Rattle.bits.specs.Digits.{bit}
use Rattle.bits.proofs.Digits.{bit_first, bit_suc}
use Rattle.circuit.specs.declared.gate.Gate.{Gate}
use Rattle.circuit.specs.declared.header.Header.{Header}
use Rattle.circuit.specs.Header.{permits, alike, Permitted}
use Rattle.circuit.specs.Outcome.{Outcome, served, demand}
use Rattle.circuit.specs.Refusal.{bad_state, no_room}
use Rattle.circuit.specs.Run.{run, DiffersFor}
use Rattle.circuit.specs.Text.{digit}
use Rattle.circuit.proofs.Promises.{demand_met, permits_lines, lines_permit, differs_unlike}
use Rattle.text.specs.declared.input.Outputs.{Outputs}
use Rattle.text.specs.Dimacs.{then_read}
use Rattle.text.specs.FileOutcome.{FileOutcome, answered, refused_at, refusal_text}
use Rattle.text.specs.Compare.{file_words, CascadePair, cascades, files_of, differ_word}
use Rattle.text.specs.Answers.{fit_outcome, WritesWhere}
use Rattle.text.specs.TwoFiles.{TwoFiles, FilesRefused}
use Rattle.text.specs.CheckInput.{max_checked, state_text, state_read, agree_word, outputs, outputs_text, checked_on, checked_files, checked, checked_text, check_text, InputRoomsFit, input_outcome, input_buffer}
use Rattle.text.specs.CheckInputLaws.{said_of, ChecksInput}
use Rattle.text.proofs.FileOutcome.{both_met, both_failed}
use Rattle.text.proofs.Writes.{two_tests, writes_where}
use Rattle.text.proofs.Longest.{refused_few}
use Rattle.text.proofs.Verdicts.{Judged, judged, judged_is}
use Rattle.text.proofs.answer.Laws.{refusal_few}
use Rattle.text.proofs.input.Laws.{parts}

-- ---- a state in characters

digit_good : (k : ℕ) → k < 2 → (leb 48 (digit k) && leb (digit k) 49) ≡ true
digit_good k h = both (le-leb 48 (digit k) (omega arith)) (le-leb (digit k) 49 (omega arith))

pub state_size : (n x : ℕ) → length (state_text n x) ≡ n
unfolding state_text
state_size zero x = refl
state_size (suc n) x = ap suc (state_size n (x / 2))

pub state_line : (n x k : ℕ) → k < n → get_or (state_text n x) k 0 ≡ digit (cond (bit x k) 1 0)
unfolding state_text
state_line zero x k h = absurd (omega arith)
state_line (suc n) x zero h = ap digit (low (x % 2) (omega arith) ∙ sym (ap (λ (b : Bool). cond b 1 0) (bit_first x)))
  where
    low : (d : ℕ) → d < 2 → d ≡ cond (eqb d 1) 1 0
    low d l =
        either (eqb d 1)
        (λ t. eqb-true d 1 t ∙ sym (cond-true (eqb d 1) 1 0 t))
        (λ t. let z : d ≡ 0 = omega (arith, eqb-false d 1 t) in z ∙ sym (cond-false (eqb d 1) 1 0 t))
state_line (suc n) x (suc k) h = state_line n (x / 2) k (omega arith) ∙ ap (λ (b : Bool). digit (cond b 1 0)) (sym (bit_suc x k))

pub state_back : (n x : ℕ) → x < 2 ^ n → state_read n (state_text n x) ≡ some x
unfolding state_read state_text
state_back zero x h = let z : 0 ≡ x = omega arith in ap some z
state_back (suc n) x h =
    let e : (digit (x % 2) - 48) + 2 * (x / 2) ≡ x = omega arith in
    cond-true (leb 48 (digit (x % 2)) && leb (digit (x % 2)) 49) _ _ (digit_good (x % 2) (omega arith))
    ∙ ap (then_read (λ (y : ℕ). (digit (x % 2) - 48) + 2 * y)) (state_back n (x / 2) (omega arith))
    ∙ ap some e

-- what was read before something is put before it
read_then : (t : Bool) (f : ℕ → ℕ) (o : Option ℕ) (x : ℕ) → cond t (then_read f o) none ≡ some x → (y : ℕ) × (t ≡ true) × (o ≡ some y) × (f y ≡ x)
read_then true f (some y) x e = let g : f y ≡ x = cc in (y, refl, refl, g)
read_then true f none x e = let z : ◌≡◌ {A = ℕ} 0 1 = cc in absurd (omega arith)
read_then false f o x e = let z : ◌≡◌ {A = ℕ} 0 1 = cc in absurd (omega arith)

pub state_was : (n : ℕ) (text : List ℕ) (x : ℕ) → state_read n text ≡ some x → (x < 2 ^ n) × (text ≡ state_text n x)
unfolding state_read state_text
state_was zero [] x e = let z : 0 ≡ x = cc in (omega arith, refl)
state_was zero (b ∷ bs) x e = let z : ◌≡◌ {A = ℕ} 0 1 = cc in absurd (omega arith)
state_was (suc n) [] x e = let z : ◌≡◌ {A = ℕ} 0 1 = cc in absurd (omega arith)
state_was (suc n) (b ∷ bs) x e =
    let (y, t, r, f) = read_then (leb 48 b && leb b 49) (λ (y : ℕ). (b - 48) + 2 * y) (state_read n bs) x e in
    let (h, s) = state_was n bs y r in
    let (l, u) = and_parts (leb 48 b) (leb b 49) t in
    let low = leb-true 48 b l in
    let high = leb-true b 49 u in
    let p : b ≡ digit (x % 2) = omega arith in
    let q : y ≡ x / 2 = omega arith in
    (omega arith, ap₂ (λ (c : ℕ) (l : List ℕ). c ∷ l) p (s ∙ ap (state_text n) q))

-- ---- the files

pub refused_told : (first second state : List ℕ) (number file place : ℕ) → FilesRefused first second number file place
    → check_text first second state ≡ refusal_text number file place
unfolding check_text checked
refused_told first second state number file place r =
    ap (λ (f : FileOutcome CascadePair). checked_text (checked_files f state)) (judged_is first second (refused_at number file place) r)

module _ (first second : List ℕ) (h : Header) (a b : List Gate) (t : TwoFiles first second h a b) where
  abbrev answer : Option ℕ → List ℕ
  answer o = checked_text (checked_on h a b o)

  told_of : (state : List ℕ) → check_text first second state ≡ answer (state_read h.lines state)
  unfolding check_text checked
  told_of state = ap (λ (f : FileOutcome CascadePair). checked_text (checked_files f state)) (judged_is first second (answered (cascades h a b)) t)

  module _ (x : ℕ) (p : Permitted h x) where
    outputs_are : check_text first second (state_text h.lines x) ≡ outputs_text h (run a x) (run b x)
    outputs_are =
        told_of (state_text h.lines x)
        ∙ ap answer (state_back h.lines x p.state)
        ∙ ap checked_text (both_met (permits h x) _ _ (lines_permit h x t.first_good.cascade.marks p))

    said_alike : alike h (run a x) (run b x) ≡ true → check_text first second (state_text h.lines x) ≡ said_of agree_word h.lines a b x
    unfolding outputs_text
    said_alike e = outputs_are ∙ ap (λ (w : List ℕ). said_of w h.lines a b x) (cond-true (alike h (run a x) (run b x)) _ _ e)

    said_apart : alike h (run a x) (run b x) ≡ false → check_text first second (state_text h.lines x) ≡ said_of differ_word h.lines a b x
    unfolding outputs_text
    said_apart e = outputs_are ∙ ap (λ (w : List ℕ). said_of w h.lines a b x) (cond-false (alike h (run a x) (run b x)) _ _ e)

  unlike : (x : ℕ) → DiffersFor h a b x ↔ (Permitted h x × (alike h (run a x) (run b x) ≡ false))
  unlike = differs_unlike h a b t.first_good.cascade.gates t.second_good.cascade.gates

  pub agree_told : (x : ℕ) → Permitted h x → (DiffersFor h a b x → ⊥) → check_text first second (state_text h.lines x) ≡ said_of agree_word h.lines a b x
  agree_told x p same =
      either (alike h (run a x) (run b x)) (said_alike x p) (λ e. absurd (same ((unlike x).1 (p, e))))

  pub differ_told : (x : ℕ) → DiffersFor h a b x → check_text first second (state_text h.lines x) ≡ said_of differ_word h.lines a b x
  differ_told x d = said_apart x d.permitted ((unlike x).0 d).1

  pub no_state : (state : List ℕ) → ((x : ℕ) → Permitted h x → state ≡ state_text h.lines x → ⊥) → check_text first second state ≡ refusal_text 9 0 0
  no_state state bad = told_of state ∙ by (state_read h.lines state) refl
    where
      by : (o : Option ℕ) → state_read h.lines state ≡ o → answer (state_read h.lines state) ≡ refusal_text 9 0 0
      by (some x) e =
          let (l, s) = state_was h.lines state x e in
          ap answer e
          ∙ either (permits h x) (λ p. absurd (bad x (permits_lines h x p) s)) (λ p. ap checked_text (both_failed (permits h x) bad_state _ p))
      by none e = ap answer e

pub checks : ChecksInput check_text
checks = record { refused_told = refused_told; no_state = no_state; differ_told = differ_told; agree_told = agree_told }

-- ---- any program that tells as much

module _ (program : List ℕ → List ℕ → List ℕ → List ℕ) (other : List ℕ → List ℕ → List ℕ → List ℕ) (p : ChecksInput program) (q : ChecksInput other) (first second : List ℕ) where
  module _ (h : Header) (a b : List Gate) (t : TwoFiles first second h a b) where
    on_state : (x : ℕ) → Permitted h x → program first second (state_text h.lines x) ≡ other first second (state_text h.lines x)
    on_state x allowed =
        let unlike = differs_unlike h a b t.first_good.cascade.gates t.second_good.cascade.gates x in
        either (alike h (run a x) (run b x))
        (λ u.
        let same : DiffersFor h a b x → ⊥ = λ d. refuted (unlike.0 d).1 u in
        p.agree_told first second h a b t x allowed same ∙ sym (q.agree_told first second h a b t x allowed same))
        (λ u.
        let d = unlike.1 (allowed, u) in
        p.differ_told first second h a b t x d ∙ sym (q.differ_told first second h a b t x d))

    none_such : (state : List ℕ) → ((x : ℕ) → Permitted h x → state ≡ state_text h.lines x → ⊥) → program first second state ≡ other first second state
    none_such state bad = p.no_state first second h a b t state bad ∙ sym (q.no_state first second h a b t state bad)

    on_text : (state : List ℕ) (o : Option ℕ) → state_read h.lines state ≡ o → program first second state ≡ other first second state
    on_text state (some x) e =
        let (l, s) = state_was h.lines state x e in
        either (permits h x)
        (λ u. subst (λ (w : List ℕ). program first second w ≡ other first second w) (sym s) (on_state x (permits_lines h x u)))
        (λ u.
        none_such state (λ y allowed r.
        let f : some x ≡ some y = sym e ∙ ap (state_read h.lines) r ∙ state_back h.lines y allowed.state in
        let g : y ≡ x = cc in
        refuted u (ap (permits h) (sym g) ∙ lines_permit h y t.first_good.cascade.marks allowed)))
    on_text state none e =
        none_such state (λ x allowed s.
        let g = sym e ∙ ap (state_read h.lines) s ∙ state_back h.lines x allowed.state in
        let z : ◌≡◌ {A = ℕ} 0 1 = cc in
        omega arith)

  on_files : (state : List ℕ) (f : FileOutcome CascadePair) → Judged first second f → program first second state ≡ other first second state
  on_files state (answered p) t = on_text p.header p.first p.second t state (state_read p.header.lines state) refl
  on_files state (refused_at number file place) r = p.refused_told first second state number file place r ∙ sym (q.refused_told first second state number file place r)

pub checks_only : (program : List ℕ → List ℕ → List ℕ → List ℕ) → ChecksInput program → (first second state : List ℕ)
    → program first second state ≡ check_text first second state
checks_only program p first second state = on_files program check_text p checks first second state (files_of first second) (judged first second)

-- ---- how long

abbrev Few : FileOutcome Outputs → Type 0
Few c = length (checked_text c) ≤ max_checked

on_few : (h : Header) (a b : List Gate) → h.lines ≤ 64 → (o : Option ℕ) → Few (checked_on h a b o)
on_few h a b few (some x) =
    either (permits h x)
    (λ u.
    let p = parts h (run a x) (run b x) in
    subst Few (sym (both_met (permits h x) bad_state (answered (outputs h (run a x) (run b x))) u)) (omega (arith, p.sum, p.high)))
    (λ u. subst Few (sym (both_failed (permits h x) bad_state (answered (outputs h (run a x) (run b x))) u)) (omega (arith, refusal_few 9 0 0 (omega arith) (omega arith) (omega arith))))
on_few h a b few none = omega (arith, refusal_few 9 0 0 (omega arith) (omega arith) (omega arith))

files_few : (first second state : List ℕ) (f : FileOutcome CascadePair) → Judged first second f → length (checked_text (checked_files f state)) ≤ max_checked
files_few first second state (answered p) t = on_few p.header p.first p.second t.first_good.cascade.lines_high (state_read p.header.lines state)
files_few first second state (refused_at number file place) f = let (x, y, z) = refused_few first second number file place f in omega (arith, refusal_few number file place x y z)

pub text_fits : (first second state : List ℕ) → length (check_text first second state) ≤ max_checked
unfolding check_text checked
text_fits first second state = files_few first second state (files_of first second) (judged first second)

pub room_enough : (first second state : List ℕ) (room_a room_b room : ℕ) → InputRoomsFit room_a room_b → max_checked ≤ room
    → input_outcome first second state room_a room_b room ≡ served (length (check_text first second state))
unfolding input_outcome fit_outcome
room_enough first second state room_a room_b room (a, b) h =
    demand_met _ _ _ _ (le-leb file_words room_a a) ∙ demand_met _ _ _ _ (le-leb file_words room_b b)
    ∙ demand_met _ _ _ _ (le-leb (length (check_text first second state)) room (le_trans (text_fits first second state) h))

-- ---- exactly where everything fits

module _ (first second state : List ℕ) (room_a room_b : ℕ) (out : List ℕ) where
  abbrev text : List ℕ
  text = check_text first second state

  abbrev fits : Bool
  fits = leb file_words room_a && (leb file_words room_b && leb (length text) (length out))

  one_test : input_outcome first second state room_a room_b (length out) ≡ demand fits no_room 0 (served (length text))
  unfolding input_outcome fit_outcome
  one_test =
      ap (λ (o : Outcome ℕ). demand (leb file_words room_a) no_room 0 o) (two_tests (leb file_words room_b) _ no_room 0 _)
      ∙ two_tests (leb file_words room_a) _ no_room 0 _

  all_fit : fits ≡ true → InputRoomsFit room_a room_b × (length text ≤ length out)
  all_fit e =
      let (a, f) = and_parts (leb file_words room_a) _ e in
      let (b, g) = and_parts (leb file_words room_b) _ f in
      ((leb-true _ _ a, leb-true _ _ b), leb-true _ _ g)

  fit_all : InputRoomsFit room_a room_b × (length text ≤ length out) → fits ≡ true
  fit_all ((a, b), i) = both (le-leb _ _ a) (both (le-leb _ _ b) (le-leb _ _ i))

  pub call : WritesWhere (InputRoomsFit room_a room_b × (length text ≤ length out)) (input_outcome first second state room_a room_b (length out)) text out
      (input_buffer first second state room_a room_b out)
  unfolding input_buffer
  call =
      writes_where (InputRoomsFit room_a room_b × (length text ≤ length out)) fits all_fit fit_all (input_outcome first second state room_a room_b (length out)) text out one_test

-- What is wrong with a file of at most so many gates, at the start of a text and to its last byte, and what it is otherwise. Assumes nothing.
use mathlib.Core.Path.{◌≡◌, refl, sym, ap, subst, ◌∙◌}
use mathlib.Core.Logic.{◌↔◌}
use mathlib.Core.Bool.{false}
use mathlib.Core.List.{List, [], ◌++◌, append-nil}
use Prim.Native.Nat.{ℕ, ◌≤◌, ◌<◌}
use native.Mathlib.Omega.{arith}
use lib.Dec.{eqb, leb}
use lib.ListN.{length, take, length-append}
use lib.Seq.{take_all}
use borrow.Author.Tests.{eqb-true, eqb-false, eq-eqb, ne_eqb, leb-true, leb-false, le-leb, lt-leb}
use Rattle.circuit.specs.declared.gate.Gate.{Gate}
use Rattle.circuit.specs.declared.header.Header.{Header}
use Rattle.circuit.specs.Outcome.{Outcome, served, refused, then, fails}
use Rattle.circuit.specs.Refusal.{wrong_form, no_room}
use Rattle.circuit.specs.Text.{text_of}
use Rattle.circuit.specs.File.{Reading, reading, line_after_end}
use Rattle.circuit.specs.FileLaws.{FileCascade}
use Rattle.circuit.proofs.Promises.{reader, read_as, demand_met, demand_failed, demanded, then_served, then_refused, then_both, wrong_refused, fails_refused}
use Rattle.text.specs.WholeFile.{FileWithin, ReadWithin, WithinRefused, WholeRefused, file_within, whole_file}

-- what is read of the text of a cascade
abbrev pub whole : Header → List Gate → Reading
whole h a = record { header = h; gates = a; taken = length (text_of h a) }

module _ (most : ℕ) where
  -- ---- the file at the start of a text

  -- it is refused exactly for what is wrong with it
  pub within_refused : (text : List ℕ) (number place : ℕ) → (file_within most text ≡ refused number place) ↔ WithinRefused most text number place
  unfolding file_within
  within_refused text =
      wrong_refused (reading text) _ _ _ _ (reader.read_refused text) (read_as text)
      (λ c g. fails_refused (leb (length c.gates) most) no_room 0 c (most < length c.gates) (leb-false _ _, lt-leb _ _))

  -- and is served exactly as what the text starts with
  pub within_as : (text : List ℕ) (c : Reading) → (file_within most text ≡ served c) ↔ ReadWithin most text c
  unfolding file_within
  within_as text c = (
    (λ e.
        let (d, r, m) = then_both (reading text) _ c e in
        let (few, s) = demanded (leb (length d.gates) most) no_room 0 (served d) c m in
        let f : d ≡ c = cc in
        subst (ReadWithin most text) f (record { read = (read_as text d).0 r; few = leb-true _ _ few })),
    (λ w. then_served _ _ c ((read_as text c).1 w.read) ∙ demand_met _ _ _ _ (le-leb _ _ w.few)),
  )

  -- a file, followed by anything, is read as what is said of it
  pub starts_as : (h : Header) (a : List Gate) (rest : List ℕ) → FileWithin most h a → file_within most (text_of h a ++ rest) ≡ served (whole h a)
  starts_as h a rest good =
      (within_as _ (whole h a)).1 (record { read = record { good = good.cascade; rest = rest; starts = refl; bytes = refl }; few = good.few })

  module _ (text : List ℕ) (c : Reading) (e : file_within most text ≡ served c) where
    -- what was read is inside the text
    pub taken_within : c.taken ≤ length text
    taken_within =
        let g = ((within_as text c).0 e).read in
        omega (arith, g.bytes, ap length g.starts, length-append (text_of c.header c.gates) g.rest)

    -- it is a cascade's text, and the cascade has no more gates
    pub within_text : (FileWithin most c.header c.gates) × (take c.taken text ≡ text_of c.header c.gates)
    within_text =
        let w = (within_as text c).0 e in
        (record { cascade = w.read.good; few = w.few }, (reader.read_text text c ((read_as text c).1 w.read)).1)

  -- ---- to its last byte, by what its reading gives

  module _ (text : List ℕ) where
    pub whole_bad : (number place : ℕ) → file_within most text ≡ refused number place → whole_file most text ≡ refused number place
    unfolding whole_file
    whole_bad number place e = then_refused _ _ number place e

    module _ (c : Reading) (e : file_within most text ≡ served c) where
      pub whole_after : (c.taken ≡ length text → ⊥) → whole_file most text ≡ refused wrong_form (line_after_end c)
      unfolding whole_file
      whole_after h = then_served _ _ c e ∙ demand_failed _ _ _ _ (ne_eqb c.taken (length text) h)

      pub whole_good : c.taken ≡ length text → whole_file most text ≡ served c
      unfolding whole_file
      whole_good h = then_served _ _ c e ∙ demand_met _ _ _ _ (eq-eqb c.taken (length text) h)

  -- ---- by what it is

  abbrev pub WholeJudged : List ℕ → Outcome Reading → Type 0
  WholeJudged text (served c) = (FileWithin most c.header c.gates) × (text ≡ text_of c.header c.gates)
  WholeJudged text (refused number place) = WholeRefused most text number place

  -- it is refused exactly for what is wrong with it
  pub whole_refused : (text : List ℕ) (number place : ℕ) → (whole_file most text ≡ refused number place) ↔ WholeRefused most text number place
  unfolding whole_file
  whole_refused text =
      wrong_refused (file_within most text) _ _ _ _ (within_refused text) (within_as text)
      (λ c g. fails_refused (eqb c.taken (length text)) wrong_form (line_after_end c) c (c.taken < length text) (left c g))
    where
      left : (c : Reading) → ReadWithin most text c → (eqb c.taken (length text) ≡ false) ↔ (c.taken < length text)
      left c g =
          let inside : c.taken ≤ length text = taken_within text c ((within_as text c).1 g) in
          ((λ e. let ne = eqb-false c.taken (length text) e in omega arith), (λ h. ne_eqb c.taken (length text) (λ e. omega arith)))

  whole_by : (text : List ℕ) (o : Outcome Reading) → whole_file most text ≡ o → WholeJudged text o
  unfolding whole_file
  whole_by text (refused number place) e = (whole_refused text number place).0 e
  whole_by text (served c) e =
      let (d, r, m) = then_both (file_within most text) _ c e in
      let (good, is) = within_text text d r in
      let (all, s) = demanded (eqb d.taken (length text)) wrong_form (line_after_end d) (served d) c m in
      let f : d ≡ c = cc in
      subst (λ (x : Reading). WholeJudged text (served x)) f (good, sym (take_all d.taken text (omega (arith, eqb-true d.taken (length text) all))) ∙ is)

  pub whole_judged : (text : List ℕ) → WholeJudged text (whole_file most text)
  whole_judged text = whole_by text (whole_file most text) refl

  -- a file is read as what is said of it
  pub whole_is : (text : List ℕ) (h : Header) (a : List Gate) → FileWithin most h a → text ≡ text_of h a → whole_file most text ≡ served (whole h a)
  whole_is text h a good e =
      whole_good text (whole h a) (ap (file_within most) (e ∙ sym (append-nil (text_of h a))) ∙ starts_as h a [] good) (sym (ap length e))

-- ---- a file of more gates

-- is refused with 10, whatever follows
pub large_refused : (most : ℕ) (h : Header) (a : List Gate) (rest : List ℕ) → FileCascade h a → most < length a → WithinRefused most (text_of h a ++ rest) no_room 0
large_refused most h a rest good more =
    then (whole h a) (record { good = good; rest = rest; starts = refl; bytes = refl }) (fails more)

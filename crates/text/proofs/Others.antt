-- Of any program with the claim on two files: what `equal` and `differ` say, that it is none of the stand-ins, and that it writes our text. Assumes nothing.
use mathlib.Core.Path.{◌≡◌, refl, sym, ap, subst, ◌∙◌}
use mathlib.Core.List.{List, [], ◌∷◌}
use mathlib.Core.Option.{some}
use Prim.Native.Nat.{ℕ, ◌<◌, ◌≤◌}
use native.Mathlib.Omega.{arith}
use lib.Dec.{eqb, leb}
use borrow.Author.Tests.{eqb-true, eqb-false, leb-true, leb-false}
use Rattle.bits.proofs.Bools.{either}
use Rattle.circuit.specs.declared.gate.Gate.{Gate}
use Rattle.circuit.specs.declared.header.Header.{Header}
use Rattle.circuit.specs.Outcome.{served}
use Rattle.circuit.specs.Header.{unmarked}
use Rattle.circuit.specs.Run.{run, EqualFor, DiffersFor}
use Rattle.circuit.specs.Text.{text_of}
use Rattle.circuit.proofs.Promises.{equal_differs_for}
use Rattle.checking.specs.Compare.{max_sweep_lines, Difference, none, lowest}
use Rattle.checking.specs.Compare as sweep
use Rattle.checking.specs.FaultLaws.{without_constants, all_counted}
use Rattle.text.specs.Dimacs.{Dimacs, header_text, dimacs_read}
use Rattle.text.specs.FileOutcome.{FileOutcome, answered, refused_at, refusal_text, answer_text}
use Rattle.text.specs.BytesTell.{TextTells}
use Rattle.text.specs.Compare.{max_file_gates, CascadePair, cascades, files_of, Comparison, gates_left, left_formula, swept_as, compared, compared_files, comparison, compared_text, compare_text, equal_text, differ_text}
use Rattle.text.specs.TwoFiles.{TwoFiles, FilesRefused}
use Rattle.text.specs.CompareLaws.{MayWrite, refuses, overflows, reduces, sweeps, differs, asks, Compares}
use Rattle.text.proofs.FileOutcome.{not_refused, unanswered}
use Rattle.text.proofs.Fields.{differ_apart}
use Rattle.text.proofs.Strict.{text_was}
use Rattle.text.proofs.Verdicts.{judged_is}
use Rattle.text.proofs.Pairs.{listable}
use Rattle.text.proofs.Reduced.{found}
use Rattle.text.proofs.Compares.{by_none, by_sweep, by_clauses, list_fits, list_long}
use Rattle.text.proofs.StandIns.{once, plain, none_within, once_within, once_differs, first, second, first_bytes, second_bytes, junk_line, junk_equal, junk_files, constant_line, controlled, constant_equal, controlled_acts, constant_files, two_files}

-- ---- the files decide the cascades

-- the same cascades
record Same (h k : Header) (a b c d : List Gate) : Type 0 where
  header : h ≡ k
  first : a ≡ c
  second : b ≡ d

same : (first second : List ℕ) (h k : Header) (a b c d : List Gate) → TwoFiles first second h a b → TwoFiles first second k c d → Same h k a b c d
same first second h k a b c d s t =
    let f = unanswered (sym (judged_is first second (answered (cascades h a b)) s) ∙ judged_is first second (answered (cascades k c d)) t) in
    record { header = ap (λ (p : CascadePair). p.header) f; first = ap (λ (p : CascadePair). p.first) f; second = ap (λ (p : CascadePair). p.second) f }

-- two cascades are not refused
not_both : (first second : List ℕ) (h : Header) (a b : List Gate) (number file place : ℕ) → TwoFiles first second h a b → FilesRefused first second number file place → ⊥
not_both first second h a b number file place t r =
    not_refused (sym (judged_is first second (refused_at number file place) r) ∙ judged_is first second (answered (cascades h a b)) t)

-- ---- the kinds of texts start with different bytes

abbrev start : List ℕ → ℕ
start [] = 0
start (b ∷ bs) = b

refusal_start : (number file place : ℕ) → start (refusal_text number file place) ≡ 114
unfolding refusal_text
refusal_start number file place = refl

equal_start : (word : List ℕ) → start (equal_text word) ≡ 101
equal_start word = refl

differ_start : (x y z : ℕ) → start (differ_text x y z) ≡ 100
unfolding differ_text
differ_start x y z = refl

read_start : (text : List ℕ) (d : Dimacs) → dimacs_read text ≡ some d → start text ≡ 112
unfolding header_text
read_start text d e = ap start (text_was text d e)

tells_start : (text : List ℕ) (h : Header) (a b : List Gate) → TextTells text h a b → start text ≡ 112
tells_start text h a b t = read_start text t.read t.is_read

-- ---- what is wrong with the files is told

module _ (one two : List ℕ) (number file place : ℕ) (r : FilesRefused one two number file place) where
  refused_case : (text : List ℕ) → MayWrite one two text → text ≡ refusal_text number file place
  refused_case text (refuses k f p e s) = e ∙ ap (answer_text {A = CascadePair} (λ _. [])) (sym (judged_is one two (refused_at k f p) s) ∙ judged_is one two (refused_at number file place) r)
  refused_case text (overflows h c d s e more wide long) = absurd (not_both one two h c d number file place s r)
  refused_case text (reduces h c d s e gone equal) = absurd (not_both one two h c d number file place s r)
  refused_case text (sweeps h c d s e more few equal) = absurd (not_both one two h c d number file place s r)
  refused_case text (differs h c d s x e more few on low) = absurd (not_both one two h c d number file place s r)
  refused_case text (asks h c d s e tells ors more wide fits) = absurd (not_both one two h c d number file place s r)

pub refused_told : (program : List ℕ → List ℕ → List ℕ) (first second : List ℕ) (number file place : ℕ) → FilesRefused first second number file place
    → Compares program → program first second ≡ refusal_text number file place
refused_told program one two number file place r laws = refused_case one two number file place r (program one two) (laws one two)

-- ---- NOT and nothing, on one line

files : TwoFiles first second plain once []
files =
    record {
      first_good = once_within max_file_gates (omega arith);
      second_good = none_within max_file_gates;
      first_text = refl;
      second_text = refl;
      first_bytes = first_bytes;
      second_bytes = second_bytes;
    }

these : (h : Header) (a b : List Gate) → TwoFiles first second h a b → Same h plain a b once []
these h a b t = same first second h plain a b once [] t files

-- which differ
not_equal : (h : Header) (a b : List Gate) → TwoFiles first second h a b → EqualFor h a b → ⊥
not_equal h a b t equal =
    let s = these h a b t in
    once_differs (subst (λ (k : Header). EqualFor k once []) s.header (subst (λ (gs : List Gate). EqualFor h once gs) s.second (subst (λ (gs : List Gate). EqualFor h gs b) s.first equal)))

-- ---- the stand-ins

module _ (one two : List ℕ) (h : Header) (a b : List Gate) (t : TwoFiles one two h a b) where
  same_equal : (k : Header) (c d : List Gate) → TwoFiles one two k c d → EqualFor k c d → EqualFor h a b
  same_equal k c d s e =
      let p = same one two k h c d a b s t in
      subst (λ (j : Header). EqualFor j a b) p.header (subst (λ (gs : List Gate). EqualFor k a gs) p.second (subst (λ (gs : List Gate). EqualFor k gs d) p.first e))

  equal_case : (text word : List ℕ) → text ≡ equal_text word → MayWrite one two text → EqualFor h a b
  equal_case text word e (refuses number file place f g) = absurd (omega (arith, refusal_start number file place, ap start (sym f ∙ e), equal_start word))
  equal_case text word e (overflows k c d s f more wide long) = absurd (omega (arith, refusal_start 10 0 0, ap start (sym f ∙ e), equal_start word))
  equal_case text word e (reduces k c d s f gone equal) = same_equal k c d s equal
  equal_case text word e (sweeps k c d s f more few equal) = same_equal k c d s equal
  equal_case text word e (differs k c d s x f more few on low) = absurd (omega (arith, differ_start x (run c x) (run d x), ap start (sym f ∙ e), equal_start word))
  equal_case text word e (asks k c d s f tells ors more wide fits) = absurd (omega (arith, tells_start text k c d tells, ap start e, equal_start word))

pub equal_true : (program : List ℕ → List ℕ → List ℕ) (first second word : List ℕ) (h : Header) (a b : List Gate) → TwoFiles first second h a b
    → program first second ≡ equal_text word → Compares program → EqualFor h a b
equal_true program one two word h a b t e laws = equal_case one two h a b t (program one two) word e (laws one two)

pub always_equal : (program : List ℕ → List ℕ → List ℕ) → ((first second : List ℕ) (h : Header) (a b : List Gate) → TwoFiles first second h a b → (word : List ℕ) × (program first second ≡ equal_text word))
    → Compares program → ⊥
always_equal program all laws =
    let (word, e) = all first second plain once [] files in
    not_equal plain once [] files (equal_true program first second word plain once [] files e laws)

asked_case : (text : List ℕ) → start text ≡ 112 → MayWrite first second text → ⊥
asked_case text e (refuses number file place f g) = omega (arith, refusal_start number file place, ap start f)
asked_case text e (overflows h a b t f more wide long) = omega (arith, refusal_start 10 0 0, ap start f)
asked_case text e (reduces h a b t f gone equal) = not_equal h a b t equal
asked_case text e (sweeps h a b t f more few equal) = not_equal h a b t equal
asked_case text e (differs h a b t x f more few on low) = omega (arith, differ_start x (run a x) (run b x), ap start f)
asked_case text e (asks h a b t f tells ors more wide fits) = omega (arith, ap (λ (k : Header). k.lines) (these h a b t).header)

pub always_asks : (program : List ℕ → List ℕ → List ℕ) → ((first second : List ℕ) (h : Header) (a b : List Gate) → TwoFiles first second h a b → (d : Dimacs) × (dimacs_read (program first second) ≡ some d))
    → Compares program → ⊥
always_asks program all laws = let (d, e) = all first second plain once [] files in asked_case (program first second) (read_start _ d e) (laws first second)

-- ---- a difference

module _ (one two : List ℕ) (h : Header) (a b : List Gate) (x y z : ℕ) (t : TwoFiles one two h a b) where
  -- x is the lowest state on which c and d differ, and y and z are their outputs on it
  abbrev Said : Header → List Gate → List Gate → Type 0
  Said k c d = DiffersFor k c d x × ((w : ℕ) → w < x → DiffersFor k c d w → ⊥) × (y ≡ run c x) × (z ≡ run d x)

  same_said : (k : Header) (c d : List Gate) → TwoFiles one two k c d → Said k c d → Said h a b
  same_said k c d s e =
      let p = same one two k h c d a b s t in
      subst (λ (j : Header). Said j a b) p.header (subst (λ (gs : List Gate). Said k a gs) p.second (subst (λ (gs : List Gate). Said k gs d) p.first e))

  difference_case : (text : List ℕ) → text ≡ differ_text x y z → MayWrite one two text → Said h a b
  difference_case text e (refuses number file place f g) = absurd (omega (arith, refusal_start number file place, ap start (sym f ∙ e), differ_start x y z))
  difference_case text e (overflows k c d s f more wide long) = absurd (omega (arith, refusal_start 10 0 0, ap start (sym f ∙ e), differ_start x y z))
  difference_case text e (reduces k c d s f gone equal) = absurd (omega (arith, differ_start x y z, ap start (sym f ∙ e)))
  difference_case text e (sweeps k c d s f more few equal) = absurd (omega (arith, differ_start x y z, ap start (sym f ∙ e)))
  difference_case text e (differs k c d s w f more few on low) =
      let (q, u, v) = differ_apart w (run c w) (run d w) x y z (sym f ∙ e) in
      same_said k c d s (subst (DiffersFor k c d) q on, (λ i l. low i (omega (arith, q, l))), sym u ∙ ap (run c) q, sym v ∙ ap (run d) q)
  difference_case text e (asks k c d s f tells ors more wide fits) = absurd (omega (arith, tells_start text k c d tells, differ_start x y z, ap start e))

pub differ_true : (program : List ℕ → List ℕ → List ℕ) (first second : List ℕ) (h : Header) (a b : List Gate) (x y z : ℕ) → TwoFiles first second h a b
    → program first second ≡ differ_text x y z → Compares program → DiffersFor h a b x × ((w : ℕ) → w < x → DiffersFor h a b w → ⊥) × (y ≡ run a x) × (z ≡ run b x)
differ_true program one two h a b x y z t e laws = difference_case one two h a b x y z t (program one two) e (laws one two)

-- ---- marks that are passed over

module _ (program : List ℕ → List ℕ → List ℕ) (laws : Compares program) (h k : Header) (a b : List Gate) where
  -- two cascades that are equal with the marks of h, and not with those of k
  module _ (t : TwoFiles (text_of h a) (text_of h b) h a b) (s : TwoFiles (text_of k a) (text_of k b) k a b) (equal : EqualFor h a b) (apart : EqualFor k a b → ⊥) (few : k.lines ≤ max_sweep_lines) where
    told_apart : (text : List ℕ) → program (text_of h a) (text_of h b) ≡ text → MayWrite (text_of k a) (text_of k b) text → ⊥
    told_apart text e (refuses number file place f g) = not_both _ _ k a b number file place s g
    told_apart text e (overflows j c d u f more wide long) = omega (arith, ap (λ (i : Header). i.lines) (same _ _ j k c d a b u s).header, wide, few)
    told_apart text e (reduces j c d u f gone q) = apart (same_equal _ _ k a b s j c d u q)
    told_apart text e (sweeps j c d u f more narrow q) = apart (same_equal _ _ k a b s j c d u q)
    told_apart text e (differs j c d u x f more narrow on low) =
        (equal_differs_for h a b).0 equal x (differ_true program _ _ h a b x _ _ t (e ∙ f) laws).0
    told_apart text e (asks j c d u f tells ors more wide fits) = omega (arith, ap (λ (i : Header). i.lines) (same _ _ j k c d a b u s).header, wide, few)

    no_notice : program (text_of h a) (text_of h b) ≡ program (text_of k a) (text_of k b) → ⊥
    no_notice e = told_apart _ e (laws (text_of k a) (text_of k b))

pub junk_counted : (program : List ℕ → List ℕ → List ℕ)
    → ((h : Header) (a b : List Gate) → program (text_of h a) (text_of h b) ≡ program (text_of (all_counted h) a) (text_of (all_counted h) b)) → Compares program → ⊥
junk_counted program passes laws = no_notice program laws junk_line plain once [] junk_files files (junk_equal once []) once_differs (omega arith) (passes junk_line once [])

pub constants_ignored : (program : List ℕ → List ℕ → List ℕ)
    → ((h : Header) (a b : List Gate) → program (text_of h a) (text_of h b) ≡ program (text_of (without_constants h) a) (text_of (without_constants h) b)) → Compares program → ⊥
constants_ignored program passes laws =
    no_notice program laws constant_line (unmarked 2) controlled [] constant_files two_files constant_equal controlled_acts (omega arith) (passes constant_line controlled [])

-- ---- the files decide the text

module _ (one two : List ℕ) where
  text_at : (f : FileOutcome CascadePair) → files_of one two ≡ f → compare_text one two ≡ compared_text (compared_files f)
  unfolding compare_text comparison
  text_at f e = ap (λ (g : FileOutcome CascadePair). compared_text (compared_files g)) e

  module _ (h : Header) (a b : List Gate) (t : TwoFiles one two h a b) where
    due : (c : FileOutcome Comparison) → compared h a b ≡ c → compare_text one two ≡ compared_text c
    due c e = text_at (answered (cascades h a b)) (judged_is one two (answered (cascades h a b)) t) ∙ ap compared_text e

    none_found : EqualFor h a b → (d : Difference) → sweep.Says h a b (served d) → d ≡ none
    none_found e none s = refl
    none_found e (lowest x) s = let d = s.0 in absurd (d.outputs (e x d.permitted d.line d.counts))

    lowest_found : (x : ℕ) → DiffersFor h a b x → ((y : ℕ) → y < x → DiffersFor h a b y → ⊥) → (d : Difference) → sweep.Says h a b (served d) → d ≡ lowest x
    lowest_found x f low none s = absurd (f.outputs (s x f.permitted f.line f.counts))
    lowest_found x f low (lowest y) s =
        either (eqb y x)
        (λ u. ap lowest (eqb-true y x u))
        (λ u.
        let ne : y ≡ x → ⊥ = eqb-false y x u in
        either (leb y x)
        (λ v. let below = leb-true y x v in absurd (low y (omega (arith, below, ne)) s.0))
        (λ v. let above = leb-false y x v in absurd (f.outputs (s.1 x (omega (arith, above)) f.permitted f.line f.counts))))

    -- what the sweep says is what it found
    by_found : (d : Difference) → ((e : Difference) → sweep.Says h a b (served e) → e ≡ d) → (gates_left a b ≡ [] → ⊥) → h.lines ≤ max_sweep_lines
        → compared h a b ≡ answered (swept_as a b d)
    by_found d only more few = by_sweep h a b more few ∙ ap (λ (e : Difference). answered (swept_as a b e)) (only _ (found h a b (listable h a b t.first_good t.second_good)))

  decided : (text : List ℕ) → MayWrite one two text → text ≡ compare_text one two
  decided text (refuses k f p e s) = e ∙ sym (text_at (refused_at k f p) (judged_is one two (refused_at k f p) s))
  decided text (overflows h a b t e more wide long) = e ∙ sym (due h a b t _ (by_clauses h a b more wide ∙ list_long (left_formula h a b) long))
  decided text (reduces h a b t e gone equal) = e ∙ sym (due h a b t _ (by_none h a b gone))
  decided text (sweeps h a b t e more few equal) = e ∙ sym (due h a b t _ (by_found h a b t none (none_found h a b t equal) more few))
  decided text (differs h a b t x e more few on low) = e ∙ sym (due h a b t _ (by_found h a b t (lowest x) (lowest_found h a b t x on low) more few))
  decided text (asks h a b t e tells ors more wide fits) = e ∙ sym (due h a b t _ (by_clauses h a b more wide ∙ list_fits (left_formula h a b) fits))

pub compares_only : (program : List ℕ → List ℕ → List ℕ) → Compares program → (first second : List ℕ) → program first second ≡ compare_text first second
compares_only program laws one two = decided one two (program one two) (laws one two)

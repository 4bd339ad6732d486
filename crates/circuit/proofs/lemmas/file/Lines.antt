-- The laws of lines and fields: cut where they were joined, and joined again where they were cut. Assumes nothing.
use Rattle.std.proofs.Common.{◌≡◌, ℕ, suc, ◌+◌, Bool, true, false, not, ◌&&◌, eqb, List, [], ◌∷◌, ◌++◌, length, drop, sym, refl, ap, ◌∙◌, ap₂, append-nil, arith, eqb-true}
use mathlib.Core.Bool.{false≢true}
use borrow.Author.Tests.{not-true}
use Rattle.bits.proofs.Bools.{either, and_parts, both, cond-true, cond-false}
use Rattle.bits.proofs.Lists.{free}
use Rattle.circuit.specs.Text.{line_feed}
use Rattle.circuit.specs.File.{Line, first_line, later_lines, lines_of, line_size, longer, parted_by, same}

-- ---- lines

-- one byte more at the start of the first line
abbrev pub grown : ℕ → List Line → List Line
grown b ls = record { bytes = b ∷ (first_line ls).bytes; ended = (first_line ls).ended } ∷ later_lines ls

pub line_more : (b : ℕ) (r : List ℕ) → eqb b line_feed ≡ false → lines_of (b ∷ r) ≡ grown b (lines_of r)
unfolding lines_of
line_more b r e = cond-false (eqb b line_feed) _ _ e

pub line_over : (b : ℕ) (r : List ℕ) → eqb b line_feed ≡ true → lines_of (b ∷ r) ≡ record { bytes = []; ended = true } ∷ lines_of r
unfolding lines_of
line_over b r e = cond-true (eqb b line_feed) _ _ e

pub lines_none : lines_of [] ≡ []
unfolding lines_of
lines_none = refl

-- a line is cut off at its LF
pub lines_cut : (f r : List ℕ) → free line_feed f ≡ true → lines_of (f ++ (line_feed ∷ r)) ≡ record { bytes = f; ended = true } ∷ lines_of r
unfolding free
lines_cut [] r p = line_over line_feed r refl
lines_cut (b ∷ f) r p =
    let (x, y) = and_parts (not (eqb b line_feed)) (free line_feed f) p in
    line_more b (f ++ (line_feed ∷ r)) (not-true (eqb b line_feed) x) ∙ ap (grown b) (lines_cut f r y)

-- a text whose first line is ended: that line, its LF, and the later lines
pub record Cut (r : List ℕ) (l : Line) (ls : List Line) : Type 0 where
  pub text : r ≡ l.bytes ++ (line_feed ∷ drop (line_size l) r)
  pub later : lines_of (drop (line_size l) r) ≡ ls

pub cut_first : (r : List ℕ) → (first_line (lines_of r)).ended ≡ true → Cut r (first_line (lines_of r)) (later_lines (lines_of r))
cut_first [] e = absurd (false≢true (sym (ap (λ (ls : List Line). (first_line ls).ended) lines_none) ∙ e))
cut_first (b ∷ r) e =
    either (eqb b line_feed)
    (λ t. rw (line_over b r t) (record { text = ap (λ (x : ℕ). x ∷ r) (eqb-true b line_feed t); later = refl }))
    (λ t.
    let c = cut_first r (sym (ap (λ (ls : List Line). (first_line ls).ended) (line_more b r t)) ∙ e) in
    let m : ℕ = length (first_line (lines_of r)).bytes in
    let up : suc m + 1 ≡ suc (m + 1) = omega arith in
    let rest : drop (suc m + 1) (b ∷ r) ≡ drop (m + 1) r = ap (λ (n : ℕ). drop n (b ∷ r)) up in
    rw (line_more b r t)
    (record {
      text = ap (λ (x : List ℕ). b ∷ x) (c.text ∙ ap (λ (x : List ℕ). (first_line (lines_of r)).bytes ++ (line_feed ∷ x)) (sym rest));
      later = ap lines_of rest ∙ c.later;
    }))

-- ---- the parts of a text

-- parts, each after the byte s
unfoldable pub separated : ℕ → List (List ℕ) → List ℕ
separated s [] = []
separated s (f ∷ fs) = (s ∷ f) ++ separated s fs

abbrev pub whole : ℕ → List (List ℕ) → List ℕ
whole s [] = []
whole s (f ∷ fs) = f ++ separated s fs

-- every part is free of the byte s
unfoldable pub all_free : ℕ → List (List ℕ) → Bool
all_free s [] = true
all_free s (f ∷ fs) = free s f && all_free s fs

pub longer_some : (b : ℕ) (fs : List (List ℕ)) → longer b fs ≡ [] → ⊥
longer_some b [] e = mathlib.Core.List.cons≢nil e
longer_some b (f ∷ fs) e = mathlib.Core.List.cons≢nil e

module _ (s : ℕ) where
  pub part_more : (b : ℕ) (r : List ℕ) → eqb b s ≡ false → parted_by s (b ∷ r) ≡ longer b (parted_by s r)
  unfolding parted_by
  part_more b r e = cond-false (eqb b s) _ _ e

  pub part_over : (b : ℕ) (r : List ℕ) → eqb b s ≡ true → parted_by s (b ∷ r) ≡ [] ∷ parted_by s r
  unfolding parted_by
  part_over b r e = cond-true (eqb b s) _ _ e

  pub parts_none : parted_by s [] ≡ [] ∷ []
  unfolding parted_by
  parts_none = refl

  pub parts_some : (bs : List ℕ) → parted_by s bs ≡ [] → ⊥
  parts_some [] e = mathlib.Core.List.cons≢nil (sym parts_none ∙ e)
  parts_some (b ∷ bs) e =
      either (eqb b s)
      (λ t. mathlib.Core.List.cons≢nil (sym (part_over b bs t) ∙ e))
      (λ t. longer_some b (parted_by s bs) (sym (part_more b bs t) ∙ e))

  -- a part is cut off at the byte that ends it
  pub parts_cut : (f r : List ℕ) → free s f ≡ true → parted_by s (f ++ (s ∷ r)) ≡ f ∷ parted_by s r
  unfolding free
  parts_cut [] r p = part_over s r (borrow.Author.Tests.eq-eqb s s refl)
  parts_cut (b ∷ f) r p =
      let (x, y) = and_parts (not (eqb b s)) (free s f) p in
      part_more b (f ++ (s ∷ r)) (not-true (eqb b s) x) ∙ ap (longer b) (parts_cut f r y)

  pub parts_one : (f : List ℕ) → free s f ≡ true → parted_by s f ≡ f ∷ []
  unfolding free
  parts_one [] p = parts_none
  parts_one (b ∷ f) p =
      let (x, y) = and_parts (not (eqb b s)) (free s f) p in
      part_more b f (not-true (eqb b s) x) ∙ ap (longer b) (parts_one f y)

  -- the parts of joined parts
  pub parts_joined : (f : List ℕ) (fs : List (List ℕ)) → free s f ≡ true → all_free s fs ≡ true → parted_by s (f ++ separated s fs) ≡ f ∷ fs
  unfolding separated all_free
  parts_joined f [] p q = ap (parted_by s) (append-nil f) ∙ parts_one f p
  parts_joined f (g ∷ fs) p q =
      let (x, y) = and_parts (free s g) (all_free s fs) q in
      parts_cut f (g ++ separated s fs) p ∙ ap (λ (l : List (List ℕ)). f ∷ l) (parts_joined g fs x y)

  -- one part, and one more
  pub whole_one : (f : List ℕ) → whole s (f ∷ []) ≡ f
  unfolding separated
  whole_one f = append-nil f

  pub whole_next : (f g : List ℕ) (fs : List (List ℕ)) → whole s (f ∷ g ∷ fs) ≡ f ++ (s ∷ whole s (g ∷ fs))
  unfolding separated
  whole_next f g fs = refl

  -- a text is its parts, joined
  separated_whole : (fs : List (List ℕ)) → (fs ≡ [] → ⊥) → separated s fs ≡ s ∷ whole s fs
  unfolding separated
  separated_whole [] h = absurd (h refl)
  separated_whole (f ∷ fs) h = refl

  whole_longer : (b : ℕ) (fs : List (List ℕ)) → whole s (longer b fs) ≡ b ∷ whole s fs
  unfolding separated
  whole_longer b [] = refl
  whole_longer b (f ∷ fs) = refl

  pub parts_back : (bs : List ℕ) → whole s (parted_by s bs) ≡ bs
  unfolding separated
  parts_back [] = ap (whole s) parts_none
  parts_back (b ∷ bs) =
      either (eqb b s)
      (λ t.
      ap (whole s) (part_over b bs t)
      ∙ separated_whole (parted_by s bs) (parts_some bs)
      ∙ ap₂ (λ (x : ℕ) (l : List ℕ). x ∷ l) (sym (eqb-true b s t)) (parts_back bs))
      (λ t. ap (whole s) (part_more b bs t) ∙ whole_longer b (parted_by s bs) ∙ ap (λ (l : List ℕ). b ∷ l) (parts_back bs))

-- ---- the same bytes

pub same_true : (f g : List ℕ) → same f g ≡ true → f ≡ g
unfolding same
same_true [] [] e = refl
same_true [] (b ∷ g) e = absurd (false≢true e)
same_true (a ∷ f) [] e = absurd (false≢true e)
same_true (a ∷ f) (b ∷ g) e =
    let (x, y) = and_parts (eqb a b) (same f g) e in
    ap₂ (λ (p : ℕ) (l : List ℕ). p ∷ l) (eqb-true a b x) (same_true f g y)

pub same_self : (f : List ℕ) → same f f ≡ true
unfolding same
same_self [] = refl
same_self (a ∷ f) = both (borrow.Author.Tests.eq-eqb a a refl) (same_self f)

pub true_same : (f g : List ℕ) → f ≡ g → same f g ≡ true
true_same f g e = ap (same f) (sym e) ∙ same_self f

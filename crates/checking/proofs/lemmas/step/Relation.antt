-- The search finds the lowest i and then the lowest j, and a step is exactly the relation in document 01's words. Assumes nothing.
use Rattle.std.proofs.Common.{◌≡◌, ℕ, zero, suc, ◌+◌, ◌/◌, ◌<◌, Bool, true, false, cond, leb, List, [], ◌∷◌, length, sym, refl, ap, ◌∙◌, subst, ap₂, arith, leb-false, leb-true}
use Rattle.bits.proofs.Bools.{either, refuted}
use Rattle.circuit.specs.declared.gate.Gate.{Gate}
use Rattle.circuit.specs.Gate.{max_lines, valid}
use Rattle.circuit.specs.Words.{gates_of, gate_at, all_valid, gate_in}
use Rattle.circuit.proofs.Promises.{valid_by_lines, gates_length, gate_valid}
use Rattle.checking.specs.Match.{may_pass, Match, Compared, apart, matched, match_of, kind_of, remaining}
use Rattle.checking.specs.Step.{Scan, Search, judged, scan_from, scanned, search_from, replaced, Step, found, searched, step_gates}
use Rattle.checking.specs.StepLaws.{Matches, Meets, Steps, finds, idles}
use Rattle.checking.proofs.lemmas.step.Verdicts.{match_found, found_match, match_unique}

-- gate i may pass every gate strictly between i and j
abbrev Clear : List Gate → ℕ → ℕ → Type 0
Clear gs i j = (k : ℕ) → i < k → k < j → may_pass (gate_in gs i) (gate_in gs k) ≡ true

-- ---- the scan from one gate on

-- gate k of hs is the first that g matches, and g may pass those before it
record Hit (g : Gate) (hs : List Gate) (k : ℕ) (m : Match) : Type 0 where
  inside : k < length hs
  by : match_of g (gate_in hs k) ≡ matched m
  pass : (l : ℕ) → l < k → may_pass g (gate_in hs l) ≡ true
  first : (l : ℕ) → l < k → match_of g (gate_in hs l) ≡ apart

-- g matches none of hs that it can reach
abbrev Miss : Gate → List Gate → Type 0
Miss g hs = (k : ℕ) → k < length hs → ((l : ℕ) → l < k → may_pass g (gate_in hs l) ≡ true) → match_of g (gate_in hs k) ≡ apart

abbrev ScanRight : ℕ → Gate → List Gate → Scan → Type 0
ScanRight j g hs (Scan.at e m) = (k : ℕ) × (e ≡ j + k) × Hit g hs k m
ScanRight j g hs Scan.nothing = Miss g hs

-- what holds of a list's head and of its tail
at_head : (P : ℕ → Type 0) → P 0 → ((l : ℕ) → P (suc l)) → (l : ℕ) → P l
at_head P z s zero = z
at_head P z s (suc l) = s l

judged_right : (j : ℕ) (g h : Gate) (hs : List Gate) (v : Compared) (b : Bool) (s : Scan) → match_of g h ≡ v → may_pass g h ≡ b
    → ScanRight (j + 1) g hs s → ScanRight j g (h ∷ hs) (judged v j (cond b s Scan.nothing))
judged_right j g h hs (matched m) b s e p r =
    (0, omega arith, record { inside = omega arith; by = e; pass = λ l u. absurd (omega arith); first = λ l u. absurd (omega arith) })
judged_right j g h hs apart true (Scan.at d m) e p (k, q, t) =
    let inside = t.inside in (
      suc k,
      omega arith,
      record {
        inside = omega arith;
        by = t.by;
        pass = at_head (λ (l : ℕ). l < suc k → may_pass g (gate_in (h ∷ hs) l) ≡ true) (λ u. p) (λ l u. t.pass l (omega arith));
        first = at_head (λ (l : ℕ). l < suc k → match_of g (gate_in (h ∷ hs) l) ≡ apart) (λ u. e) (λ l u. t.first l (omega arith));
      },
    )
judged_right j g h hs apart true Scan.nothing e p r =
    at_head (λ (k : ℕ). k < length (h ∷ hs) → ((l : ℕ) → l < k → may_pass g (gate_in (h ∷ hs) l) ≡ true) → match_of g (gate_in (h ∷ hs) k) ≡ apart)
    (λ i c. e) (λ k i c. r k (omega arith) (λ l u. c (suc l) (omega arith)))
judged_right j g h hs apart false s e p r =
    at_head (λ (k : ℕ). k < length (h ∷ hs) → ((l : ℕ) → l < k → may_pass g (gate_in (h ∷ hs) l) ≡ true) → match_of g (gate_in (h ∷ hs) k) ≡ apart)
    (λ i c. e) (λ k i c. absurd (refuted p (c 0 (omega arith))))

scan_right : (j : ℕ) (g : Gate) (hs : List Gate) → ScanRight j g hs (scan_from j g hs)
unfolding scan_from
scan_right j g [] = λ k i c. absurd (omega arith)
scan_right j g (h ∷ hs) = judged_right j g h hs (match_of g h) (may_pass g h) (scan_from (j + 1) g hs) refl refl (scan_right (j + 1) g hs)

-- ---- the search over all gates

record Lowest (gs : List Gate) (i j : ℕ) (m : Match) : Type 0 where
  order : i < j
  inside : j < length gs
  by : match_of (gate_in gs i) (gate_in gs j) ≡ matched m
  pass : Clear gs i j
  first : (k : ℕ) → i < k → k < j → match_of (gate_in gs i) (gate_in gs k) ≡ apart
  before : (a b : ℕ) → a < i → a < b → b < length gs → Clear gs a b → match_of (gate_in gs a) (gate_in gs b) ≡ apart

abbrev Nowhere : List Gate → Type 0
Nowhere gs = (a b : ℕ) → a < b → b < length gs → Clear gs a b → match_of (gate_in gs a) (gate_in gs b) ≡ apart

abbrev SearchRight : ℕ → List Gate → Search → Type 0
SearchRight o gs (Search.at i j m) = (a : ℕ) × (b : ℕ) × (i ≡ o + a) × (j ≡ o + b) × Lowest gs a b m
SearchRight o gs Search.nothing = Nowhere gs

-- from the head nothing is reached
miss_head : (g : Gate) (gs : List Gate) → Miss g gs → (b : ℕ) → 0 < b → b < length (g ∷ gs) → Clear (g ∷ gs) 0 b → match_of g (gate_in (g ∷ gs) b) ≡ apart
miss_head g gs r zero o i c = absurd (omega arith)
miss_head g gs r (suc b) o i c = r b (omega arith) (λ l u. c (suc l) (omega arith) (omega arith))

-- what holds between two gates of the tail
tail_clear : (g : Gate) (gs : List Gate) (a b : ℕ) → Clear (g ∷ gs) (suc a) (suc b) → Clear gs a b
tail_clear g gs a b c k u v = c (suc k) (omega arith) (omega arith)

clear_tail : (g : Gate) (gs : List Gate) (a b : ℕ) → Clear gs a b → Clear (g ∷ gs) (suc a) (suc b)
clear_tail g gs a b c zero u v = absurd (omega arith)
clear_tail g gs a b c (suc k) u v = c k (omega arith) (omega arith)

scanned_right : (o : ℕ) (g : Gate) (gs : List Gate) (s : Scan) (r : Search) → ScanRight (o + 1) g gs s → SearchRight (o + 1) gs r → SearchRight o (g ∷ gs) (scanned s o r)
scanned_right o g gs (Scan.at e m) r (k, q, t) w =
    let inside = t.inside in (
      0,
      suc k,
      omega arith,
      omega arith,
      record {
        order = omega arith;
        inside = omega arith;
        by = t.by;
        pass = at_head (λ (l : ℕ). 0 < l → l < suc k → may_pass g (gate_in (g ∷ gs) l) ≡ true) (λ u v. absurd (omega arith)) (λ l u v. t.pass l (omega arith));
        first = at_head (λ (l : ℕ). 0 < l → l < suc k → match_of g (gate_in (g ∷ gs) l) ≡ apart) (λ u v. absurd (omega arith)) (λ l u v. t.first l (omega arith));
        before = λ a b u. absurd (omega arith);
      },
    )
scanned_right o g gs Scan.nothing (Search.at i j m) miss (a, b, p, q, t) =
    let order = t.order in
    let inside = t.inside in (
      suc a,
      suc b,
      omega arith,
      omega arith,
      record {
        order = omega arith;
        inside = omega arith;
        by = t.by;
        pass = clear_tail g gs a b t.pass;
        first = at_head (λ (l : ℕ). suc a < l → l < suc b → match_of (gate_in gs a) (gate_in (g ∷ gs) l) ≡ apart) (λ u v. absurd (omega arith)) (λ l u v. t.first l (omega arith) (omega arith));
        before = early;
      },
    )
  where
    early : (c d : ℕ) → c < suc a → c < d → d < length (g ∷ gs) → Clear (g ∷ gs) c d → match_of (gate_in (g ∷ gs) c) (gate_in (g ∷ gs) d) ≡ apart
    early zero d u v w x = miss_head g gs miss d v w x
    early (suc c) zero u v w x = absurd (omega arith)
    early (suc c) (suc d) u v w x = t.before c d (omega arith) (omega arith) (omega arith) (tail_clear g gs c d x)
scanned_right o g gs Scan.nothing Search.nothing miss far = all
  where
    all : (c d : ℕ) → c < d → d < length (g ∷ gs) → Clear (g ∷ gs) c d → match_of (gate_in (g ∷ gs) c) (gate_in (g ∷ gs) d) ≡ apart
    all zero d v w x = miss_head g gs miss d v w x
    all (suc c) zero v w x = absurd (omega arith)
    all (suc c) (suc d) v w x = far c d (omega arith) (omega arith) (tail_clear g gs c d x)

search_right : (o : ℕ) (gs : List Gate) → SearchRight o gs (search_from o gs)
unfolding search_from
search_right o [] = λ a b u v. absurd (omega arith)
search_right o (g ∷ gs) = scanned_right o g gs (scan_from (o + 1) g gs) (search_from (o + 1) gs) (scan_right (o + 1) g gs) (search_right (o + 1) gs)

-- the places that the search tells
pub search_places : (gs : List Gate) (i j : ℕ) (m : Match) → search_from 0 gs ≡ Search.at i j m → (i < j) × (j < length gs)
search_places gs i j m e =
    let (a, b, p, q, t) = subst (SearchRight 0 gs) e (search_right 0 gs) in
    let order = t.order in
    let inside = t.inside in
    (omega arith, omega arith)

-- ---- the relation

-- a target stands below 64
pub target_low : (ws : List ℕ) (i : ℕ) (g : Gate) → all_valid max_lines (gates_of ws) ≡ true → i < length ws / 3 → g ≡ gate_at ws i → g.target < max_lines
target_low ws i g v h e =
    let n = gates_length ws in
    let l : valid max_lines g ≡ true = ap (valid max_lines) e ∙ gate_valid max_lines (gates_of ws) i v (omega arith) in
    (valid_by_lines max_lines g l).target_below

never_matched : (v : Compared) (m : Match) → v ≡ apart → v ≡ matched m → ⊥
never_matched v m e f = let z : ◌≡◌ {A = ℕ} 0 1 = cc in omega arith

-- two gates that the search passed over are no candidate
missed : (gs : List Gate) (a b : ℕ) (o : Match) → match_of (gate_in gs a) (gate_in gs b) ≡ apart → Meets gs a b o → ⊥
missed gs a b o e c = never_matched _ o e (match_found _ _ o c.matches)

module _ (gs : List Gate) (v : all_valid max_lines gs ≡ true) where
  lowest_steps : (i j : ℕ) (m : Match) → Lowest gs i j m → Steps gs (found i j (kind_of m) (replaced i j (remaining m) gs))
  lowest_steps i j m t =
      let order = t.order in
      let inside = t.inside in
      finds i j m
      (record {
        order = t.order;
        inside = t.inside;
        matches = found_match _ _ m (gate_valid max_lines gs i v (omega arith)) (gate_valid max_lines gs j v inside) t.by;
        passes = t.pass;
      })
      (λ a b o c. either (leb i a) (λ q. leb-true i a q) (λ q. absurd (missed gs a b o (t.before a b (leb-false i a q) c.order c.inside c.passes) c)))
      (λ b o c. either (leb j b) (λ q. leb-true j b q) (λ q. absurd (missed gs i b o (t.first b c.order (leb-false j b q)) c)))

  searched_right : (r : Search) → SearchRight 0 gs r → Steps gs (searched r gs)
  searched_right (Search.at i j m) (a, b, p, q, t) =
      let pa : a ≡ i = omega arith in
      let pb : b ≡ j = omega arith in
      lowest_steps i j m (subst (λ (x : ℕ). Lowest gs i x m) pb (subst (λ (x : ℕ). Lowest gs x b m) pa t))
  searched_right Search.nothing n = idles (λ i j m c. missed gs i j m (n i j c.order c.inside c.passes) c)

  -- our step has the relation
  pub step_relation : Steps gs (step_gates gs)
  unfolding step_gates
  step_relation = searched_right (search_from 0 gs) (search_right 0 gs)

-- the relation leaves one answer
pub steps_unique : (gs : List Gate) (r t : Step (List Gate)) → Steps gs r → Steps gs t → r ≡ t
steps_unique gs _ _ (finds i j m c low next) (finds a b o d low' next') =
    let p : i ≡ a = omega (arith, low a b o d, low' i j m c) in
    let d' : Meets gs i b o = subst (λ (x : ℕ). Meets gs x b o) (sym p) d in
    let c' : Meets gs a j m = subst (λ (x : ℕ). Meets gs x j m) p c in
    let q : j ≡ b = omega (arith, next b o d', next' j m c') in
    let e : m ≡ o = match_unique _ _ m o c.matches (subst (λ (x : ℕ). Matches (gate_in gs i) (gate_in gs x) o) (sym q) d'.matches) in
    ap₂ (λ (x y : ℕ). found x y (kind_of m) (replaced x y (remaining m) gs)) p q
    ∙ ap (λ (x : Match). found a b (kind_of x) (replaced a b (remaining x) gs)) e
steps_unique gs _ _ (finds i j m c low next) (idles n) = absurd (n i j m c)
steps_unique gs _ _ (idles n) (finds i j m c low next) = absurd (n i j m c)
steps_unique gs _ _ (idles n) (idles k) = refl

-- The laws of the search over words: one gate at a time. Assumes nothing.
use Rattle.std.proofs.Common.{◌≡◌, ℕ, ◌+◌, ◌*◌, ◌/◌, ◌<◌, ◌≤◌, Bool, true, false, cond, List, ◌∷◌, length, drop, sym, refl, ap, ◌∙◌, arith}
use Rattle.circuit.specs.declared.gate.Gate.{Gate}
use Rattle.circuit.specs.Words.{gates_of, gate_at}
use Rattle.circuit.proofs.Promises.{gates_next, gates_end}
use Rattle.checking.specs.Match.{may_pass, Match, Compared, apart, matched, match_of}
use Rattle.checking.specs.Step.{Scan, Search, judged, scan_from, scanned, search_from}
use Rattle.checking.specs.private.StepCode.{from_gate}

-- ---- the scan from one gate on

module _ (j : ℕ) (g h : Gate) (hs : List Gate) where
  pub scan_hit : (m : Match) → match_of g h ≡ matched m → scan_from j g (h ∷ hs) ≡ Scan.at j m
  unfolding scan_from
  scan_hit m e = ap (λ (v : Compared). judged v j (cond (may_pass g h) (scan_from (j + 1) g hs) Scan.nothing)) e

  pub scan_stop : match_of g h ≡ apart → may_pass g h ≡ false → scan_from j g (h ∷ hs) ≡ Scan.nothing
  unfolding scan_from
  scan_stop e p =
      ap (λ (v : Compared). judged v j (cond (may_pass g h) (scan_from (j + 1) g hs) Scan.nothing)) e
      ∙ ap (λ (b : Bool). cond b (scan_from (j + 1) g hs) Scan.nothing) p

  pub scan_on : match_of g h ≡ apart → may_pass g h ≡ true → scan_from j g (h ∷ hs) ≡ scan_from (j + 1) g hs
  unfolding scan_from
  scan_on e p =
      ap (λ (v : Compared). judged v j (cond (may_pass g h) (scan_from (j + 1) g hs) Scan.nothing)) e
      ∙ ap (λ (b : Bool). cond b (scan_from (j + 1) g hs) Scan.nothing) p

module _ (ws : List ℕ) (j : ℕ) (g h : Gate) (inside : j < length ws / 3) (is : h ≡ gate_at ws j) where
  -- gate j, and the gates after it
  next : gates_of (drop (3 * j) ws) ≡ h ∷ gates_of (drop (3 * (j + 1)) ws)
  next = gates_next ws j inside ∙ ap (λ (f : Gate). f ∷ gates_of (drop (3 * (j + 1)) ws)) (sym is)

  pub words_hit : (m : Match) → match_of g h ≡ matched m → scan_from j g (gates_of (drop (3 * j) ws)) ≡ Scan.at j m
  words_hit m e = ap (scan_from j g) next ∙ scan_hit j g h _ m e

  pub words_stop : match_of g h ≡ apart → may_pass g h ≡ false → scan_from j g (gates_of (drop (3 * j) ws)) ≡ Scan.nothing
  words_stop e p = ap (scan_from j g) next ∙ scan_stop j g h _ e p

  pub words_on : match_of g h ≡ apart → may_pass g h ≡ true → scan_from j g (gates_of (drop (3 * j) ws)) ≡ scan_from (j + 1) g (gates_of (drop (3 * (j + 1)) ws))
  words_on e p = ap (scan_from j g) next ∙ scan_on j g h _ e p

pub words_end : (ws : List ℕ) (j : ℕ) (g : Gate) → length ws / 3 ≤ j → scan_from j g (gates_of (drop (3 * j) ws)) ≡ Scan.nothing
unfolding scan_from
words_end ws j g h = ap (scan_from j g) (gates_end ws j h)

-- ---- the search over all gates

-- what a scan tells as a search, with what is found after it
scan_found : (i k j : ℕ) (m : Match) (s : Scan) (later : Search) → from_gate i s ≡ Search.at k j m → scanned s i later ≡ Search.at k j m
scan_found i k j m (Scan.at l o) later e = e
scan_found i k j m Scan.nothing later e = let z : ◌≡◌ {A = ℕ} 0 1 = cc in absurd (omega arith)

scan_nothing : (i : ℕ) (s : Scan) (later : Search) → from_gate i s ≡ Search.nothing → scanned s i later ≡ later
scan_nothing i (Scan.at l o) later e = let z : ◌≡◌ {A = ℕ} 0 1 = cc in absurd (omega arith)
scan_nothing i Scan.nothing later e = refl

module _ (ws : List ℕ) (i : ℕ) (inside : i < length ws / 3) where
  abbrev rest : List Gate
  rest = gates_of (drop (3 * (i + 1)) ws)

  pub words_found : (k j : ℕ) (m : Match) → from_gate i (scan_from (i + 1) (gate_at ws i) rest) ≡ Search.at k j m → search_from i (gates_of (drop (3 * i) ws)) ≡ Search.at k j m
  unfolding search_from
  words_found k j m e = ap (search_from i) (gates_next ws i inside) ∙ scan_found i k j m _ _ e

  pub words_next : from_gate i (scan_from (i + 1) (gate_at ws i) rest) ≡ Search.nothing → search_from i (gates_of (drop (3 * i) ws)) ≡ search_from (i + 1) rest
  unfolding search_from
  words_next e = ap (search_from i) (gates_next ws i inside) ∙ scan_nothing i _ _ e

pub words_none : (ws : List ℕ) (i : ℕ) → length ws / 3 ≤ i → search_from i (gates_of (drop (3 * i) ws)) ≡ Search.nothing
unfolding search_from
words_none ws i h = ap (search_from i) (gates_end ws i h)

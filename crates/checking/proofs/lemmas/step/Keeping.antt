-- A step keeps the run on every state, validity on every n, and takes one gate or two away. Assumes nothing.
use Rattle.std.proofs.Common.{◌≡◌, ℕ, suc, ◌+◌, ◌-◌, ◌<◌, true, List, [], ◌∷◌, ◌++◌, length, get_or, take, drop, sym, refl, ap, ◌∙◌, ap₂, add-one, arith, length-drop, length-take-le, get_or-drop, get_or-take, drop-drop}
use lib.Seq.{split_at}
use Rattle.circuit.specs.declared.gate.Gate.{Gate}
use Rattle.circuit.specs.Gate.{max_lines, not_gate, valid, apply}
use Rattle.circuit.specs.Words.{all_valid, gate_in}
use Rattle.circuit.specs.Run.{run}
use Rattle.circuit.proofs.Promises.{valid_append, run_append, valid_parts, valid_split, run_next}
use Rattle.checking.specs.Match.{may_pass, Match, kind_of, remaining}
use Rattle.checking.specs.Step.{between, replaced}
use Rattle.checking.specs.StepLaws.{Meets, taken}
use Rattle.checking.proofs.lemmas.step.TwoGates.{match_run, match_valid}
use Rattle.checking.proofs.lemmas.step.Passing.{passing}

-- a gate goes past gates that it may pass
past : (g : Gate) (bs rest : List Gate) → valid max_lines g ≡ true → all_valid max_lines bs ≡ true → ((k : ℕ) → k < length bs → may_pass g (gate_in bs k) ≡ true)
    → (s : ℕ) → run (g ∷ (bs ++ rest)) s ≡ run (bs ++ (g ∷ rest)) s
past g [] rest v w p s = refl
past g (b ∷ bs) rest v w p s =
    let (vb, vs) = valid_parts max_lines b bs w in
    run_next g (b ∷ (bs ++ rest)) s
    ∙ run_next b (bs ++ rest) (apply g s)
    ∙ ap (run (bs ++ rest)) (passing g b v vb (p 0 (omega arith)) s)
    ∙ sym (run_next g (bs ++ rest) (apply b s))
    ∙ past g bs rest v vs (λ k h. p (suc k) (omega arith)) (apply b s)
    ∙ sym (run_next b (bs ++ (g ∷ rest)) s)

module _ (gs : List Gate) (i j : ℕ) (order : i < j) (inside : j < length gs) where
  abbrev g : Gate
  g = gate_in gs i

  abbrev h : Gate
  h = gate_in gs j

  -- the gates before i, gate i, those between, gate j, those after
  parts : gs ≡ take i gs ++ (g ∷ (between i j gs ++ (h ∷ drop (j + 1) gs)))
  parts =
      let n : ℕ = j - (i + 1) in
      let d : List Gate = drop (i + 1) gs in
      let e : i + 1 + n ≡ j = omega arith in
      let f : i + 1 + suc n ≡ j + 1 = omega arith in
      split_at gs i (not_gate 0) (omega arith)
      ∙ ap (λ (l : List Gate). take i gs ++ (g ∷ l))
      (ap (λ (k : ℕ). drop k gs) (sym (add-one i))
      ∙ split_at d n (not_gate 0) (omega (arith, length-drop (i + 1) gs))
      ∙ ap₂ (λ (x : Gate) (y : List Gate). take n d ++ (x ∷ y))
      (get_or-drop (i + 1) gs n (not_gate 0) ∙ ap (λ (k : ℕ). get_or gs k (not_gate 0)) e)
      (drop-drop (suc n) (i + 1) gs ∙ ap (λ (k : ℕ). drop k gs) f))

  between_gate : (k : ℕ) → k < length (between i j gs) → (i < i + 1 + k) × (i + 1 + k < j) × (gate_in (between i j gs) k ≡ gate_in gs (i + 1 + k))
  between_gate k l =
      let n = length-take-le (j - (i + 1)) (drop (i + 1) gs) (omega (arith, length-drop (i + 1) gs)) in
      (omega arith, omega arith, get_or-take (j - (i + 1)) (drop (i + 1) gs) k (not_gate 0) (omega arith) ∙ get_or-drop (i + 1) gs k (not_gate 0))

  record PartsValid (n : ℕ) : Type 0 where
    first : all_valid n (take i gs) ≡ true
    gate : valid n g ≡ true
    middle : all_valid n (between i j gs) ≡ true
    other : valid n h ≡ true
    last : all_valid n (drop (j + 1) gs) ≡ true

  parts_valid : (n : ℕ) → all_valid n gs ≡ true → PartsValid n
  parts_valid n v =
      let (a, b) = valid_split n (take i gs) (g ∷ (between i j gs ++ (h ∷ drop (j + 1) gs))) (sym (ap (all_valid n) parts) ∙ v) in
      let (c, d) = valid_parts n g (between i j gs ++ (h ∷ drop (j + 1) gs)) b in
      let (e, f) = valid_split n (between i j gs) (h ∷ drop (j + 1) gs) d in
      let (p, q) = valid_parts n h (drop (j + 1) gs) f in
      record { first = a; gate = c; middle = e; other = p; last = q }

  module _ (m : Match) (c : Meets gs i j m) where
    pub candidate_valid : (n : ℕ) → all_valid n gs ≡ true → all_valid n (replaced i j (remaining m) gs) ≡ true
    unfolding replaced
    candidate_valid n v =
        let p = parts_valid n v in
        valid_append n (take i gs) _ p.first
        (valid_append n (between i j gs) _ p.middle
        (valid_append n (remaining m) _ (match_valid n g h m c.matches p.gate p.other) p.last))

    pub candidate_run : all_valid max_lines gs ≡ true → (s : ℕ) → run (replaced i j (remaining m) gs) s ≡ run gs s
    unfolding replaced
    candidate_run v s =
        let p = parts_valid max_lines v in
        let front : List Gate = take i gs in
        let bs : List Gate = between i j gs in
        let cs : List Gate = drop (j + 1) gs in
        let x : ℕ = run front s in
        let y : ℕ = run bs x in
        let pass : (k : ℕ) → k < length bs → may_pass g (gate_in bs k) ≡ true =
        λ k l. let (u, w, e) = between_gate k l in ap (may_pass g) e ∙ c.passes (i + 1 + k) u w in
        run_append front (bs ++ (remaining m ++ cs)) s
        ∙ run_append bs (remaining m ++ cs) x
        ∙ run_append (remaining m) cs y
        ∙ ap (run cs) (match_run g h p.gate p.other y m c.matches)
        ∙ sym (ap (λ (l : List Gate). run l s) parts
        ∙ run_append front (g ∷ (bs ++ (h ∷ cs))) s
        ∙ past g bs (h ∷ cs) p.gate p.middle pass x
        ∙ run_append bs (g ∷ (h ∷ cs)) x
        ∙ run_next g (h ∷ cs) y
        ∙ run_next h cs (apply g y))

-- of two gates that match, so many go
pub match_taken : (m : Match) → length (remaining m) + taken (kind_of m) ≡ 2
match_taken Match.pair = refl
match_taken (Match.drop r) = refl
match_taken (Match.turn r) = refl

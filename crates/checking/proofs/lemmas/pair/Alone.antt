-- Steps and reductions on each of two cascades alone keep on which states the two differ. Assumes nothing.
use Rattle.std.proofs.Common.{◌≡◌, ℕ, ◌≤◌, ◌↔◌, List, sym, refl, ap, ◌∙◌, arith}
use Rattle.bits.specs.Digits.{bit}
use Rattle.circuit.specs.declared.gate.Gate.{Gate}
use Rattle.circuit.specs.declared.header.Header.{Header}
use Rattle.circuit.specs.Gate.{max_gates}
use Rattle.circuit.specs.Words.{gates_of, Headed}
use Rattle.circuit.specs.Run.{run, EqualFor, DiffersFor}
use Rattle.circuit.proofs.Promises.{gates_length, equal_differs_for}
use Rattle.checking.specs.declared.check.Call.{Call}
use Rattle.checking.specs.Clauses.{Clause}
use Rattle.checking.specs.Satisfaction.{spelled}
use Rattle.checking.specs.Equality.{after_all}
use Rattle.checking.specs.PairTold.{TellsFor}
use Rattle.checking.specs.StepsAlone.{StepsAlone}
use Rattle.checking.proofs.lemmas.Equality.{Standing, after_calls}

-- ---- cascades with the same runs

module _ (h : Header) (a b c d : List Gate) (first : (x : ℕ) → run a x ≡ run c x) (second : (x : ℕ) → run b x ≡ run d x) where
  pub differs_for_same : (x : ℕ) → DiffersFor h a b x → DiffersFor h c d x
  differs_for_same x e =
      record {
        permitted = e.permitted;
        line = e.line;
        counts = e.counts;
        outputs = λ q. e.outputs (ap (λ (y : ℕ). bit y e.line) (first x) ∙ q ∙ sym (ap (λ (y : ℕ). bit y e.line) (second x)));
      }

-- ---- clauses that tell where a and b differ tell where c and d do, if these differ on the same states

module _ (h : Header) (a b c d : List Gate) (same : (x : ℕ) → DiffersFor h a b x ↔ DiffersFor h c d x) where
  equal_for_same : EqualFor h a b ↔ EqualFor h c d
  equal_for_same =
      let e = equal_differs_for h a b in
      let f = equal_differs_for h c d in (
        (λ q. f.1 (λ x d. e.0 q x ((same x).1 d))),
        (λ q. e.1 (λ x d. f.0 q x ((same x).0 d))),
      )

  pub tells_for_same : (variables : ℕ) (cs : List Clause) → TellsFor h variables cs a b → TellsFor h variables cs c d
  tells_for_same variables cs t =
      record {
        equal = ((λ q. t.equal.0 (equal_for_same.1 q)), (λ unsat. equal_for_same.0 (t.equal.1 unsat)));
        differing = λ x e. t.differing x ((same x).1 e);
        no_other = λ σ sat. (same (spelled h.lines σ)).0 (t.no_other σ sat);
        within = t.within;
      }

-- ---- one cascade after a list of calls

module _ (h : Header) (ws : List ℕ) (k : ℕ) (good : Headed h ws max_gates k) (calls : List Call) where
  pub left : Standing h.lines (gates_of ws) (after_all calls ws)
  left =
      let c = good.cascade in
      let few = c.few in
      after_calls h.lines (gates_of ws) calls ws
      (record {
        count = k;
        cascade = record { lines_low = c.lines_low; lines_high = c.lines_high; size = c.size; few = omega arith; gates = c.gates };
        fewer = omega (arith, c.size, gates_length ws);
        same = λ s. refl;
      })

  -- it has no more gates, the same header and the same runs
  pub left_fewer : left.count ≤ k
  left_fewer = omega (arith, left.fewer, good.cascade.size, gates_length ws)

  pub left_good : Headed h (after_all calls ws) max_gates left.count
  left_good =
      let c = left.cascade in
      record {
        marks = good.marks;
        cascade = record { lines_low = c.lines_low; lines_high = c.lines_high; size = c.size; few = omega (arith, left_fewer, good.cascade.few); gates = c.gates };
      }

-- ---- two cascades

pub steps_alone : (h : Header) (a b : List ℕ) (i j : ℕ) → Headed h a max_gates i → Headed h b max_gates j → (on_a on_b : List Call) → StepsAlone h a b i j on_a on_b
steps_alone h a b i j c d on_a on_b =
    let p = left h a i c on_a in
    let q = left h b j d on_b in
    let same : (x : ℕ) → DiffersFor h (gates_of (after_all on_a a)) (gates_of (after_all on_b b)) x ↔ DiffersFor h (gates_of a) (gates_of b) x =
    λ x. (differs_for_same h _ _ _ _ p.same q.same x, differs_for_same h _ _ _ _ (λ s. sym (p.same s)) (λ s. sym (q.same s)) x) in
    record {
      first = p.count;
      first_good = left_good h a i c on_a;
      first_fewer = left_fewer h a i c on_a;
      second = q.count;
      second_good = left_good h b j d on_b;
      second_fewer = left_fewer h b j d on_b;
      equal = equal_for_same h _ _ _ _ same;
      differing = same;
      tells = tells_for_same h _ _ _ _ same;
    }

-- Demand 3 of what the code answers and leaves. Assumes nothing.
use Rattle.std.proofs.Common.{◌≡◌, ℕ, ◌+◌, ◌*◌, ◌≤◌, List, length, take, ℤ, sym, refl, ap, ◌∙◌, subst, ap₂, subst₂, arith, length-take}
use Rattle.circuit.specs.Gate.{max_gates, max_miter_gates}
use Rattle.circuit.specs.Outcome.{Outcome, served, refused, written, Yields}
use Rattle.circuit.specs.Words.{gates_of, words_of, Cascade}
use Rattle.circuit.proofs.Promises.{then_served, then_refused, then_both}
use Rattle.checking.specs.declared.clauses.Totals.{Totals}
use Rattle.checking.specs.Miter.{miter_gates, miter_outcome, miter_buffer}
use Rattle.checking.specs.Clauses.{clauses_of}
use Rattle.checking.specs.Stored.{stored}
use Rattle.checking.specs.Told.{Told, ServedTells}
use Rattle.checking.specs.Emit.{emit_outcome, emit_buffer}
use Rattle.checking.specs.Equality.{after_all, miter_leaves, left_after, Emitted, Claim}
use Rattle.checking.specs.declared.check.Call.{Call}
use Rattle.checking.specs.Check.{called_all, held_words, held, checked_outcome, work_left, clauses_left, Checks}
use Rattle.checking.proofs.lemmas.miter.Laws.{miter_laws}
use Rattle.checking.proofs.lemmas.clauses.Answers.{emit_laws}
use Rattle.checking.proofs.lemmas.Listed.{served_same}
use Rattle.checking.proofs.lemmas.Equality.{equality}
use Rattle.checking.proofs.lemmas.check.Laws.{calls_leave}

module _ (na : ℕ) (a b : List ℕ) (calls : List Call) (room : List ℕ) (k : ℕ) (made : miter_outcome na a na b (length room) ≡ served k) where
  -- what is held is what stands after the calls
  held_stands : held_words (held na a na b calls room k) ≡ left_after na a b room calls
  held_stands =
      let m = miter_laws.miter_stands na a na b room k made in
      (calls_leave calls (record { gates = k; words = miter_buffer na a na b room })
      (omega (arith, m.cascade.size, length-take (3 * k) (miter_buffer na a na b room)))).stands
      ∙ sym (ap (λ (o : Outcome ℕ). after_all calls (miter_leaves o (miter_buffer na a na b room))) made)

  module _ (out : List ℤ) where
    answered : checked_outcome na a na b calls room (length out) ≡ emit_outcome na (left_after na a b room calls) (length out)
    unfolding checked_outcome
    answered = then_served _ _ k made ∙ ap (λ (l : List ℕ). emit_outcome na l (length out)) held_stands

    left : clauses_left (miter_outcome na a na b (length room)) na a na b calls room out ≡ emit_buffer na (left_after na a b room calls) out
    left = ap (λ (o : Outcome ℕ). clauses_left o na a na b calls room out) made ∙ ap (λ (l : List ℕ). emit_buffer na l out) held_stands

module _ (na : ℕ) (a b : List ℕ) (calls : List Call) (room : List ℕ) (out : List ℤ) (told : Outcome Totals) (last : List ℤ) where
  -- on as many lines
  same_lines : told ≡ checked_outcome na a na b calls room (length out) → last ≡ clauses_left (miter_outcome na a na b (length room)) na a na b calls room out
      → (i j : ℕ) → Cascade na a max_gates i → Cascade na b max_gates j → length a + length b ≤ length room
      → Claim na a b room calls out told last
  same_lines e f i j c d fits =
      let q = equality na a b i j c d room fits calls out in
      record {
        gates = q.gates;
        miter_served = q.miter_served;
        emission =
            λ h.
            subst₂ (Emitted na a b) (sym (e ∙ answered na a b calls room q.gates q.miter_served out)) (sym (f ∙ left na a b calls room q.gates q.miter_served out)) (q.emission h);
      }

  pub check_claim : (nb : ℕ) → told ≡ checked_outcome na a nb b calls room (length out) → last ≡ clauses_left (miter_outcome na a nb b (length room)) na a nb b calls room out
      → (i j : ℕ) → Cascade na a max_gates i → Cascade nb b max_gates j → na ≡ nb → length a + length b ≤ length room
      → Claim na a b room calls out told last
  check_claim nb e f i j c d l fits =
      same_lines (subst (λ (n : ℕ). told ≡ checked_outcome na a n b calls room (length out)) (sym l) e)
      (subst (λ (n : ℕ). last ≡ clauses_left (miter_outcome na a n b (length room)) na a n b calls room out) (sym l) f)
      i j c (subst (λ (n : ℕ). Cascade n b max_gates j) (sym l) d) fits

  -- ---- where it is served

  -- the room that the emission had
  emitted_room : (k : ℕ) → miter_outcome na a na b (length room) ≡ served k → (t : Totals) → checked_outcome na a na b calls room (length out) ≡ served t
      → length (stored (clauses_of na (gates_of (left_after na a b room calls)))) ≤ length out
  emitted_room k made t e =
      let (c, h) = (emit_laws.emit_served na (left_after na a b room calls) (length out) t).0 (sym (answered na a b calls room k made out) ∙ e) in
      omega (arith, ap (λ (x : Totals). x.words) c.sizes)

  told_same : told ≡ checked_outcome na a na b calls room (length out) → last ≡ clauses_left (miter_outcome na a na b (length room)) na a na b calls room out
      → ServedTells na a na b told last
  unfolding checked_outcome
  told_same e f t s =
      let (k, made, emits) = then_both (miter_outcome na a na b (length room)) _ t (sym e ∙ s) in
      let m = (miter_laws.miter_served na a na b (length room) k).0 made in
      let q = (same_lines e f m.first m.second m.first_good m.second_good m.fits).emission (emitted_room k made t (sym e ∙ s)) in
      let same : q.totals ≡ t = served_same q.totals t (sym q.is_served ∙ s) in
      record {
        first = m.first;
        first_good = m.first_good;
        second = m.second;
        second_good = m.second_good;
        lines = refl;
        told = subst (λ (x : Totals). Told na a b x last) same q.told;
      }

  pub check_tells : (nb : ℕ) → told ≡ checked_outcome na a nb b calls room (length out) → last ≡ clauses_left (miter_outcome na a nb b (length room)) na a nb b calls room out
      → ServedTells na a nb b told last
  unfolding checked_outcome
  check_tells nb e f t s =
      let (k, made, emits) = then_both (miter_outcome na a nb b (length room)) _ t (sym e ∙ s) in
      let l : na ≡ nb = ((miter_laws.miter_served na a nb b (length room) k).0 made).lines in
      subst (λ (n : ℕ). told ≡ checked_outcome na a n b calls room (length out) → last ≡ clauses_left (miter_outcome na a n b (length room)) na a n b calls room out → ServedTells na a n b told last)
      l told_same e f t s

-- ---- what the function owes, where the miter is refused and where it is served

module _ (na : ℕ) (a : List ℕ) (nb : ℕ) (b : List ℕ) (calls : List Call) (room : List ℕ) where
  -- the calls made on the buffer that the miter leaves
  pub held_made : (k r : ℕ) (before words : List ℕ) → before ≡ miter_buffer na a nb b room
      → Yields r words (called_all calls (record { gates = k; words = before })).gates (called_all calls (record { gates = k; words = before })).words
      → Yields r words (held na a nb b calls room k).gates (held na a nb b calls room k).words
  held_made k r before words e y =
      subst (λ (ws : List ℕ). Yields r words (called_all calls (record { gates = k; words = ws })).gates (called_all calls (record { gates = k; words = ws })).words) e y

  module _ (k : ℕ) (made : miter_outcome na a nb b (length room) ≡ served k) where
    pub miter_room : 3 * k ≤ length (miter_buffer na a nb b room)
    miter_room = omega (arith, (miter_laws.miter_stands na a nb b room k made).cascade.size, length-take (3 * k) (miter_buffer na a nb b room))

    -- and no more gates than a miter has
    pub held_few : (r : ℕ) (words : List ℕ) → Yields r words (held na a nb b calls room k).gates (held na a nb b calls room k).words → r ≤ max_miter_gates
    held_few r words y =
        let l = calls_leave calls (record { gates = k; words = miter_buffer na a nb b room }) miter_room in
        omega (arith, y.answer, l.few, (miter_laws.miter_stands na a nb b room k made).cascade.few)

    -- the gates that stand after the calls are inside the buffer
    pub held_room : (r : ℕ) (words : List ℕ) → Yields r words (held na a nb b calls room k).gates (held na a nb b calls room k).words → 3 * r ≤ length words
    held_room r words y =
        let l = calls_leave calls (record { gates = k; words = miter_buffer na a nb b room }) miter_room in
        omega (arith, y.answer, ap length y.buffer, l.few, l.long, miter_room)

  module _ (out : List ℤ) (told : Outcome Totals) (words : List ℕ) (last : List ℤ) where
    owed : told ≡ checked_outcome na a nb b calls room (length out) → words ≡ work_left (miter_outcome na a nb b (length room)) na a nb b calls room
        → last ≡ clauses_left (miter_outcome na a nb b (length room)) na a nb b calls room out → Checks na a nb b calls room out told words last
    owed e f g = record { answer = e; words = f; clauses = g; tells = check_tells na a b calls room out told last nb e g; claim = check_claim na a b calls room out told last nb e g }

    pub check_refused : (number place : ℕ) → miter_outcome na a nb b (length room) ≡ refused number place → told ≡ refused number place
        → words ≡ miter_buffer na a nb b room → last ≡ out → Checks na a nb b calls room out told words last
    unfolding checked_outcome miter_buffer
    check_refused number place m e f g =
        owed (e ∙ sym (then_refused _ _ number place m))
        (f ∙ ap (λ (o : Outcome ℕ). written o (words_of (miter_gates (gates_of a) (gates_of b))) room) m ∙ sym (ap (λ (o : Outcome ℕ). work_left o na a nb b calls room) m))
        (g ∙ sym (ap (λ (o : Outcome ℕ). clauses_left o na a nb b calls room out) m))

    pub check_served : (k r : ℕ) → miter_outcome na a nb b (length room) ≡ served k
        → Yields r words (held na a nb b calls room k).gates (held na a nb b calls room k).words
        → Yields told last (emit_outcome na (take (3 * r) words) (length out)) (emit_buffer na (take (3 * r) words) out)
        → Checks na a nb b calls room out told words last
    unfolding checked_outcome
    check_served k r m y z =
        let s : take (3 * r) words ≡ held_words (held na a nb b calls room k) = ap₂ (λ (x : ℕ) (l : List ℕ). take (3 * x) l) y.answer y.buffer in
        owed (z.answer ∙ ap (λ (l : List ℕ). emit_outcome na l (length out)) s ∙ sym (then_served _ _ k m))
        (y.buffer ∙ sym (ap (λ (o : Outcome ℕ). work_left o na a nb b calls room) m))
        (z.buffer ∙ ap (λ (l : List ℕ). emit_buffer na l out) s ∙ sym (ap (λ (o : Outcome ℕ). clauses_left o na a nb b calls room out) m))

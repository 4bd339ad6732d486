-- The cases of a match by masks. Assumes nothing.
use Rattle.std.proofs.Common.{◌≡◌, true, eqb, ◌∙◌, eq-eqb, ne_eqb}
use lib.Bits.{bit_xor}
use lib.Count.{ones}
use Rattle.bits.proofs.Bools.{cond-true, cond-false}
use Rattle.circuit.specs.declared.gate.Gate.{Gate}
use Rattle.checking.specs.Match.{control_removed, control_inverted, differing, Match, matched, match_of}

module _ (g h : Gate) (same : g.target ≡ h.target) where
  pub match_equal : differing g h ≡ 0 → match_of g h ≡ matched Match.pair
  unfolding match_of
  match_equal d = cond-true _ _ _ (eq-eqb _ _ same) ∙ cond-true _ _ _ (eq-eqb _ _ d)

  module _ (some : differing g h ≡ 0 → ⊥) (one : eqb (ones (differing g h)) 1 ≡ true) where
    pub match_opposite : bit_xor g.positive h.positive ≡ bit_xor g.negative h.negative → match_of g h ≡ matched (Match.drop (control_removed g h))
    unfolding match_of
    match_opposite e = cond-true _ _ _ (eq-eqb _ _ same) ∙ cond-false _ _ _ (ne_eqb _ _ some) ∙ cond-true _ _ _ one ∙ cond-true _ _ _ (eq-eqb _ _ e)

    pub match_longer : (bit_xor g.positive h.positive ≡ bit_xor g.negative h.negative → ⊥) → match_of g h ≡ matched (Match.turn (control_inverted g h))
    unfolding match_of
    match_longer e = cond-true _ _ _ (eq-eqb _ _ same) ∙ cond-false _ _ _ (ne_eqb _ _ some) ∙ cond-true _ _ _ one ∙ cond-false _ _ _ (ne_eqb _ _ e)

-- What is proved of gates that may pass, in the words of document 02's T-01, and of matches and of a step, in document 01's words.
use Rattle.std.specs.Prelude.{◌≡◌, ℕ, ◌+◌, ◌*◌, ◌<◌, ◌≤◌, Bool, true, false, not, ◌↔◌, List, [], ◌∷◌, length, take, ◌≢◌, slice_index_or}
use Rattle.bits.specs.Digits.{bit}
use Rattle.circuit.specs.declared.gate.Gate.{Gate}
use Rattle.circuit.specs.Gate.{max_lines, max_miter_gates, valid, apply}
use Rattle.circuit.specs.Outcome.{served, refused, Untouched}
use Rattle.circuit.specs.Words.{gates_of, gate_in, all_valid, Cascade, WordsRefused}
use Rattle.circuit.specs.Run.{run, Equal}
use Rattle.checking.specs.Match.{targets_uncontrolled, may_pass, Kind, Match, matched, match_of, kind_of, remaining}
use Rattle.checking.specs.Step.{replaced, Step, found, none, step_gates, with_count, step_outcome, step_buffer}

-- line t is no control of g
pub record Uncontrolled (g : Gate) (t : ℕ) : Type 0 where
  pub not_positive : bit g.positive t ≡ false
  pub not_negative : bit g.negative t ≡ false

-- line k is a positive control of one and a negative control of the other
pub data Opposed (g h : Gate) (k : ℕ) : Type 0 where
  first_positive : bit g.positive k ≡ true → bit h.negative k ≡ true → Opposed g h k
  second_positive : bit g.negative k ≡ true → bit h.positive k ≡ true → Opposed g h k

-- neither's target is a control of the other, or there is such a line
pub data PassesByLines (g h : Gate) : Type 0 where
  both_uncontrolled : Uncontrolled h g.target → Uncontrolled g h.target → PassesByLines g h
  opposed : (k : ℕ) → Opposed g h k → PassesByLines g h

-- a rule by which two gates pass exactly when swapping them leaves the function unchanged on every state of the lines
abbrev pub PassingOf : (Gate → Gate → Bool) → Type 0
PassingOf rule =
    (n : ℕ) (g h : Gate) → n ≤ max_lines → valid n g ≡ true → valid n h ≡ true → (rule g h ≡ true) ↔ Equal n (g ∷ h ∷ []) (h ∷ g ∷ [])

-- g has all controls of `less` and exactly one more, on line k, positive or negative
pub record OneMore (g less : Gate) (k : ℕ) (positive : Bool) : Type 0 where
  pub target : g.target ≡ less.target
  pub on : bit g.positive k ≡ positive
  pub off : bit g.negative k ≡ not positive
  pub none_positive : bit less.positive k ≡ false
  pub none_negative : bit less.negative k ≡ false
  pub others_positive : (l : ℕ) → (l ≢ k) → bit g.positive l ≡ bit less.positive l
  pub others_negative : (l : ℕ) → (l ≢ k) → bit g.negative l ≡ bit less.negative l

-- two gates with the same target match, and what remains
pub data Matches (g h : Gate) : Match → Type 0 where
  -- equal controls
  pair : g.target ≡ h.target → g.positive ≡ h.positive → g.negative ≡ h.negative → Matches g h Match.pair
  -- the same control lines, exactly one of opposite polarity: r remains, without that control
  drop : (r : Gate) (k : ℕ) (positive : Bool) → OneMore g r k positive → OneMore h r k (not positive) → Matches g h (Match.drop r)
  -- the first, or the second, has exactly one control more: r remains, the longer with that control reversed
  turn_first : (r : Gate) (k : ℕ) (positive : Bool) → OneMore g h k positive → OneMore r h k (not positive) → Matches g h (Match.turn r)
  turn_second : (r : Gate) (k : ℕ) (positive : Bool) → OneMore h g k positive → OneMore r g k (not positive) → Matches g h (Match.turn r)

-- gates i and j match, and gate i may pass every gate strictly between
pub record Meets (gs : List Gate) (i j : ℕ) (m : Match) : Type 0 where
  pub order : i < j
  pub inside : j < length gs
  pub matches : Matches (gate_in gs i) (gate_in gs j) m
  pub passes : (k : ℕ) → i < k → k < j → may_pass (gate_in gs i) (gate_in gs k) ≡ true

-- what a step finds: the lowest i, then the lowest j; none where there are no such i and j
pub data Steps (gs : List Gate) : Step (List Gate) → Type 0 where
  finds : (i j : ℕ) (m : Match) → Meets gs i j m
      → ((a b : ℕ) (o : Match) → Meets gs a b o → i ≤ a)
      → ((b : ℕ) (o : Match) → Meets gs i b o → j ≤ b)
      → Steps gs (found i j (kind_of m) (replaced i j (remaining m) gs))
  idles : ((i j : ℕ) (m : Match) → Meets gs i j m → ⊥) → Steps gs none

-- the gates that a match takes away
abbrev pub taken : Kind → ℕ
taken Kind.pair = 2
taken Kind.drop = 1
taken Kind.turn = 1

-- gates hs do on every state what gs do, and are valid on n lines
pub record Keeps (n : ℕ) (gs hs : List Gate) : Type 0 where
  pub same : (s : ℕ) → run hs s ≡ run gs s
  pub good : all_valid n hs ≡ true

-- words at whose start gates hs stand, a cascade that the next call takes, with zeros after them
pub record Stands (n : ℕ) (ws last : List ℕ) (hs : List Gate) : Type 0 where
  pub gates : gates_of (take (3 * length hs) last) ≡ hs
  pub cascade : Cascade n (take (3 * length hs) last) max_miter_gates (length hs)
  pub long : length last ≡ length ws
  pub freed : (k : ℕ) → 3 * length hs ≤ k → k < length last → slice_index_or last k 1 ≡ 0

pub record StepLaws : Type 0 where
  -- that neither's target is a control of the other, by masks, is that by lines
  pub uncontrolled_lines : (g h : Gate) → (targets_uncontrolled g h ≡ true) ↔ ((Uncontrolled h g.target) × (Uncontrolled g h.target))
  -- may pass by masks is that by lines
  pub pass_lines : (g h : Gate) → (may_pass g h ≡ true) ↔ PassesByLines g h
  -- gates may pass exactly when swapping them leaves the function unchanged
  pub pass_exactly : PassingOf may_pass
  -- gates that may pass commute on every state
  pub pass_commute : (g h : Gate) → valid max_lines g ≡ true → valid max_lines h ≡ true → may_pass g h ≡ true → (s : ℕ) → apply h (apply g s) ≡ apply g (apply h s)
  -- the match by masks is that by lines, and at most one holds of two gates
  pub match_lines : (g h : Gate) (m : Match) → valid max_lines g ≡ true → valid max_lines h ≡ true → (match_of g h ≡ matched m) ↔ Matches g h m
  pub match_one : (g h : Gate) (m o : Match) → Matches g h m → Matches g h o → m ≡ o
  -- each match keeps the function of the two gates, and validity
  pub match_keeps : (n : ℕ) (g h : Gate) (m : Match) → n ≤ max_lines → valid n g ≡ true → valid n h ≡ true → Matches g h m → Keeps n (g ∷ h ∷ []) (remaining m)
  -- the step is exactly the relation
  pub step_steps : (gs : List Gate) → all_valid max_lines gs ≡ true → (r : Step (List Gate)) → (step_gates gs ≡ r) ↔ Steps gs r
  -- a step keeps the run and validity, and takes one gate or two away
  pub step_keeps : (n : ℕ) (gs : List Gate) → n ≤ max_lines → all_valid n gs ≡ true → (i j : ℕ) (k : Kind) (hs : List Gate) → Steps gs (found i j k hs) → Keeps n gs hs
  pub step_count : (gs : List Gate) (i j : ℕ) (k : Kind) (hs : List Gate) → Steps gs (found i j k hs) → length gs ≡ length hs + taken k
  -- the call: served with what the step on the gates finds exactly for a cascade, else refused by what is wrong
  pub call_served : (n : ℕ) (ws : List ℕ) (k : ℕ) → Cascade n ws max_miter_gates k → step_outcome n ws ≡ served (with_count (step_gates (gates_of ws)))
  pub call_refused : (n : ℕ) (ws : List ℕ) (number place : ℕ) → (step_outcome n ws ≡ refused number place) ↔ WordsRefused n ws max_miter_gates number place
  -- its words: the gates that then stand, and zeros; as they were where it answers none or is refused
  pub call_stands : (n : ℕ) (ws : List ℕ) (k : ℕ) → Cascade n ws max_miter_gates k → (i j : ℕ) (m : Kind) (hs : List Gate) → step_gates (gates_of ws) ≡ found i j m hs → Stands n ws (step_buffer n ws) hs
  pub call_none : (n : ℕ) (ws : List ℕ) → step_outcome n ws ≡ served none → step_buffer n ws ≡ ws
  pub call_untouched : (n : ℕ) (ws : List ℕ) → Untouched (step_outcome n ws) ws (step_buffer n ws)
  -- the number given as n does not matter where it serves
  pub call_lines : (n m : ℕ) (ws : List ℕ) (k l : ℕ) → Cascade n ws max_miter_gates k → Cascade m ws max_miter_gates l
      → (step_outcome n ws ≡ step_outcome m ws) × (step_buffer n ws ≡ step_buffer m ws)

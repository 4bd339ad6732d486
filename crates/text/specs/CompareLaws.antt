-- What is proved of the text that is written for two files, of any program of this kind.
use Rattle.std.specs.Prelude.{◌≡◌, Bool, List, [], ◌∷◌, ◌++◌, ℕ, ◌≤◌, ◌<◌, ℤ, neg_ℤ, length}
use Rattle.std.proofs.Math.Option.{some}
use Rattle.circuit.specs.declared.gate.Gate.{Gate}
use Rattle.circuit.specs.declared.header.Header.{Header}
use Rattle.circuit.specs.Outcome.{served}
use Rattle.circuit.specs.Header.{unmarked}
use Rattle.circuit.specs.Refusal.{no_room}
use Rattle.circuit.specs.Run.{run, EqualFor, DiffersFor}
use Rattle.circuit.specs.Text.{line_feed, text_of}
use Rattle.circuit.specs.File.{fields_of}
use Rattle.checking.specs.Compare.{max_sweep_lines}
use Rattle.checking.specs.FaultLaws.{without_constants, all_counted}
use Rattle.checking.specs.Clauses.{Clause, OR, XOR}
use Rattle.checking.specs.Satisfaction.{satisfies, ClausesWithin}
use Rattle.checking.specs.Stored.{stored}
use Rattle.text.specs.Answers.{WritesWhere}
use Rattle.text.specs.Dimacs.{decimal, Dimacs, dimacs_of, dimacs_read}
use Rattle.text.specs.Plain.{plain_clause, plain_clauses, AllOr}
use Rattle.text.specs.FileOutcome.{refusal_text}
use Rattle.text.specs.BytesTell.{TextTells}
use Rattle.text.specs.Formula.{formula_of}
use Rattle.text.specs.Compare.{max_list, max_compared, gates_left, left_formula, reduction_word, sweep_word, differ_word, equal_text, differ_text, compare_text, Rooms, RoomsFit, compare_outcome, compare_buffer}
use Rattle.text.specs.Rows.{FilesHold, files_rows}
use Rattle.text.specs.TwoFiles.{TwoFiles, FilesRefused}

-- THE CLAIM: what a text may be that is written for two files. Which kind of text is due is decided by the files alone.
pub data MayWrite (first second text : List ℕ) : Type 0 where
  -- a refusal: what is wrong with the files first
  refuses : (number file place : ℕ) → text ≡ refusal_text number file place → FilesRefused first second number file place → MayWrite first second text
  -- and of two good ones, 10 for more than 16 lines, gates that the reduction of the miter leaves, and a clause list for a solver of more than 300,000 words
  overflows : (h : Header) (a b : List Gate) → TwoFiles first second h a b → text ≡ refusal_text no_room 0 0 → (gates_left a b ≡ [] → ⊥) → max_sweep_lines < h.lines
      → max_list < length (stored (left_formula h a b).clauses) → MayWrite first second text
  -- equal cascades, of whose miter the full reduction leaves no gate
  reduces : (h : Header) (a b : List Gate) → TwoFiles first second h a b → text ≡ equal_text reduction_word → gates_left a b ≡ [] → EqualFor h a b → MayWrite first second text
  -- equal cascades of at most 16 lines
  sweeps : (h : Header) (a b : List Gate) → TwoFiles first second h a b → text ≡ equal_text sweep_word → (gates_left a b ≡ [] → ⊥) → h.lines ≤ max_sweep_lines → EqualFor h a b
      → MayWrite first second text
  -- a state on which the cascades differ, the lowest, and their outputs on it
  differs : (h : Header) (a b : List Gate) → TwoFiles first second h a b → (x : ℕ) → text ≡ differ_text x (run a x) (run b x) → (gates_left a b ≡ [] → ⊥) → h.lines ≤ max_sweep_lines
      → DiffersFor h a b x → ((y : ℕ) → y < x → DiffersFor h a b y → ⊥) → MayWrite first second text
  -- the clauses for a solver, each XOR in its place as ORs, which tell on which states the given cascades differ: no assignment satisfies them exactly where the cascades are equal, and each differing state is spelled by exactly one
  asks : (h : Header) (a b : List Gate) → TwoFiles first second h a b → text ≡ dimacs_of (left_formula h a b).variables (plain_clauses (left_formula h a b).clauses)
      → (tells : TextTells text h a b) → AllOr tells.read.clauses → (gates_left a b ≡ [] → ⊥)
      → max_sweep_lines < h.lines → length (stored (left_formula h a b).clauses) ≤ max_list → MayWrite first second text

-- a program that compares two files, by what it writes
abbrev pub Compares : (List ℕ → List ℕ → List ℕ) → Type 0
Compares program = (first second : List ℕ) → MayWrite first second (program first second)

pub record CompareLaws : Type 0 where
  -- an assignment satisfies the plain clauses exactly when it satisfies the list; their literals are those of its variables
  pub plain_satisfied : (σ : List Bool) (variables : ℕ) (cs : List Clause) → ClausesWithin variables cs → satisfies σ (plain_clauses cs) ≡ satisfies σ cs
  pub plain_within : (variables : ℕ) (cs : List Clause) → ClausesWithin variables cs → ClausesWithin variables (plain_clauses cs)
  pub plain_or : (cs : List Clause) → AllOr (plain_clauses cs)
  -- each clause in its place: an OR as it is, an XOR of two literals, and of three
  pub plain_each : (c : Clause) (cs : List Clause) → plain_clauses (c ∷ cs) ≡ plain_clause c ++ plain_clauses cs
  pub plain_same : (ls : List ℤ) → plain_clause (OR ls) ≡ OR ls ∷ []
  pub plain_two : (a b : ℤ) → plain_clause (XOR (a ∷ b ∷ [])) ≡ OR (a ∷ b ∷ []) ∷ OR (neg_ℤ a ∷ neg_ℤ b ∷ []) ∷ []
  pub plain_three : (a b c : ℤ) → plain_clause (XOR (a ∷ b ∷ c ∷ []))
      ≡ OR (a ∷ b ∷ c ∷ []) ∷ OR (a ∷ neg_ℤ b ∷ neg_ℤ c ∷ []) ∷ OR (neg_ℤ a ∷ b ∷ neg_ℤ c ∷ []) ∷ OR (neg_ℤ a ∷ neg_ℤ b ∷ c ∷ []) ∷ []
  -- the fields of a difference's text
  pub differ_fields : (x y z : ℕ) → fields_of (differ_text x y z) ≡ differ_word ∷ decimal x ∷ decimal y ∷ (decimal z ++ (line_feed ∷ [])) ∷ []
  -- our text has the claim, and every program with the claim writes it
  pub compares : Compares compare_text
  pub compares_only : (program : List ℕ → List ℕ → List ℕ) → Compares program → (first second : List ℕ) → program first second ≡ compare_text first second
  -- a program with the claim tells what is wrong with the files
  pub refused_told : (program : List ℕ → List ℕ → List ℕ) (first second : List ℕ) (number file place : ℕ) → FilesRefused first second number file place
      → Compares program → program first second ≡ refusal_text number file place
  -- it says `equal` of equal cascades alone
  pub equal_true : (program : List ℕ → List ℕ → List ℕ) (first second word : List ℕ) (h : Header) (a b : List Gate) → TwoFiles first second h a b
      → program first second ≡ equal_text word → Compares program → EqualFor h a b
  -- and `differ` with the lowest state on which they differ and what each gives on it
  pub differ_true : (program : List ℕ → List ℕ → List ℕ) (first second : List ℕ) (h : Header) (a b : List Gate) (x y z : ℕ) → TwoFiles first second h a b
      → program first second ≡ differ_text x y z → Compares program → DiffersFor h a b x × ((w : ℕ) → w < x → DiffersFor h a b w → ⊥) × (y ≡ run a x) × (z ≡ run b x)
  -- it is no program that calls the cascades of all good files equal, or that always asks a solver of these
  pub always_equal : (program : List ℕ → List ℕ → List ℕ) → ((first second : List ℕ) (h : Header) (a b : List Gate) → TwoFiles first second h a b → (word : List ℕ) × (program first second ≡ equal_text word))
      → Compares program → ⊥
  pub always_asks : (program : List ℕ → List ℕ → List ℕ) → ((first second : List ℕ) (h : Header) (a b : List Gate) → TwoFiles first second h a b → (d : Dimacs) × (dimacs_read (program first second) ≡ some d))
      → Compares program → ⊥
  -- nor one that takes no notice of the junk lines, or of the constants
  pub junk_counted : (program : List ℕ → List ℕ → List ℕ)
      → ((h : Header) (a b : List Gate) → program (text_of h a) (text_of h b) ≡ program (text_of (all_counted h) a) (text_of (all_counted h) b)) → Compares program → ⊥
  pub constants_ignored : (program : List ℕ → List ℕ → List ℕ)
      → ((h : Header) (a b : List Gate) → program (text_of h a) (text_of h b) ≡ program (text_of (without_constants h) a) (text_of (without_constants h) b)) → Compares program → ⊥
  -- without marks the clauses for a solver are those of the gates that the reduction of the miter leaves, as by document 01
  pub unmarked_left : (n : ℕ) (a b : List Gate) → left_formula (unmarked n) a b ≡ formula_of n (gates_left a b)
  -- the call writes the text exactly where the rooms and the buffer are long enough
  pub call : (first second : List ℕ) (lent : Rooms) (out : List ℕ) → WritesWhere (RoomsFit lent × (length (compare_text first second) ≤ length out))
      (compare_outcome first second lent (length out)) (compare_text first second) out (compare_buffer first second lent out)
  -- every text fits a buffer of 2,938,867 bytes
  pub text_fits : (first second : List ℕ) → length (compare_text first second) ≤ max_compared
  pub room_enough : (first second : List ℕ) (lent : Rooms) (room : ℕ) → RoomsFit lent → max_compared ≤ room
      → compare_outcome first second lent room ≡ served (length (compare_text first second))
  pub rows : FilesHold files_rows

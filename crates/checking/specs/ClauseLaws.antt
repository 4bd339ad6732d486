-- What is proved of the clause list.
use Rattle.std.specs.Prelude.{◌≡◌, ℕ, suc, ◌+◌, ◌*◌, ◌^◌, ◌<◌, ◌≤◌, Bool, true, ◌↔◌, List, [], ◌++◌, length, take, ℤ, ◌≢◌}
use Rattle.bits.specs.Digits.{bit}
use Rattle.circuit.specs.declared.gate.Gate.{Gate}
use Rattle.circuit.specs.Gate.{max_lines, max_miter_gates}
use Rattle.circuit.specs.Words.{all_valid}
use Rattle.circuit.specs.Run.{run}
use Rattle.checking.specs.Clauses.{Clause, input_of, gates_clauses, used_after, clauses_of, variables_of, max_variables, count_p}
use Rattle.checking.specs.Satisfaction.{variable, satisfies, spelled, Tells}
use Rattle.checking.specs.Forced.{traced, forced}
use Rattle.checking.specs.Stored.{stored, clauses_in, clauses_read, bad_record, BadAt, AllFit, word_limit}
use Rattle.checking.specs.Sizes.{totals, sizes_of}
use Rattle.checking.specs.ClauseRows.{RowsHold, clause_rows, WordsHold, words_rows}

pub record ClauseLaws : Type 0 where
  -- the first n variables spell the state whose bit k is 1 exactly when variable k + 1 is true
  pub spelled_line : (n : ℕ) (σ : List Bool) (k : ℕ) → k < n → bit (spelled n σ) k ≡ variable σ (suc k)
  pub spelled_below : (n : ℕ) (σ : List Bool) → spelled n σ < 2 ^ n
  -- an assignment satisfies the gates' clauses exactly when it is the one that its own inputs force
  pub gates_forced : (n : ℕ) (gs : List Gate) → n ≤ max_lines → all_valid n gs ≡ true → (σ : List Bool) → length σ ≡ used_after n gs
      → (satisfies σ (gates_clauses n input_of gs) ≡ true) ↔ (σ ≡ traced n (spelled n σ) gs)
  -- and the whole list exactly when besides the run changes the state that it spells
  pub list_forced : (n : ℕ) (gs : List Gate) → n ≤ max_lines → all_valid n gs ≡ true → (σ : List Bool) → length σ ≡ variables_of n gs
      → (satisfies σ (clauses_of n gs) ≡ true) ↔ ((σ ≡ forced n (spelled n σ) gs) × (run gs (spelled n σ) ≢ spelled n σ))
  -- so the list tells on which states a cascade is not the identity: on which it and the empty cascade differ
  pub list_tells : (n : ℕ) (gs : List Gate) → n ≤ max_lines → all_valid n gs ≡ true → Tells n (variables_of n gs) (clauses_of n gs) gs []
  -- stored words are read back by their own length, whatever follows them, and only the words of clauses are read
  pub read_back : (cs : List Clause) (rest : List ℤ) → clauses_in (take (length (stored cs)) (stored cs ++ rest)) ≡ clauses_read cs
  pub read_stored : (ws : List ℤ) (cs : List Clause) → clauses_in ws ≡ clauses_read cs → ws ≡ stored cs
  pub read_bad : (ws : List ℤ) (i : ℕ) → clauses_in ws ≡ bad_record i → BadAt ws i
  -- each variable is an input, a gate's w, a p or a d; there are two at most for each line and each gate; by the limits a word holds the number of each, and every number of a list fits a word
  pub variables_counted : (n : ℕ) (gs : List Gate) → variables_of n gs ≡ n + (length gs + count_p gs) + n
  pub variables_few : (n : ℕ) (gs : List Gate) → variables_of n gs ≤ 2 * n + 2 * length gs
  pub limits_fit : max_variables < word_limit
  pub words_fit : (n : ℕ) (gs : List Gate) → n ≤ max_lines → length gs ≤ max_miter_gates → all_valid n gs ≡ true → AllFit (stored (clauses_of n gs))
  -- the sums gate by gate are the variables, clauses and words of the list
  pub sizes_list : (n : ℕ) (gs : List Gate) → n ≤ max_lines → all_valid n gs ≡ true
      → sizes_of n gs ≡ totals (variables_of n gs) (length (clauses_of n gs)) (length (stored (clauses_of n gs)))
  -- the rows by full literals, and by words
  pub rows : RowsHold clause_rows
  pub rows_of_words : WordsHold words_rows

-- The laws of the clause list, put together. Assumes nothing.
use Rattle.checking.specs.ClauseLaws.{ClauseLaws}
use Rattle.checking.proofs.lemmas.clauses.Forced.{spelled_line, spelled_below, gates_forced, list_forced}
use Rattle.checking.proofs.lemmas.clauses.Meaning.{list_tells}
use Rattle.checking.proofs.lemmas.clauses.Reading.{read_back, read_stored, read_bad}
use Rattle.checking.proofs.lemmas.clauses.Fits.{variables_counted, variables_few, limits_fit, words_fit}
use Rattle.checking.proofs.lemmas.clauses.Sums.{sizes_list}
use Rattle.checking.proofs.lemmas.clauses.Rows.{rows_hold, words_hold}

pub clause_laws : ClauseLaws
clause_laws =
    record {
      spelled_line = spelled_line;
      spelled_below = spelled_below;
      gates_forced = gates_forced;
      list_forced = list_forced;
      list_tells = list_tells;
      read_back = read_back;
      read_stored = read_stored;
      read_bad = read_bad;
      variables_counted = variables_counted;
      variables_few = variables_few;
      limits_fit = limits_fit;
      words_fit = words_fit;
      sizes_list = sizes_list;
      rows = rows_hold;
      rows_of_words = words_hold;
    }

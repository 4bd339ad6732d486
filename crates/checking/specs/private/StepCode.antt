-- For the contracts of the private functions of a step: what a search finds, in the words of `Match` and `Step`.
use Rattle.std.specs.Prelude.{◌≡◌, ℕ, ◌/◌, ◌<◌, List, length}
use Rattle.std.specs.declared.option.Option.{Option}
use Rattle.std.specs.declared.option.Option.TheVariants.{None, Some}
use Rattle.circuit.specs.Words.{gates_of}
use Rattle.checking.specs.declared.step.Found.{Found}
use Rattle.checking.specs.Match.{of_match}
use Rattle.checking.specs.Step.{Scan, Search, scanned, search_from}

abbrev pub of_found : Found → Search
of_found f = Search.at f.i f.j (of_match f.by)

abbrev pub of_search : Option Found → Search
of_search (Some f) = of_found f
of_search None = Search.nothing

-- what a scan from gate i on finds, as what a search finds
abbrev pub from_gate : ℕ → Scan → Search
from_gate i s = scanned s i Search.nothing

-- the search finds these two gates, the first before the second, in the words
pub record FoundAt (ws : List ℕ) (f : Found) : Type 0 where
  pub rising : f.i < f.j
  pub inside : f.j < length ws / 3
  pub found : search_from 0 (gates_of ws) ≡ of_found f

-- For a caller that reads: what `Inside` says where it got bytes. Assumes nothing.
use Rattle.std.proofs.Common.{◌≡◌, subst, List, ℕ, Result, Ok}
use Rattle.std.specs.Counts.{IsPrefixLen}
use Rattle.streams.specs.Reading.{Inside}

pub counted : {E : Type 0} (answer : Result ℕ E) (n : ℕ) (buffer : List ℕ) → answer ≡ Ok n → Inside answer buffer → IsPrefixLen n buffer
counted {E} answer n buffer e i = subst (λ (r : Result ℕ E). Inside r buffer) e i

-- What was read stands inside the buffer.
use Rattle.std.specs.Prelude.{List, ℕ, IfOk}
use Rattle.std.specs.Counts.{IsPrefixLen}
use Rattle.std.specs.declared.result.Result.{Result}

abbrev pub Inside : {E : Type 0} → Result ℕ E → List ℕ → Type 0
Inside r buffer = IfOk r (λ n. IsPrefixLen n buffer)

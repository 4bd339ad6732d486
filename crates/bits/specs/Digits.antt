-- The binary digits of a number: digit k is line k of a state or of a mask.
use Rattle.std.specs.Prelude.{Bool, cond, List, [], ◌∷◌, ◌++◌, ℕ, zero, suc, ◌/◌, ◌%◌, ◌^◌, ◌==◌}

-- whether digit k of x is 1
unfoldable pub bit : ℕ → ℕ → Bool
bit x k = x / 2 ^ k % 2 == 1

-- the lines below n whose digit of x is 1, by rising line
unfoldable pub lines_in : ℕ → ℕ → List ℕ
lines_in x zero = []
lines_in x (suc n) = lines_in x n ++ cond (bit x n) (n ∷ []) []

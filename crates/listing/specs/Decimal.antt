-- Numbers in base ten, as bytes (specification, "Program": the numbers that the program prints). There are no leading zeros; 0 is `0`.
-- Assumes nothing.
use Rattle.std.specs.Prelude.{ℕ, zero, suc, ◌+◌, ◌/◌, ◌%◌, cond, List, [], ◌∷◌, ◌++◌, ltb}

-- the byte of a digit
abbrev pub digit : ℕ → ℕ
digit d = 48 + d

-- the digits of n, the most significant first, at most one more than the first number says
unfoldable pub digits : (k n : ℕ) → List ℕ
digits zero n = digit n ∷ []
digits (suc k) n = cond (ltb n 10) (digit n ∷ []) (digits k (n / 10) ++ (digit (n % 10) ∷ []))

-- the digits of n: n itself is always enough of a limit
unfoldable pub decimal : ℕ → List ℕ
decimal n = digits n n

-- Numbers as sets of bits: a letter, a valuation and a state are each such a number (specification, "Letters" and "Automaton").
-- Assumes nothing.
use Rattle.std.specs.Prelude.{ℕ, zero, suc, ◌+◌, ◌*◌, ◌/◌, ◌%◌, ◌^◌, Bool, false, List, eqb, length, get_or}
pub use Rattle.machine.specs.Automaton.{one}

-- bit k of x
unfoldable pub bit : ℕ → ℕ → Bool
bit x k = eqb (x / 2 ^ k % 2) 1

-- the number whose bit k is f k for each k below n, and whose other bits are 0
unfoldable pub of_bits : (ℕ → Bool) → ℕ → ℕ
of_bits f zero = 0
of_bits f (suc n) = one (f n) * 2 ^ n + of_bits f n

-- the number whose bits are those of a list, bit 0 first
unfoldable pub gather : List Bool → ℕ
unfolding of_bits
gather bs = of_bits (λ j. get_or bs j false) (length bs)

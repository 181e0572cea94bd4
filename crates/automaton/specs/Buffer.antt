-- What a call leaves in a buffer beyond what it settles there (specification, "Calls").
-- Assumes nothing.
use Rattle.std.specs.Prelude.{ℕ, ◌≤◌, ◌≡◌, List, length, get_or}

-- a buffer whose first `used` bytes are settled elsewhere: beyond them it is as it was
pub record Kept (used : ℕ) (old new : List ℕ) : Type 0 where
  pub size : length new ≡ length old
  pub beyond : (k : ℕ) → used ≤ k → get_or new k 0 ≡ get_or old k 0

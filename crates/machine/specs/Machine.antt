-- A machine that reads letters. Its states are of any type in which a test decides equality: numbers, pairs of them, and so on.
-- Assumes nothing.
use Rattle.std.specs.Prelude.{◌≡◌, Bool, true, ◌↔◌}
use Rattle.machine.specs.Letters.{Letter}

pub record Machine (S : Type 0) : Type 0 where
  -- whether two states are equal
  pub same : S → S → Bool
  pub equal : (x y : S) → (same x y ≡ true) ↔ (x ≡ y)
  -- where it starts, the state after a letter, and whether a state is accepting
  pub first : S
  pub after : S → Letter → S
  pub accepts : S → Bool

-- How C names a mode and writes a truth value.
-- Assumes nothing.
use Rattle.std.specs.Prelude.{ℕ, Bool, not, cond, eqb}
use Rattle.plays.specs.declared.mode.Mode.{Mode}
use Rattle.plays.specs.declared.mode.Mode.TheVariants.{Fair, Stable}

-- a mode is stable at 1, and fair at any other number
abbrev pub mode_at : ℕ → Mode
mode_at mode = cond (eqb mode 1) Stable Fair

-- a number is true unless it is 0
abbrev pub truth_of : ℕ → Bool
truth_of b = not (eqb b 0)

-- a truth value is written as 1 or 0
abbrev pub flag_of : Bool → ℕ
flag_of b = cond b 1 0

-- A mode and its truth value.
-- Assumes nothing.
use mathlib.Core.Path.{◌≡◌, refl}
use mathlib.Core.Bool.{Bool, true, false}
use Rattle.plays.specs.declared.mode.Mode.{Mode}
use Rattle.plays.specs.declared.mode.Mode.TheVariants.{Fair, Stable}
use Rattle.plays.specs.inner.Rank.{is_fair, mode_of}

pub same_mode : (mode : Mode) → mode_of (is_fair mode) ≡ mode
same_mode Fair = refl
same_mode Stable = refl

pub same_fair : (fair : Bool) → is_fair (mode_of fair) ≡ fair
same_fair true = refl
same_fair false = refl

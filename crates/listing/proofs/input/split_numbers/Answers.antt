-- `listing::input::split_numbers` meets its contract: what is no digit is none of a first line.
-- Assumes nothing.
use Prim.Native.Nat.{ℕ}
use mathlib.Core.List.{List}
use mathlib.Core.Path.{ap}
use lib.ListN.{get_or}
use Rattle.listing.proofs.input.split_numbers.Goals as goal

pub returns-in_err-digit : goal.returns-in_err-digit
returns-in_err-digit c =
    rw c.from_residual.ensures (λ i o rest h k e. c.in_err-digit.ensures i h (ap (λ (l : List ℕ). get_or l 0 0) e))

pub returns-in_err-digit-2 : goal.returns-in_err-digit-2
returns-in_err-digit-2 c =
    rw c.from_residual-in_err-digit-2.ensures (λ i o rest h k e. c.in_err-digit-2.ensures o k (ap (λ (l : List ℕ). get_or l 2 0) e))

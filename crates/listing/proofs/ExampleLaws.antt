-- Some numbers, and refusal 14, read off the definitions. The printed example is derived from its four lines in the crate
-- readings (proofs/PrintedExample.antt).
-- Assumes nothing.
use mathlib.Core.Path.{◌≡◌, refl}
use mathlib.Core.List.{[], ◌∷◌}
use Rattle.listing.specs.Decimal.{digits, decimal}
use Rattle.listing.specs.Listing.{refusal_line, malformed}

pub decimal_0 : decimal 0 ≡ 48 ∷ []
unfolding digits decimal
decimal_0 = refl

pub decimal_10 : decimal 10 ≡ 49 ∷ 48 ∷ []
unfolding digits decimal
decimal_10 = refl

pub decimal_128 : decimal 128 ≡ 49 ∷ 50 ∷ 56 ∷ []
unfolding digits decimal
decimal_128 = refl

-- `refused 14 0`
pub example_malformed : malformed ≡ 114 ∷ 101 ∷ 102 ∷ 117 ∷ 115 ∷ 101 ∷ 100 ∷ 32 ∷ 49 ∷ 52 ∷ 32 ∷ 48 ∷ 10 ∷ []
unfolding digits decimal refusal_line
example_malformed = refl

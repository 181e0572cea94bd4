-- The listing over the three buffers that it reads, and how long a row can be.
-- Assumes nothing.
use Rattle.std.specs.Prelude.{ℕ, ◌^◌, List, []}
use Rattle.reader.specs.Text.{Text}
use Rattle.plays.specs.Strategy.{Table}
use Rattle.game.specs.Answer.{Answer}
use Rattle.game.specs.Rule.{buffers}
use Rattle.listing.specs.Listing.{listing}

-- the listing of an answer, which has nothing of the transitions
abbrev pub listing_of : (i : ℕ) (accepting : List ℕ) (system environment : Table) (r : Answer) → Text
listing_of i accepting system environment r = listing i (buffers [] accepting system environment) r

-- the bytes of a row at most, for any digit of the first line: larger ones than the limit on inputs are refused later
abbrev pub row_limit : ℕ
row_limit = 2 ^ 9

-- `listing::render::Tables::put_state` meets its contract: the pieces of the line, one after the other.
-- Assumes nothing.
use Rattle.listing.specs.Listing.{state_line}
use Rattle.listing.proofs.WritingLaws.{joined}
use Rattle.listing.proofs.render.Tables.put_state.Goals as goal

pub returns : goal.returns
unfolding state_line
returns c = joined c.put_decimal.ensures (joined c.put_mark.ensures (joined c.put_winner.ensures c.put.ensures))

-- `listing::render::Tables::put_verdict` meets its contract: the pieces of the text, one after the other.
-- Assumes nothing.
use Rattle.listing.specs.Listing.{verdict_lines}
use Rattle.listing.proofs.WritingLaws.{joined}
use Rattle.listing.proofs.render.Tables.put_verdict.Goals as goal

pub returns : goal.returns
unfolding verdict_lines
returns c =
    joined c.put_word.ensures (joined c.put_decimal.ensures (joined c.put_field.ensures (joined c.put.ensures c.put_states.ensures)))

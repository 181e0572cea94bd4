-- `listing::render::put_refusal` meets its contract: the pieces of the line, one after the other.
-- Assumes nothing.
use Rattle.listing.specs.Listing.{refusal_line}
use Rattle.listing.proofs.WritingLaws.{joined}
use Rattle.listing.proofs.render.put_refusal.Goals as goal

pub returns : goal.returns
unfolding refusal_line
returns c = joined c.put_word.ensures (joined c.put_decimal.ensures (joined c.put_field.ensures c.put.ensures))

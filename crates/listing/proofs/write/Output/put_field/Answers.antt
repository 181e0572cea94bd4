-- `listing::write::Output::put_field` meets its contract: the blank, then the number.
-- Assumes nothing.
use Rattle.listing.proofs.WritingLaws.{joined}
use Rattle.listing.proofs.write.Output.put_field.Goals as goal

pub returns : goal.returns
returns c = joined c.put.ensures c.put_decimal.ensures

-- `reader::levels::skip` meets its contract: past the blanks that the rest of the text begins with there is none. Assumes nothing.
use Rattle.reader.proofs.TextLaws.{past_blanks}
use Rattle.reader.proofs.levels.skip.Goals as goal

pub returns : goal.returns
returns c = past_blanks _ _ _ c.requires c.leading_blanks.ensures

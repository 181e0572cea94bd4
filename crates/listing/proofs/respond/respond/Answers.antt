-- `listing::respond::respond` meets its contract: the input is taken as far as it is there, and the output has room for the whole text.
-- Assumes nothing.
use borrow.Author.Rules.{rules}
use Rattle.listing.proofs.ResponseLaws.{responded}
use Rattle.listing.proofs.respond.respond.Goals as goal

pub returns : goal.returns
returns c = responded c.args.input.now c.args.got _ c.args.output.now _ _ (search rules) (search rules) c.min.ensures c.list.ensures

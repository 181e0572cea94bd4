-- `listing::write::Output::put_word` meets its contract: each turn writes one byte more.
-- Assumes nothing.
use Rattle.std.proofs.lemmas.List.{take_more}
use Rattle.listing.proofs.WritingLaws.{joined, nothing_put}
use Rattle.listing.proofs.write.Output.put_word.Goals as goal

pub loop-b-init : goal.loop-b-init
loop-b-init c = nothing_put c.args.self.now

pub loop-b-preserved : goal.loop-b-preserved
loop-b-preserved c = rw (take_more c.args.word.now c.loop-b.b-index 0 c.loop-b-test.true) (joined c.loop-b.invariant c.put.ensures)

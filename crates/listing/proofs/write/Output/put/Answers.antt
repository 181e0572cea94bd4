-- `listing::write::Output::put` meets its contract: the byte is stored where there is room.
-- Assumes nothing.
use mathlib.Core.Path.{refl}
use Rattle.listing.proofs.WritingLaws.{writes_one, writes_none}
use Rattle.listing.proofs.write.Output.put.Goals as goal

pub returns-then-self : goal.returns-then-self
returns-then-self c =
    record { same_reference = refl; writes = writes_one c.args.self.now.bytes.now c.args.self.now.end c.args.b c.if-self.true }

pub returns-else-self : goal.returns-else-self
returns-else-self c =
    record { same_reference = refl; writes = writes_none c.args.self.now.bytes.now c.args.self.now.end c.args.b c.if-self.false }

-- `game::search::Targets::unserved` meets its contract: one more input is served.
-- Assumes nothing.
use Rattle.std.proofs.Common.{below_more}
use Rattle.game.proofs.search.Targets.unserved.Goals as goal

pub loop-x-preserved : goal.loop-x-preserved
loop-x-preserved c =
    below_more _ _ c.loop-x.invariant (c.in-Some.y, c.in-Some.ensures.0, c.in-Some.ensures.1)

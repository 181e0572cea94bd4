-- `game::follow::Position::moved_by` meets its contract: the transition's index is below the buffer's length, and so is the state to which it leads.
-- Assumes nothing.
use Rattle.plays.specs.Arena.{next}
use Rattle.game.specs.inner.Checks.{arena_at}
use Rattle.game.proofs.FollowLaws.{move_leads_in}
use Rattle.game.proofs.follow.Position.moved_by.Goals as goal

pub returns : goal.returns
unfolding next
returns c =
    move_leads_in (arena_at c.args.automaton.now 0) c.args.self c.args.x c.args.b c.from.result c.from-t.result c.from.ensures c.from-t.ensures c.if-automaton-t.false
    c.entered-next.result c.entered-next.ensures

-- `game::needs::Needs::opened` meets its contract: it is opened where every input is served.
-- Assumes nothing.
use Rattle.std.proofs.Common.{Bool, sym, subst}
use Rattle.game.specs.inner.Game.{arena_of}
use Rattle.game.specs.inner.Wide.{Opened}
use Rattle.game.proofs.ServingLaws.{swap_not}
use Rattle.game.proofs.WidenLaws.{opens_by}
use Rattle.game.proofs.needs.Needs.opened.Goals as goal

pub returns : goal.returns
returns c =
    subst (λ (b : Bool). Opened (arena_of c.args.g.now) c.args.self.now.limit c.args.self.now.ranks c.args.p c.args.s b) (sym (swap_not _ _ c.is_none.ensures))
    (opens_by (arena_of c.args.g.now) c.args.self.now.limit c.args.self.now.ranks c.args.p c.args.s _ c.unserved.ensures)

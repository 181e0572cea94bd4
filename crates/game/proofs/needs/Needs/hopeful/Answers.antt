-- `game::needs::Needs::hopeful` meets its contract: a state that the system does not win, or that has a need, is left, and the first unserved input decides on the
-- others.
-- Assumes nothing.
use Rattle.std.proofs.Common.{Bool, get_or, sym, subst}
use Rattle.game.specs.inner.Game.{arena_of}
use Rattle.game.specs.inner.Wide.{Hopeful}
use Rattle.reader.proofs.BoolLaws.{positive}
use Rattle.game.proofs.ServingLaws.{swap_not}
use Rattle.game.proofs.WidenLaws.{hopeful_by}
use Rattle.game.proofs.needs.Needs.hopeful.Goals as goal

pub returns : goal.returns
returns c =
    subst (λ (b : Bool). Hopeful (arena_of c.args.g.now) c.args.self.now.limit c.args.system.now c.args.self.now.ranks c.args.s b) (sym (swap_not _ _ c.is_none.ensures))
    (hopeful_by c.args.g.now.valid c.requires.bounds c.requires.of_system.unranked_beaten c.requires.of_system.small c.requires.s_lt_states _ c.unserved.ensures
    (positive (get_or c.args.system.now c.args.s 0) c.if-system-s-eq0.false) c.if-self-s-ne0.false)

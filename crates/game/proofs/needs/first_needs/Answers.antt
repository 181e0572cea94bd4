-- `game::needs::first_needs` meets its contract. The invariant: the states below s are marked.
-- Assumes nothing.
use Rattle.std.proofs.Common.{replicate, refl}
use Rattle.automaton.specs.Limits.{state_limit}
use Rattle.game.proofs.LimitLaws.{zeros}
use Rattle.game.proofs.NarrowLaws.{none_marked}
use Rattle.game.proofs.needs.first_needs.Goals as goal

pub loop-s-init : goal.loop-s-init
loop-s-init c =
    (none_marked c.args.system.now (replicate state_limit 0) (zeros state_limit), refl)

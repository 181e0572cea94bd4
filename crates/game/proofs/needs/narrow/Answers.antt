-- `game::needs::narrow` meets its contract. The invariant: with the limit low the start has no need, and with the limit high it has one. The measure is the
-- distance between the two.
-- Assumes nothing.
use Rattle.std.proofs.Common.{arith}
use Rattle.game.proofs.NarrowLaws.{bounds_less, search_starts, search_ends}
use Rattle.game.proofs.needs.narrow.Goals as goal

pub loop-low-init : goal.loop-low-init
loop-low-init c =
    search_starts c.requires.start_lt_states.0 c.args.g.now.valid.moving.states_fit c.requires.of_system.exact c.requires.of_system.small c.requires.of_system.unranked_beaten c.requires.start_lt_states.1 c.first_needs.ensures

pub settle-requires-clause-bounds : goal.settle-requires-clause-bounds
settle-requires-clause-bounds c =
    bounds_less (omega (arith, c.between.ensures.1)) c.loop-low.invariant.bounds

pub returns : goal.returns
returns c =
    search_ends c.loop-low.invariant (omega arith)

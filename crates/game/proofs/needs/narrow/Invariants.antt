-- `game::needs::narrow` meets its contract. The invariant: with the limit low the start has no need, and with the limit high it has one. The measure is the
-- distance between the two.
-- Assumes nothing.
use Rattle.std.proofs.Common.{◌-◌}
use Rattle.game.specs.inner.Game.{arena_of}
use Rattle.game.proofs.NarrowLaws.{Between}
use Rattle.game.proofs.needs.narrow.Given as goal

abbrev pub invariant-loop-low : goal.invariant-loop-low
invariant-loop-low l = Between (arena_of l.g) l.start l.system l.best.0 l.needs.0 l.low l.best.1.0

abbrev pub decreases-loop-low : goal.decreases-loop-low
decreases-loop-low l = l.best.1.0 - l.low

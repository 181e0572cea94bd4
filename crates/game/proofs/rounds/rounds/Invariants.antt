-- `game::rounds::rounds` meets its contract. The invariant: the outer ranks are those of the rounds before r, at least r - 1 states have one, and the inner
-- ranks are complete against them. The measure is the number of rounds that there can still be.
-- Assumes nothing.
use Rattle.std.proofs.Common.{◌+◌, ◌-◌, ◌≤◌}
use Rattle.plays.specs.inner.Rank.{is_fair}
use Rattle.game.specs.inner.Game.{arena_of}
use Rattle.game.specs.inner.Rounds.{Attraction}
use Rattle.game.proofs.CountLaws.{ranked_count}
use Rattle.game.proofs.OuterRankLaws.{OuterRanks}
use Rattle.game.proofs.rounds.rounds.Given as goal

abbrev pub invariant-loop-r : goal.invariant-loop-r
invariant-loop-r l = OuterRanks (is_fair l.g.mode) (arena_of l.g) l.ranks.outer l.r
    × Attraction (is_fair l.g.mode) (arena_of l.g) l.ranks.outer l.ranks.inner
    × (l.r ≤ ranked_count l.ranks.outer l.g.states + 1)

abbrev pub decreases-loop-r : goal.decreases-loop-r
decreases-loop-r l = l.g.states + 1 - l.r

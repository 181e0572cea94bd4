-- `game::rounds::RoundRanks::attract` meets its contract. The invariant: the ranks are those of the passes before p, a state that a pass left out stays
-- kept from the ranks below that pass, and at least p - 1 states have a rank. The measure is the number of passes that there can still be.
-- Assumes nothing.
use Rattle.std.proofs.Common.{◌≡◌, ◌+◌, ◌-◌, ◌≤◌}
use Rattle.plays.specs.inner.Rank.{is_fair}
use Rattle.game.specs.inner.Game.{arena_of}
use Rattle.game.specs.inner.Rounds.{InnerRanks, Stayed}
use Rattle.game.proofs.CountLaws.{ranked_count}
use Rattle.game.proofs.rounds.RoundRanks.attract.Given as goal

abbrev pub invariant-loop-p : goal.invariant-loop-p
invariant-loop-p l = InnerRanks (is_fair l.g.mode) (arena_of l.g) l.initial.self.outer l.self.inner l.p
    × Stayed (is_fair l.g.mode) (arena_of l.g) l.initial.self.outer l.self.inner l.p
    × (l.p ≤ ranked_count l.self.inner l.g.states + 1)
    × (l.self.outer ≡ l.initial.self.outer)

abbrev pub decreases-loop-p : goal.decreases-loop-p
decreases-loop-p l = l.g.states + 1 - l.p

-- `game::needs::Needs::widen` meets its contract. The invariant: the needs are those of the passes before p, which is at most n + 1 more than the number of states
-- with one. The measure is the number of passes that there can still be.
-- Assumes nothing.
use Rattle.std.proofs.Common.{◌≡◌, ◌+◌, ◌-◌, ◌≤◌}
use Rattle.game.specs.inner.Game.{arena_of}
use Rattle.game.specs.inner.Rounds.{Extends}
use Rattle.game.specs.inner.Wide.{Widening}
use Rattle.game.proofs.CountLaws.{ranked_count}
use Rattle.game.proofs.needs.Needs.widen.Given as goal

abbrev pub invariant-loop-due : goal.invariant-loop-due
invariant-loop-due l = Widening (arena_of l.g) l.self.limit l.system l.self.ranks l.due l.p
    × (l.p ≤ l.g.states + 1 + ranked_count l.self.ranks l.g.states) × Extends l.initial.self.ranks l.self.ranks × (l.self.limit ≡ l.initial.self.limit)

abbrev pub decreases-loop-due : goal.decreases-loop-due
decreases-loop-due l = l.g.states + l.g.states + 2 - l.p

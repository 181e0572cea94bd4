-- `game::needs::Needs::settle` meets its contract. The invariant: the system is beaten as the needs say, and no state has one anew. The measure is how much the needs
-- can still rise.
-- Assumes nothing.
use Rattle.std.proofs.Common.{◌≡◌, ◌+◌, ◌-◌, ◌*◌}
use Rattle.automaton.specs.Limits.{state_limit}
use Rattle.game.specs.inner.Game.{arena_of}
use Rattle.game.specs.inner.Needs.{Bounds, Shrinks}
use Rattle.game.proofs.HeightLaws.{height_sum}
use Rattle.game.proofs.needs.Needs.settle.Given as goal

abbrev pub invariant-loop-self : goal.invariant-loop-self
invariant-loop-self l = Bounds (arena_of l.g) l.self.limit l.self.ranks × Shrinks l.initial.self.ranks l.self.ranks × (l.self.limit ≡ l.initial.self.limit)

abbrev pub decreases-loop-self : goal.decreases-loop-self
decreases-loop-self l = l.g.states * (state_limit + 1) - height_sum l.self.ranks l.g.states

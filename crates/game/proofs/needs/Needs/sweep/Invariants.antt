-- `game::needs::Needs::sweep` meets its contract. The invariant: the sweep has been made over the states below s, with the same limit.
-- Assumes nothing.
use Rattle.std.proofs.Common.{◌≡◌}
use Rattle.game.specs.inner.Game.{arena_of}
use Rattle.game.specs.inner.Needs.{Swept}
use Rattle.game.proofs.needs.Needs.sweep.Given as goal

abbrev pub invariant-loop-s : goal.invariant-loop-s
invariant-loop-s l = Swept (arena_of l.g) l.self.limit l.initial.self.ranks l.self.ranks l.s l.lifted × (l.self.limit ≡ l.initial.self.limit)

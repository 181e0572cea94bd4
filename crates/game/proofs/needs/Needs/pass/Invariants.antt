-- `game::needs::Needs::pass` meets its contract. The invariant: the pass has been made over the states below s, with the same limit.
-- Assumes nothing.
use Rattle.std.proofs.Common.{◌≡◌}
use Rattle.game.specs.inner.Game.{arena_of}
use Rattle.game.specs.inner.Wide.{Widened}
use Rattle.game.proofs.needs.Needs.pass.Given as goal

abbrev pub invariant-loop-s : goal.invariant-loop-s
invariant-loop-s l =
    Widened (arena_of l.g) l.self.limit l.system l.initial.self.ranks l.self.ranks l.due l.p l.s l.going × (l.self.limit ≡ l.initial.self.limit)

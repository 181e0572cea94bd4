-- `game::needs::Needs::first_looks` meets its contract. The invariant: the passes are those of the states below s.
-- Assumes nothing.
use Rattle.std.proofs.Common.{◌≡◌, length}
use Rattle.automaton.specs.Limits.{state_limit}
use Rattle.game.specs.inner.Game.{arena_of}
use Rattle.game.specs.inner.Wide.{Looks}
use Rattle.game.proofs.needs.Needs.first_looks.Given as goal

abbrev pub invariant-loop-s : goal.invariant-loop-s
invariant-loop-s l = Looks (arena_of l.g) l.self.limit l.system l.self.ranks l.due l.s × (length l.due ≡ state_limit)

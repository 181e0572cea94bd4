-- `game::search::Targets::unserved` meets its contract. The invariant: each input passed has an output that serves it.
-- Assumes nothing.
use Rattle.std.proofs.Common.{ℕ, ◌<◌}
use Rattle.game.specs.inner.Game.{arena_of}
use Rattle.game.specs.inner.Serving.{IsServed}
use Rattle.game.specs.inner.Targets.{won_by, safe_by}
use Rattle.game.proofs.search.Targets.unserved.Given as goal

abbrev pub invariant-loop-x : goal.invariant-loop-x
invariant-loop-x l = (k : ℕ) → k < l.x → IsServed (arena_of l.g) (won_by l.targets) (safe_by l.targets) l.s k

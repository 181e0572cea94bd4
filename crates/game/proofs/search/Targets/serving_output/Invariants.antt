-- `game::search::Targets::serving_output` meets its contract. The invariant: no output tried serves the input. Nothing is known of the output to begin with.
-- Assumes nothing.
use Rattle.game.specs.inner.Game.{arena_of}
use Rattle.game.specs.inner.Serving.{serving}
use Rattle.game.specs.inner.Targets.{won_by, safe_by}
use Rattle.game.proofs.SearchLaws.{Tried}
use Rattle.game.proofs.search.Targets.serving_output.Given as goal

abbrev pub invariant-loop-tried : goal.invariant-loop-tried
invariant-loop-tried l = Tried (serving (arena_of l.g) (won_by l.self) (safe_by l.self) l.s l.x) l.g.outputs l.tried l.y

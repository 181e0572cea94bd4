-- The game in code as an arena.
-- Assumes nothing.
use Rattle.plays.specs.Arena.{Arena}
use Rattle.game.specs.declared.arena.Game.{Game}
use Rattle.game.specs.inner.Valid.{arena_from}

-- the arena of a game
abbrev pub arena_of : Game → Arena
arena_of g = arena_from g.states g.inputs g.outputs g.transitions.now g.accepting.now g.mask

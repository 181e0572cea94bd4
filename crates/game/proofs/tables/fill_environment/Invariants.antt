-- `game::tables::fill_environment` meets its contract. Invariant: the bytes below s are the environment's, and those from s on are as they were.
-- Assumes nothing.
use Rattle.std.proofs.Common.{◌≡◌, ℕ, ◌<◌, ◌≤◌, get_or}
use Rattle.plays.specs.inner.Rank.{is_fair}
use Rattle.game.specs.inner.Game.{arena_of}
use Rattle.game.specs.inner.Bytes.{EnvironmentByte}
use Rattle.game.proofs.tables.fill_environment.Given as goal

abbrev pub invariant-loop-s : goal.invariant-loop-s
invariant-loop-s l = let g = l.ranks.game.now in
    ((k : ℕ) → k < l.s → EnvironmentByte (is_fair g.mode) (arena_of g) l.ranks.ranks.now k (get_or l.environment k 0))
    × ((k : ℕ) → l.s ≤ k → get_or l.environment k 0 ≡ get_or l.initial.environment k 0)

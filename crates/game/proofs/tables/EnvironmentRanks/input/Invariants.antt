-- `game::tables::EnvironmentRanks::input` meets its contract. Invariant: the ranks allow no input below x.
-- Assumes nothing.
use Rattle.std.proofs.Common.{ℕ, ◌<◌}
use Rattle.game.specs.inner.Game.{arena_of}
use Rattle.plays.specs.inner.Rank.{is_fair, AllowedInput}
use Rattle.game.proofs.tables.EnvironmentRanks.input.Given as goal

abbrev pub invariant-loop-x : goal.invariant-loop-x
invariant-loop-x l = (k : ℕ) → k < l.x → AllowedInput (is_fair l.g.mode) (arena_of l.g) l.ranks l.s k → ⊥

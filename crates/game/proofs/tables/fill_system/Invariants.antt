-- `game::tables::fill_system` meets its contract. Invariant: the bytes below k are the system's, and those from k on are as they were.
-- Assumes nothing.
use Rattle.std.proofs.Common.{◌≡◌, ℕ, ◌/◌, ◌%◌, ◌<◌, ◌≤◌, get_or}
use Rattle.plays.specs.inner.Rank.{is_fair}
use Rattle.game.specs.inner.Game.{arena_of}
use Rattle.game.specs.inner.Bytes.{MixedByte}
use Rattle.game.proofs.tables.fill_system.Given as goal

abbrev pub invariant-loop-k : goal.invariant-loop-k
invariant-loop-k l = let g = l.near.game.now in
    ((j : ℕ) → j < l.k
    → MixedByte (is_fair g.mode) (arena_of g) l.near.cap l.near.ranks.now l.far.ranks.now (j / g.inputs) (j % g.inputs) (get_or l.system j 0))
    × ((j : ℕ) → l.k ≤ j → get_or l.system j 0 ≡ get_or l.initial.system j 0)

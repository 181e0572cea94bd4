-- `game::tables::first_output` meets its contract. Invariant: the search stops at no output below y.
-- Assumes nothing.
use Rattle.std.proofs.Common.{◌≡◌, ℕ, ◌<◌, Bool, false}
use Rattle.game.specs.inner.Game.{arena_of}
use Rattle.game.specs.inner.Bytes.{stops_at}
use Rattle.game.proofs.tables.first_output.Given as goal

abbrev pub invariant-loop-y : goal.invariant-loop-y
invariant-loop-y g l = (p : ℕ → Bool) → ((t : ℕ) (b : Bool) → t < l.g.states → goal.F-post g l.stops t b → b ≡ p t)
    → (k : ℕ) → k < l.y → stops_at (arena_of l.g) p l.s l.x k ≡ false

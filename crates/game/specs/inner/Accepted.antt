-- What the tests of a given automaton come to.
-- Assumes nothing.
use Rattle.std.specs.Prelude.{◌≡◌, ℕ, Some, None, Result, Ok, Err}
use Rattle.reader.specs.declared.refusal.Refusal.{Refusal}
use Rattle.plays.specs.declared.mode.Mode.{Mode}
use Rattle.plays.specs.Arena.{Arena}
use Rattle.plays.specs.Strategy.{Table}
use Rattle.game.specs.declared.arena.Game.{Game}
use Rattle.game.specs.inner.Game.{arena_of}
use Rattle.game.specs.Given.{given_refusal}

-- nothing is refused, and the game is that of the mode and the arena; or the refusal comes first
abbrev pub AcceptedBy : (mode : Mode) (i o start : ℕ) (G : Arena) (σ τ : Table) → Result Game Refusal → Type 0
AcceptedBy mode i o start G σ τ (Ok g) = (given_refusal i o start G σ τ ≡ None) × (g.mode ≡ mode) × (arena_of g ≡ G)
AcceptedBy mode i o start G σ τ (Err x) = given_refusal i o start G σ τ ≡ Some x

-- What a state that a player wins says of the player's bytes there.
-- Assumes nothing.
use Prim.Native.Nat.{ℕ, ◌<◌}
use mathlib.Core.Path.{◌≡◌, refl, ap, ◌∙◌}
use mathlib.Core.Bool.{true, false}
use mathlib.Core.List.{List, [], ◌∷◌}
use Rattle.plays.specs.declared.mode.Mode.{Mode}
use Rattle.reader.proofs.BoolLaws.{clash, or_left}
use Rattle.plays.specs.Arena.{Arena, next, goal}
use Rattle.plays.specs.Play.{Along, reaches}
use Rattle.plays.specs.Strategy.{environment_byte}
use Rattle.game.specs.Tables.{EnvironmentState}

module _ {mode : Mode} {G : Arena} {σ τ : List ℕ} {s : ℕ} (won : EnvironmentState mode G σ τ s) where
  -- no output leads to a goal from a state that the environment wins
  byte_avoids : (y : ℕ) → y < G.outputs → goal G (next G s (environment_byte τ s) y) ≡ false
  unfolding Along reaches
  byte_avoids y h =
      or_left (goal G (next G s (environment_byte τ s) y)) false
      (won.wins.avoiding (record { input = environment_byte τ s; output = y } ∷ []) (((won.byte, h), refl), tt))

  -- so an input that some output turns into a goal is not its byte
  pub other_byte : (x y : ℕ) → y < G.outputs → goal G (next G s x y) ≡ true → environment_byte τ s ≡ x → ⊥
  other_byte x y h g e = clash (goal G (next G s (environment_byte τ s) y)) (ap (λ (z : ℕ). goal G (next G s z y)) e ∙ g) (byte_avoids y h)

-- The line of a state (listing, specs/Listing.antt) with one input, whose bytes are known.
-- Assumes nothing.
use Prim.Native.Nat.{ℕ, suc, ◌*◌}
use mathlib.Core.Path.{◌≡◌, refl}
use mathlib.Core.List.{List, [], ◌∷◌, ◌++◌}
use lib.ListN.{get_or}
use Rattle.listing.specs.Decimal.{digits, decimal}
use Rattle.listing.specs.Listing.{fields, winner_fields, state_line}

-- no goal, and the environment wins with input 0
pub environment_line :
    (a σ τ : List ℕ) (s : ℕ) → get_or a s 0 ≡ 0 → get_or τ s 0 ≡ 0 → state_line 2 a σ τ s ≡ decimal s ++ (32 ∷ 45 ∷ 32 ∷ 79 ∷ 32 ∷ 48 ∷ 10 ∷ [])
unfolding digits decimal fields winner_fields state_line
environment_line a σ τ s e f = rw (e, f) refl

-- a goal, and the system wins with output 0 at both inputs
pub system_line : (a σ τ : List ℕ) (s : ℕ) → get_or a s 0 ≡ 1 → get_or τ s 0 ≡ 255 → get_or σ (s * 2) 0 ≡ 0 → get_or σ (suc (s * 2)) 0 ≡ 0
    → state_line 2 a σ τ s ≡ decimal s ++ (32 ∷ 42 ∷ 32 ∷ 83 ∷ 32 ∷ 48 ∷ 32 ∷ 48 ∷ 10 ∷ [])
unfolding digits decimal fields winner_fields state_line
system_line a σ τ s e f g h = rw (e, f, g, h) refl

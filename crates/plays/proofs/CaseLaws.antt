-- Laws of cases on numbers, each of which is told to the case's answer.
-- Assumes nothing.
use mathlib.Core.Path.{◌≡◌}
use Prim.Native.Nat.{ℕ, ◌<◌, ◌≤◌}
use lib.Dec.{eqb, ltb}
use borrow.Author.Tests.{eqb-true, eqb-false, ltb-true, ltb-false}
use Rattle.reader.proofs.BoolLaws.{on, nonzero}

-- a number is 0 or above it
pub zero_or : {C : Type 0} (n : ℕ) → (n ≡ 0 → C) → (0 < n → C) → C
zero_or n f g = on (eqb n 0) (λ e. f (eqb-true n 0 e)) (λ e. g (nonzero n e))

-- two numbers are the same or not
pub same_or : {C : Type 0} (a b : ℕ) → (a ≡ b → C) → ((a ≡ b → ⊥) → C) → C
same_or a b f g = on (eqb a b) (λ e. f (eqb-true a b e)) (λ e. g (eqb-false a b e))

-- one number is below another or not
pub below_or : {C : Type 0} (a b : ℕ) → (a < b → C) → (b ≤ a → C) → C
below_or a b f g = on (ltb a b) (λ e. f (ltb-true a b e)) (λ e. g (ltb-false a b e))

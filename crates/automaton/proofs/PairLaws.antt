-- The next position's coordinate 0 is read by no operator (specs/Valuation.antt): from 2 * k and 2 * k + 1 a letter makes the same valuation.
-- Assumes nothing.
use Prim.Native.Nat.{ℕ, zero, suc, ◌+◌, ◌*◌, ◌/◌, ◌%◌, ◌^◌, ◌≤◌}
use mathlib.Core.Path.{◌≡◌, refl, sym, ap, ap₂, ◌∙◌}
use mathlib.Core.Bool.{Bool, not, ◌&&◌, ◌||◌}
use mathlib.Core.List.{List, ◌∷◌, ◌++◌}
use native.Mathlib.Nat.{div-div-eq-div-mul, pow-suc, mul_comm, le_refl, not-suc-le-zero}
use native.Mathlib.Omega.{arith}
use lib.Dec.{eqb}
use Rattle.reader.specs.Formula.{Formula, constant, name, unary, neg, next, weak, eventually, always, binary, until, release, conj, disj, impl, operators}
use Rattle.automaton.specs.Bits.{bit, gather}
use Rattle.automaton.specs.Valuation.{value, coords, present}

-- the bits of u and v from k on are equal
abbrev SameFrom : ℕ → ℕ → ℕ → Type 0
SameFrom u v k = (j : ℕ) → k ≤ j → bit u j ≡ bit v j

-- ---- what reads only coordinates from k on
module _ (a u v : ℕ) where
  value_from : (φ : Formula) (k : ℕ) → SameFrom u v k → value φ k a u ≡ value φ k a v
  unfolding value
  value_from (constant b) k h = refl
  value_from (name n) k h = refl
  value_from (unary neg φ) k h = ap not (value_from φ k h)
  value_from (unary next φ) k h = h k (le_refl k)
  value_from (unary weak φ) k h = h k (le_refl k)
  value_from (unary eventually φ) k h = ap₂ ◌||◌ (value_from φ (suc k) (λ j l. h j (omega arith))) (h k (le_refl k))
  value_from (unary always φ) k h = ap₂ ◌&&◌ (value_from φ (suc k) (λ j l. h j (omega arith))) (h k (le_refl k))
  value_from (binary until φ ψ) k h =
      ap₂ ◌||◌ (value_from ψ (suc (k + operators φ)) (λ j l. h j (omega arith))) (ap₂ ◌&&◌ (value_from φ k h) (h (k + operators φ) (omega arith)))
  value_from (binary release φ ψ) k h =
      ap₂ ◌&&◌ (value_from ψ (suc (k + operators φ)) (λ j l. h j (omega arith))) (ap₂ ◌||◌ (value_from φ k h) (h (k + operators φ) (omega arith)))
  value_from (binary conj φ ψ) k h = ap₂ ◌&&◌ (value_from φ k h) (value_from ψ (k + operators φ) (λ j l. h j (omega arith)))
  value_from (binary disj φ ψ) k h = ap₂ ◌||◌ (value_from φ k h) (value_from ψ (k + operators φ) (λ j l. h j (omega arith)))
  value_from (binary impl φ ψ) k h = ap₂ (λ (x y : Bool). not x || y) (value_from φ k h) (value_from ψ (k + operators φ) (λ j l. h j (omega arith)))

  coords_from : (φ : Formula) (k : ℕ) → SameFrom u v k → coords φ k a u ≡ coords φ k a v
  unfolding coords
  coords_from (constant b) k h = refl
  coords_from (name n) k h = refl
  coords_from (unary neg φ) k h = coords_from φ k h
  coords_from (unary next φ) k h =
      ap₂ (λ (x : Bool) (xs : List Bool). x ∷ xs) (value_from φ (suc k) (λ j l. h j (omega arith))) (coords_from φ (suc k) (λ j l. h j (omega arith)))
  coords_from (unary weak φ) k h =
      ap₂ (λ (x : Bool) (xs : List Bool). x ∷ xs) (value_from φ (suc k) (λ j l. h j (omega arith))) (coords_from φ (suc k) (λ j l. h j (omega arith)))
  coords_from (unary eventually φ) k h =
      ap₂ (λ (x : Bool) (xs : List Bool). x ∷ xs) (value_from (unary eventually φ) k h) (coords_from φ (suc k) (λ j l. h j (omega arith)))
  coords_from (unary always φ) k h =
      ap₂ (λ (x : Bool) (xs : List Bool). x ∷ xs) (value_from (unary always φ) k h) (coords_from φ (suc k) (λ j l. h j (omega arith)))
  coords_from (binary until φ ψ) k h =
      ap₂ (λ (xs ys : List Bool). xs ++ ys) (coords_from φ k h)
      (ap₂ (λ (x : Bool) (xs : List Bool). x ∷ xs) (value_from (binary until φ ψ) k h) (coords_from ψ (suc (k + operators φ)) (λ j l. h j (omega arith))))
  coords_from (binary release φ ψ) k h =
      ap₂ (λ (xs ys : List Bool). xs ++ ys) (coords_from φ k h)
      (ap₂ (λ (x : Bool) (xs : List Bool). x ∷ xs) (value_from (binary release φ ψ) k h) (coords_from ψ (suc (k + operators φ)) (λ j l. h j (omega arith))))
  coords_from (binary conj φ ψ) k h = ap₂ (λ (xs ys : List Bool). xs ++ ys) (coords_from φ k h) (coords_from ψ (k + operators φ) (λ j l. h j (omega arith)))
  coords_from (binary disj φ ψ) k h = ap₂ (λ (xs ys : List Bool). xs ++ ys) (coords_from φ k h) (coords_from ψ (k + operators φ) (λ j l. h j (omega arith)))
  coords_from (binary impl φ ψ) k h = ap₂ (λ (xs ys : List Bool). xs ++ ys) (coords_from φ k h) (coords_from ψ (k + operators φ) (λ j l. h j (omega arith)))

-- ---- the bits but the first
half : (x i : ℕ) → x / 2 ^ suc i ≡ x / 2 / 2 ^ i
half x i = ap (λ (m : ℕ). x / m) (pow-suc 2 i ∙ mul_comm (2 ^ i) 2) ∙ sym (div-div-eq-div-mul x 2 (2 ^ i))

even_bit : (v j : ℕ) → 1 ≤ j → bit (2 * (v / 2)) j ≡ bit v j
unfolding bit
even_bit v zero h = absurd (not-suc-le-zero h)
even_bit v (suc i) h =
    let e : 2 * (v / 2) / 2 ≡ v / 2 = omega arith in
    ap (λ (m : ℕ). eqb (m % 2) 1) (half (2 * (v / 2)) i ∙ ap (λ (m : ℕ). m / 2 ^ i) e ∙ sym (half v i))

pub present_even : (φ : Formula) (a v : ℕ) → present φ a (2 * (v / 2)) ≡ present φ a v
unfolding present
present_even φ a v =
    ap₂ (λ (x : Bool) (xs : List Bool). gather (x ∷ xs)) (value_from a (2 * (v / 2)) v φ 1 (even_bit v)) (coords_from a (2 * (v / 2)) v φ 1 (even_bit v))

-- The valuations whose coordinate j is 1, as a number: the formula that the code computes is that number, for any of any number of coordinates.
-- Assumes nothing.
use Prim.Native.Nat.{ℕ, zero, suc, ◌+◌, ◌-◌, ◌*◌, ◌/◌, ◌%◌, ◌^◌, ◌≤◌, ◌<◌}
use mathlib.Core.Path.{◌≡◌, sym, ap, ap₂, ◌∙◌, subst}
use mathlib.Core.Bool.{true, not}
use native.Mathlib.Nat.{pow-suc, add_comm, mul_comm, add-mul, mul-add, add-mul-div_right, le_refl, sub-add_cancel}
use native.Mathlib.Nat.{div-eq_of_eq-mul_left, mul-div-le, mul-le-mul_right, le_trans}
use native.Mathlib.Omega.{arith}
use lib.Dec.{eqb}
use lib.Pow.{pow_pos, pow-add, pow_mono}
use Rattle.reader.specs.Limits.{operator_limit}
use Rattle.automaton.specs.inner.Sizes.{coordinate_limit, word_bits}
use Rattle.automaton.specs.Bits.{bit, of_bits}
use Rattle.automaton.proofs.BitLaws.{of_bits_ext, of_bits_none, of_bits_append, of_bits_others, bit_high, above', one_shifted, bit_shifted}

-- ---- bits of sums
turn : (x : ℕ) → eqb ((x + 1) % 2) 1 ≡ not (eqb (x % 2) 1)
turn x = digit (x % 2) ((x + 1) % 2) (omega arith) (omega arith)
  where
    digit : (d e : ℕ) → d < 2 → e ≡ (d + 1) % 2 → eqb e 1 ≡ not (eqb d 1)
    digit zero e h k = ap (λ (x : ℕ). eqb x 1) k
    digit (suc zero) e h k = ap (λ (x : ℕ). eqb x 1) k
    digit (suc (suc d)) e h k = absurd (let z : ⊥ = omega arith in z)

-- 2 ^ j more turns bit j
bit_turns : (v j : ℕ) → bit (v + 2 ^ j) j ≡ not (bit v j)
unfolding bit
bit_turns v j =
    let e : v + 2 ^ j ≡ v + 1 * 2 ^ j = omega arith in
    ap (λ (m : ℕ). eqb (m / 2 ^ j % 2) 1) e
    ∙ ap (λ (m : ℕ). eqb (m % 2) 1) (add-mul-div_right v 1 (pow_pos j)) ∙ turn (v / 2 ^ j)

-- ---- coordinate j over m + 1 of its periods, each of 2 ^ j valuations without it and then 2 ^ j with it
module _ (j m : ℕ) where
  -- all but the last half of the last period
  abbrev front : ℕ
  front = m * 2 ^ suc j + 2 ^ j

  abbrev size : ℕ
  size = front + 2 ^ j

  -- those that do not have the coordinate; none stands behind the front
  abbrev without : ℕ
  without = of_bits (λ v. not (bit v j)) front

  last_half : (v : ℕ) → v < 2 ^ j → bit (front + v) j ≡ true
  unfolding bit
  last_half v h =
      let e : front + v ≡ m * 2 ^ suc j + v + 2 ^ j = omega arith in
      ap (λ (i : ℕ). bit i j) e ∙ bit_turns (m * 2 ^ suc j + v) j
      ∙ ap not (ap (λ (d : ℕ). eqb d 1) (above' m v (suc j) j (le_refl (suc j))) ∙ bit_high v j j h (le_refl j))

  all_without : of_bits (λ v. not (bit v j)) size ≡ without
  all_without =
      of_bits_append (λ v. not (bit v j)) front (2 ^ j)
      ∙ ap (λ (x : ℕ). x * 2 ^ front + without) (of_bits_none (λ v. not (bit (front + v) j)) (2 ^ j) (λ v h. ap not (last_half v h))) ∙ omega arith

  -- 2 ^ j further stand those that have it
  all_with : of_bits (λ v. bit v j) size ≡ without * 2 ^ (2 ^ j)
  all_with =
      ap (of_bits (λ v. bit v j)) (add_comm front (2 ^ j)) ∙ of_bits_append (λ v. bit v j) (2 ^ j) front
      ∙ ap₂ (λ (x y : ℕ). x * 2 ^ (2 ^ j) + y)
      (of_bits_ext (λ v. bit (2 ^ j + v) j) (λ v. not (bit v j)) front (λ v h. ap (λ (i : ℕ). bit i j) (add_comm (2 ^ j) v) ∙ bit_turns v j))
      (of_bits_none (λ v. bit v j) (2 ^ j) (λ v h. bit_high v j j h (le_refl j))) ∙ omega arith

  periods_formula : 2 ^ (2 ^ j) * ((2 ^ size - 1) / (2 ^ (2 ^ j) + 1)) ≡ of_bits (λ v. bit v j) size
  periods_formula =
      let p = 2 ^ (2 ^ j) in
      let e : 2 ^ size - 1 ≡ without * (p + 1) = omega (arith, of_bits_others (λ v. bit v j) size, all_with, all_without, mul-add without p 1) in
      let q : 0 < p + 1 = omega arith in
      ap (λ (x : ℕ). p * x) (div-eq_of_eq-mul_left q e) ∙ mul_comm p without ∙ sym all_with

pub coordinate_formula : (j k : ℕ) → j < k → 2 ^ (2 ^ j) * ((2 ^ (2 ^ k) - 1) / (2 ^ (2 ^ j) + 1)) ≡ of_bits (λ v. bit v j) (2 ^ k)
coordinate_formula j k h =
    let m = 2 ^ (k - suc j) in
    let w : 2 ^ k ≡ m * 2 ^ suc j = ap (λ (i : ℕ). 2 ^ i) (sym (sub-add_cancel h)) ∙ pow-add 2 (k - suc j) (suc j) in
    let one_less : m - 1 + 1 ≡ m = omega (arith, pow_pos (k - suc j)) in
    let e : size j (m - 1) ≡ 2 ^ k = omega (arith, w, pow-suc 2 j, ap (λ (x : ℕ). x * 2 ^ suc j) one_less, add-mul (m - 1) 1 (2 ^ suc j)) in
    subst (λ (n : ℕ). 2 ^ (2 ^ j) * ((2 ^ n - 1) / (2 ^ (2 ^ j) + 1)) ≡ of_bits (λ v. bit v j) n) e (periods_formula j (m - 1))

-- ---- what the code computes, for the coordinates of a word
-- `1 << j` and `1 << (1 << j)`
pub shifted_few : (j : ℕ) → j < coordinate_limit → 1 * 2 ^ j % 2 ^ 64 < word_bits
shifted_few j h = omega (arith, one_shifted j (omega arith), pow_mono {i = j} {j = operator_limit} (omega arith))

pub shifted_twice : (j : ℕ) → j < coordinate_limit → 1 * 2 ^ (1 * 2 ^ j % 2 ^ 64) % 2 ^ 64 ≡ 2 ^ (2 ^ j)
shifted_twice j h = bit_shifted (1 * 2 ^ j % 2 ^ 64) (shifted_few j h) ∙ ap (λ (i : ℕ). 2 ^ i) (one_shifted j (omega arith))

-- p times a d-th of a number is no more than the number
pub part_le : (p d n : ℕ) → p ≤ d → p * (n / d) ≤ n
part_le p d n h = le_trans (mul-le-mul_right (n / d) h) (mul-div-le n d)

-- Laws of the sum of the needs' heights: at most n times the greatest, and larger where a need was lifted.
-- Assumes nothing.
use Rattle.std.proofs.Common.{ℕ, zero, suc, ◌+◌, ◌*◌, ◌<◌, ◌≤◌, List, get_or, subst, suc-mul, arith}
use Rattle.automaton.specs.Limits.{state_limit}
use Rattle.game.specs.inner.Needs.{height_of}
use Rattle.plays.proofs.CaseLaws.{zero_or, same_or}
use Rattle.game.proofs.LiftLaws.{height_none, height_some}

-- the sum of the heights of the states below n
unfoldable pub height_sum : List ℕ → ℕ → ℕ
height_sum r zero = 0
height_sum r (suc n) = height_sum r n + height_of (get_or r n 0)

height_bound : (k : ℕ) → k ≤ state_limit → height_of k ≤ state_limit + 1
height_bound k h = zero_or k (λ e. omega (arith, height_none k e)) (λ p. omega (arith, height_some k p))

pub sum_bound : (r : List ℕ) → ((t : ℕ) → get_or r t 0 ≤ state_limit) → (n : ℕ) → height_sum r n ≤ n * (state_limit + 1)
unfolding height_sum
sum_bound r small zero = omega arith
sum_bound r small (suc n) = omega (arith, sum_bound r small n, height_bound (get_or r n 0) (small n), suc-mul n (state_limit + 1))

module _ (old new : List ℕ) (rises : (t : ℕ) → height_of (get_or old t 0) ≤ height_of (get_or new t 0)) where
  sum_mono : (n : ℕ) → height_sum old n ≤ height_sum new n
  unfolding height_sum
  sum_mono zero = omega arith
  sum_mono (suc n) = omega (arith, sum_mono n, rises n)

  pub sum_more : (s : ℕ) → height_of (get_or old s 0) < height_of (get_or new s 0) → (n : ℕ) → s < n → height_sum old n < height_sum new n
  unfolding height_sum
  sum_more s more zero h = omega arith
  sum_more s more (suc n) h =
      same_or s n
      (λ e. omega (arith, sum_mono n, subst (λ (i : ℕ). height_of (get_or old i 0) < height_of (get_or new i 0)) e more))
      (λ d.
      let q : s < n = omega arith in
      omega (arith, sum_more s more n q, rises n))

-- Laws of the ranks below a limit.
-- Assumes nothing.
use Rattle.std.proofs.Common.{◌≡◌, ℕ, zero, suc, ◌+◌, ◌-◌, ◌%◌, ◌^◌, ◌<◌, ◌≤◌, true, false, not, eqb, ltb, List, get_or, replicate, sym, refl, ◌∙◌, arith, ltb-false, ltb-true, lt-ltb, eq-eqb, ne_eqb}
use Rattle.game.specs.inner.Serving.{ranked_below}
use Rattle.reader.proofs.BoolLaws.{on, clash, not_true→, and_true, nonzero}
use Rattle.plays.proofs.CaseLaws.{zero_or, below_or}

-- no state has a rank in a list of zeros
pub zeros : (n t : ℕ) → get_or (replicate {A = ℕ} n 0) t 0 ≡ 0
zeros zero t = refl
zeros (suc n) zero = refl
zeros (suc n) (suc t) = zeros n t

module _ (limit : ℕ) (r : List ℕ) (t : ℕ) where
  pub ranked_below_lem : ranked_below limit r t ≡ true → (0 < get_or r t 0) × (get_or r t 0 < limit)
  unfolding ranked_below
  ranked_below_lem e =
      let p = and_true (not (eqb (get_or r t 0) 0)) (ltb (get_or r t 0) limit) e in
      (nonzero (get_or r t 0) (not_true→ (eqb (get_or r t 0) 0) p.0), ltb-true (get_or r t 0) limit p.1)

  pub below_ranked : 0 < get_or r t 0 → get_or r t 0 < limit → ranked_below limit r t ≡ true
  unfolding ranked_below
  below_ranked p l = rw (ne_eqb (get_or r t 0) 0 (λ z. let q : ⊥ = omega arith in q), lt-ltb (get_or r t 0) limit l)

  -- where there is no rank, none is below the limit
  pub none_below_lem : get_or r t 0 ≡ 0 → ranked_below limit r t ≡ false
  unfolding ranked_below
  none_below_lem e = rw (eq-eqb (get_or r t 0) 0 e)

  -- the code's test: one less than the rank, where one less than none is the largest number
  pub one_less : 0 < limit → limit < 2 ^ 16 → (w : ℕ) → w < 2 ^ 16 → (w + 1) % 2 ^ 16 ≡ get_or r t 0 → ranked_below limit r t ≡ ltb w (limit - 1)
  one_less some small w l e =
      on (ltb w (limit - 1))
      (λ h.
      let d = ltb-true w (limit - 1) h in
      below_ranked (omega arith) (omega arith) ∙ sym h)
      (λ h.
      let d = ltb-false w (limit - 1) h in
      on (ranked_below limit r t) (λ b. let q = ranked_below_lem b in absurd (let z : ⊥ = omega (arith, q.0, q.1) in z)) (λ b. b ∙ sym h))

  pub not_below : limit ≤ get_or r t 0 → ranked_below limit r t ≡ false
  not_below h =
      on (ranked_below limit r t) (λ e. let p = ranked_below_lem e in absurd (let z : ⊥ = omega arith in z)) (λ e. e)

  -- and a rank that is not below the limit is no lower than it
  pub not_lower : ranked_below limit r t ≡ false → 0 < get_or r t 0 → limit ≤ get_or r t 0
  not_lower e p = below_or (get_or r t 0) limit (λ l. clash (ranked_below limit r t) (below_ranked p l) e) (λ l. l)

  -- where none is below a limit that is above all ranks, there is no rank
  pub below_none : ranked_below limit r t ≡ false → get_or r t 0 < limit → get_or r t 0 ≡ 0
  below_none e l = zero_or (get_or r t 0) (λ z. z) (λ p. clash (ranked_below limit r t) (below_ranked p l) e)

pub same_below : (limit : ℕ) (a b : List ℕ) (t : ℕ) → get_or a t 0 ≡ get_or b t 0 → ranked_below limit a t ≡ ranked_below limit b t
unfolding ranked_below
same_below limit a b t e = rw e

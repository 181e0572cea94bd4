-- Laws of the number of states with a rank: at most n, and greater where a state gets one.
-- Assumes nothing.
use Rattle.std.proofs.Common.{◌≡◌, ℕ, zero, suc, ◌+◌, ◌<◌, ◌≤◌, cond, eqb, List, get_or, subst, arith, eq-eqb, ne_eqb}
use Rattle.game.specs.inner.Rounds.{Extends, Grows}
use Rattle.reader.proofs.BoolLaws.{on, nonzero}
use Rattle.plays.proofs.CaseLaws.{same_or}

-- the number of states below n that have a rank
unfoldable pub ranked_count : List ℕ → ℕ → ℕ
ranked_count r zero = 0
ranked_count r (suc n) = cond (eqb (get_or r n 0) 0) (ranked_count r n) (suc (ranked_count r n))

pub count_bound : (r : List ℕ) (n : ℕ) → ranked_count r n ≤ n
unfolding ranked_count
count_bound r zero = omega arith
count_bound r (suc n) =
    let ih = count_bound r n in
    on (eqb (get_or r n 0) 0) (λ e. rw e (omega arith)) (λ e. rw e (omega arith))

module _ (old new : List ℕ) (ext : Extends old new) where
  -- one more state adds no more to the old count than to the new one
  count_step : (n : ℕ) → ranked_count old (suc n) + ranked_count new n ≤ ranked_count new (suc n) + ranked_count old n
  unfolding ranked_count
  count_step n =
      on (eqb (get_or old n 0) 0)
      (λ e. on (eqb (get_or new n 0) 0) (λ d. rw (d, e) (omega arith)) (λ d. rw (d, e) (omega arith)))
      (λ e.
      let p = nonzero (get_or old n 0) e in
      let q = ext n p in
      rw (e, ne_eqb (get_or new n 0) 0 (λ z. let z' : ⊥ = omega arith in z')) (omega arith))

  count_mono : (n : ℕ) → ranked_count old n ≤ ranked_count new n
  unfolding ranked_count
  count_mono zero = omega arith
  count_mono (suc n) = omega (arith, count_mono n, count_step n)

  -- the state that got a rank
  count_here : (n : ℕ) → get_or old n 0 ≡ 0 → 0 < get_or new n 0 → ranked_count old (suc n) < ranked_count new (suc n)
  unfolding ranked_count
  count_here n a b =
      rw (eq-eqb (get_or old n 0) 0 a, ne_eqb (get_or new n 0) 0 (λ z. let z' : ⊥ = omega arith in z')) (omega (arith, count_mono n))

  count_from : (s : ℕ) → get_or old s 0 ≡ 0 → 0 < get_or new s 0 → (n : ℕ) → s < n → ranked_count old n < ranked_count new n
  count_from s a b zero h = omega arith
  count_from s a b (suc n) h =
      same_or s n
      (λ e. count_here n (subst (λ (i : ℕ). get_or old i 0 ≡ 0) e a) (subst (λ (i : ℕ). 0 < get_or new i 0) e b))
      (λ d.
      let q : s < n = omega arith in
      omega (arith, count_from s a b n q, count_step n))

  pub count_more : (n : ℕ) → Grows n old new → ranked_count old n < ranked_count new n
  count_more n g = count_from g.0 g.2 g.3 n g.1

  pub count_grows : (n : ℕ) → Grows n old new → (ranked_count old n < ranked_count new n) × (ranked_count new n ≤ n)
  count_grows n g = (count_more n g, count_bound new n)

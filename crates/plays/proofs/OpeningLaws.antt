-- Rows at the opening of a play, and rows after a step that does not pass: both are rows.
-- Assumes nothing.
use Prim.Native.Nat.{ℕ, zero, suc, ◌-◌}
use mathlib.Core.Path.{◌≡◌, refl, sym, ap, subst}
use mathlib.Core.Bool.{Bool, true}
use mathlib.Core.List.{List, [], ◌∷◌, ◌++◌}
use mathlib.Core.Logic.{◌⊎◌}
use native.Mathlib.Omega.{arith}
use lib.ListN.{length}
use Rattle.plays.specs.Play.{Step, Every, InRow}
use Rattle.plays.specs.Number.{Opens, Resumes}
use Rattle.plays.proofs.PlayLaws.{row_later, row_first}

module _ (c : ℕ → Bool) where
  -- one step more at the front
  pub opens_more : (k : ℕ) (a : Step) (p : List Step) → c a.input ≡ true → Opens c (k - 1) p → Opens c k (a ∷ p)
  unfolding Opens
  opens_more zero a p e o = tt
  opens_more (suc k) a p e o = (e, subst (λ (i : ℕ). Opens c i p) (let z : suc k - 1 ≡ k = omega arith in z) o)

  -- the opening steps and the others
  opening : (k : ℕ) (p : List Step) → Opens c k p → (row : List Step) × (rest : List Step) × (p ≡ row ++ rest) × (length row ≡ k) × Every c row
  unfolding Every Opens
  opening zero p h = ([], p, refl, refl, tt)
  opening (suc k) [] h = absurd h
  opening (suc k) (a ∷ p) h =
      let v = opening k p h.1 in
      (a ∷ v.0, v.1, ap (λ (q : List Step). a ∷ q) v.2, ap suc v.3, (h.0, v.4))

  pub opens_row : (k : ℕ) (p : List Step) → Opens c k p → InRow c k p
  opens_row k p h =
      let v = opening k p h in
      subst (λ (q : List Step). InRow c k q) (sym v.2) (row_first c k v.0 v.1 v.3 v.4)

  pub resumes_row : (m : ℕ) (p : List Step) → Resumes c m p → InRow c m p
  unfolding Resumes
  resumes_row m [] h = absurd h
  resumes_row m (a ∷ p) (◌⊎◌.inl h) = row_later c m (a ∷ []) p (opens_row m p h.1)
  resumes_row m (a ∷ p) (◌⊎◌.inr h) = row_later c m (a ∷ []) p (resumes_row m p h)

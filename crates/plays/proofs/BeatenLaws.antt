-- Laws of beaten positions: what is beaten stays beaten with a smaller budget and a lower limit, and where the environment has a certificate when stable the
-- system is beaten with every budget.
-- Assumes nothing.
use Prim.Native.Nat.{ℕ, zero, suc, ◌-◌, ◌<◌, ◌≤◌}
use mathlib.Core.Path.{◌≡◌, refl, subst}
use mathlib.Core.Bool.{Bool, true, false}
use mathlib.Core.List.{List}
use native.Mathlib.Omega.{arith}
use lib.ListN.{get_or}
use Rattle.plays.specs.Arena.{Arena, next, holds}
use Rattle.plays.specs.inner.Rank.{Falls, Ranked}
use Rattle.plays.specs.inner.Beaten.{left, Beaten, over, forced}
use Rattle.reader.proofs.BoolLaws.{on}

-- ---- a smaller budget and a lower limit

-- a smaller budget and a lower limit leave no more
left_less : (fair : Bool) (m j : ℕ) → j ≤ m → (h : Bool) (k l : ℕ) → l ≤ k → left fair j h l ≤ left fair m h k
left_less fair m j lower true k l le = omega arith
left_less true m j lower false k l le = le
left_less false m j lower false k l le = lower

pub beaten_less : (fair : Bool) (G : Arena) (m j : ℕ) → j ≤ m → (s k : ℕ) → Beaten fair G m s k → (l : ℕ) → l ≤ k → Beaten fair G j s l
beaten_less fair G m j lower s k (over e) l le = let z : l ≡ 0 = omega arith in over z
beaten_less fair G m j lower s k (forced x legal undone rest) l le =
    forced x legal undone
    (λ y h.
    beaten_less fair G m j lower (next G s x y) (left fair m (holds G x) k) (rest y h) (left fair j (holds G x) l)
    (left_less fair m j lower (holds G x) k l le))

-- a budget that is the limit goes down with it
pub beaten_limit : (fair : Bool) (G : Arena) (m : ℕ) (s : ℕ) → Beaten fair G m s m → (k : ℕ) → k ≤ m → Beaten fair G k s k
beaten_limit fair G m s b k le = beaten_less fair G m k le s m b k le

-- when fair the limit does not matter
left_any : (m n : ℕ) (h : Bool) (k : ℕ) → left true m h k ≡ left true n h k
left_any m n true k = refl
left_any m n false k = refl

pub beaten_any : (G : Arena) (m n s k : ℕ) → Beaten true G m s k → Beaten true G n s k
beaten_any G m n s k (over e) = over e
beaten_any G m n s k (forced x legal undone rest) =
    forced x legal undone
    (λ y h.
    subst (λ (i : ℕ). Beaten true G n (next G s x y) i) (left_any m n (holds G x) k)
    (beaten_any G m n (next G s x y) (left true m (holds G x) k) (rest y h)))

-- ---- stable: where the environment has a certificate

-- By its ranks the environment sees to it that the steps without the condition come to an end, and no goal is entered; so the condition comes in long rows.
module _ (G : Arena) (n : ℕ) (r : List ℕ) (certificate : Ranked G false true n r) (m : ℕ) where
  -- the states of rank at most b are beaten with every budget
  abbrev Held : ℕ → Type 0
  Held b = (s k : ℕ) → 0 < get_or r s 0 → get_or r s 0 ≤ b → Beaten false G m s k

  -- one step, by whether it has the condition
  held_step : (b k s x t : ℕ) → get_or r s 0 ≤ suc b → Held b → ((s : ℕ) → 0 < get_or r s 0 → get_or r s 0 ≤ suc b → Beaten false G m s k)
      → Falls G false true n r s x t → Beaten false G m t (left false m (holds G x) (suc k))
  held_step b k s x t le lower ih d =
      on (holds G x)
      (λ e. rw e (let z : k ≡ suc k - 1 = omega arith in subst (λ (i : ℕ). Beaten false G m t i) z (ih t d.0 (omega (arith, d.2 (rw e))))))
      (λ e. rw e (lower t m d.0 (omega (arith, d.1 (rw e)))))

  held_more : (b : ℕ) → Held b → (k s : ℕ) → 0 < get_or r s 0 → get_or r s 0 ≤ suc b → Beaten false G m s k
  held_more b lower zero s w le = over refl
  held_more b lower (suc k) s w le =
      let f = certificate.forced s w in
      forced f.0 f.1 (λ y h. (f.2 y h).0) (λ y h. held_step b k s f.0 (next G s f.0 y) le lower (held_more b lower k) (f.2 y h).1)

  held : (b : ℕ) → Held b
  held zero = λ s k w le. absurd (let z : ⊥ = omega arith in z)
  held (suc b) = λ s k w le. held_more b (held b) k s w le

pub held_beaten : (G : Arena) (n : ℕ) (r : List ℕ) → Ranked G false true n r → (m s k : ℕ) → 0 < get_or r s 0 → Beaten false G m s k
held_beaten G n r certificate m s k w = held G n r certificate m (get_or r s 0) s k w (omega arith)

-- Laws of tests: a Bool taken apart, and a number that is 0 or not.
-- Assumes nothing.
use mathlib.Core.Path.{◌≡◌, refl, sym, ◌∙◌}
use mathlib.Core.Bool.{Bool, true, false, not, ◌||◌, ◌&&◌}
use mathlib.Core.Logic.{◌⊎◌}
use Prim.Native.Nat.{ℕ, ◌<◌}
use native.Mathlib.Omega.{arith}
use lib.Dec.{eqb}
use borrow.Author.Tests.{eqb-false}

-- a test's two cases, the test first, so that what each case is told is known
pub on : {C : Type 0} (b : Bool) → (b ≡ true → C) → (b ≡ false → C) → C
on true f g = f refl
on false f g = g refl

-- a test is true or false
pub decided : (b : Bool) → (b ≡ true) ⊎ (b ≡ false)
decided true = ◌⊎◌.inl refl
decided false = ◌⊎◌.inr refl

-- no test is both
pub clash : {A : Type 0} (b : Bool) → b ≡ true → b ≡ false → A
clash b t f = absurd (mathlib.Core.Bool.true≢false (sym t ∙ f))

pub not_false_is_true : (b : Bool) → (b ≡ false → ⊥) → b ≡ true
not_false_is_true true h = refl
not_false_is_true false h = absurd (h refl)

pub not_true_is_false : (b : Bool) → (b ≡ true → ⊥) → b ≡ false
not_true_is_false true h = absurd (h refl)
not_true_is_false false h = refl

pub not_true→ : (b : Bool) → not b ≡ true → b ≡ false
not_true→ true e = sym e
not_true→ false e = refl

pub not_false→ : (b : Bool) → not b ≡ false → b ≡ true
not_false→ true e = refl
not_false→ false e = sym e

-- a disjunction that is false has both parts false
pub or_left : (a b : Bool) → (a || b) ≡ false → a ≡ false
or_left true b e = e
or_left false b e = refl

pub or_right : (a b : Bool) → (a || b) ≡ false → b ≡ false
or_right true b e = absurd (mathlib.Core.Bool.true≢false e)
or_right false b e = e

pub or_cases : (a b : Bool) → (a || b) ≡ true → (a ≡ true) ⊎ (b ≡ true)
or_cases true b e = ◌⊎◌.inl refl
or_cases false b e = ◌⊎◌.inr e

pub or_true : (b : Bool) → (b || true) ≡ true
or_true true = refl
or_true false = refl

pub or_false : (b : Bool) → (b || false) ≡ b
or_false true = refl
or_false false = refl

pub and_true : (a b : Bool) → (a && b) ≡ true → (a ≡ true) × (b ≡ true)
and_true true b e = (refl, e)
and_true false b e = absurd (mathlib.Core.Bool.false≢true e)

pub and_cases : (a b : Bool) → (a && b) ≡ false → (a ≡ false) ⊎ (b ≡ false)
and_cases true b e = ◌⊎◌.inr e
and_cases false b e = ◌⊎◌.inl refl

pub positive : (n : ℕ) → (n ≡ 0 → ⊥) → 0 < n
positive n h = omega arith

pub nonzero : (n : ℕ) → eqb n 0 ≡ false → 0 < n
nonzero n e = positive n (eqb-false n 0 e)

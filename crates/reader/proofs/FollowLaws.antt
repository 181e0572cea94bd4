-- Which marks can follow a formula of a level.
-- Assumes nothing.
use mathlib.Core.Path.{◌≡◌, ap, ◌∙◌}
use mathlib.Core.List.{List, [], ◌∷◌}
use Prim.Native.Nat.{ℕ, suc, ◌<◌}
use native.Mathlib.Nat.{lt_irrefl}
use native.Mathlib.Omega.{arith}
use Rattle.reader.specs.declared.marks.Kind.TheVariants.{Infix, Close}
use Rattle.reader.specs.Marks.{mark_kind}
use Rattle.reader.specs.inner.Steps.{CanFollow}

-- no infix mark of the level can follow
pub follow_level : (l b : ℕ) (s t : List ℕ) → CanFollow (suc l) s → s ≡ b ∷ t → mark_kind b ≡ Infix (suc l) → ⊥
follow_level l b [] t c e k = let z : ◌≡◌ {A = ℕ} 0 1 = cc in omega arith
follow_level l b (a ∷ s) t c e k = let f : a ≡ b = cc in lt_irrefl (suc l) (c (suc l) (ap mark_kind f ∙ k))

-- what can follow a level can follow the one below
pub follow_down : (l : ℕ) (s : List ℕ) → CanFollow (suc l) s → CanFollow l s
follow_down l [] c = tt
follow_down l (b ∷ s) c = λ m e. let h : suc l < m = c m e in omega arith

-- an infix mark can follow the level below its own
pub follow_infix : (l b : ℕ) (s : List ℕ) → mark_kind b ≡ Infix (suc l) → CanFollow l (b ∷ s)
follow_infix l b s k m e = let h : suc l ≡ m = cc in omega arith

-- a closing parenthesis can follow every level
pub follow_close : (l b : ℕ) (s : List ℕ) → mark_kind b ≡ Close → CanFollow l (b ∷ s)
follow_close l b s k m e = let z : ◌≡◌ {A = ℕ} 0 1 = cc in omega arith

-- One step of the temporal operators (specs/Trace.antt): what an operator says at a position, by what it says at the next.
-- `T b ↔ A` says that the test b decides the proposition A. Assumes nothing.
use Prim.Native.Nat.{ℕ, suc, ◌≤◌, ◌<◌}
use mathlib.Core.Path.{◌≡◌, refl, sym, subst}
use mathlib.Core.Bool.{Bool, true, false, not, ◌&&◌, ◌||◌}
use mathlib.Core.Logic.{◌⊎◌, inl, inr, ⊎_elim, ◌↔◌}
use native.Mathlib.Nat.{le_refl, le_of_lt, eq-or-lt_of_le}
use native.Mathlib.Omega.{arith}
use lib.Dec.{T}
use Rattle.automaton.specs.Bits.{one}
use Rattle.automaton.specs.Trace.{Until}

-- ---- tests and propositions
pub T_and : (a b : Bool) {A B : Type 0} → T a ↔ A → T b ↔ B → T (a && b) ↔ (A × B)
T_and true b e f = (λ t. (e.0 tt, f.0 t), λ p. f.1 p.1)
T_and false b e f = (λ t. absurd t, λ p. e.1 p.0)

pub T_or : (a b : Bool) {A B : Type 0} → T a ↔ A → T b ↔ B → T (a || b) ↔ (A ⊎ B)
T_or true b e f = (λ t. inl (e.0 tt), λ p. tt)
T_or false b e f = (λ t. inr (f.0 t), ⊎_elim (λ x. absurd (e.1 x)) (λ y. f.1 y))

pub T_not : (a : Bool) {A : Type 0} → T a ↔ A → T (not a) ↔ (A → ⊥)
T_not true e = (λ t. absurd t, λ f. f (e.0 tt))
T_not false e = (λ t x. e.1 x, λ f. tt)

pub T_impl : (a b : Bool) {A B : Type 0} → T a ↔ A → T b ↔ B → T (not a || b) ↔ (A → B)
T_impl true b e f = (λ t x. f.0 t, λ g. f.1 (g (e.0 tt)))
T_impl false b e f = (λ t x. absurd (e.1 x), λ g. tt)

-- a test that equals another decides what that one decides
pub by_test : {b c : Bool} {A : Type 0} → b ≡ c → T c ↔ A → T b ↔ A
by_test {A = A} e f = subst (λ (x : Bool). T x ↔ A) (sym e) f

-- what a test decides is so if it is not refuted
not_refuted : {B : Type 0} (b : Bool) → T b ↔ B → ((B → ⊥) → ⊥) → B
not_refuted true e f = e.0 tt
not_refuted false e f = absurd (f (λ x. e.1 x))

true_iff : (b : Bool) → (b ≡ true) ↔ T b
true_iff true = (λ e. tt, λ t. refl)
true_iff false = (λ e. subst T (sym e) tt, λ t. absurd t)

one_iff : (b : Bool) → (one b ≡ 1) ↔ T b
one_iff true = (λ e. tt, λ t. refl)
one_iff false = (λ e. let z : ⊥ = omega arith in z, λ t. absurd t)

-- the same, where the test is written as an equation
pub by_true : {b : Bool} {A : Type 0} → T b ↔ A → (b ≡ true) ↔ A
by_true {b = b} f = (λ e. f.0 ((true_iff b).0 e), λ x. (true_iff b).1 (f.1 x))

pub by_one : (b : Bool) {A : Type 0} → T b ↔ A → (one b ≡ 1) ↔ A
by_one b f = (λ e. f.0 ((one_iff b).0 e), λ x. (one_iff b).1 (f.1 x))

-- ---- one step of until and of release
module _ (P Q : ℕ → Type 0) (n p : ℕ) where
  pub unroll : p < n → Until P Q n p ↔ (Q p ⊎ (P p × Until P Q n (suc p)))
  unroll h = (there, back)
    where
      there : Until P Q n p → Q p ⊎ (P p × Until P Q n (suc p))
      there u =
          ⊎_elim (λ e. inl (subst Q (sym e) u.3))
          (λ l. inr (u.4 p (le_refl p) l, (u.0, l, u.2, u.3, λ r h₁ h₂. u.4 r (le_of_lt h₁) h₂)))
          (eq-or-lt_of_le u.1)

      back : Q p ⊎ (P p × Until P Q n (suc p)) → Until P Q n p
      back (inl x) = (p, le_refl p, h, x, λ r h₁ h₂. absurd (let z : ⊥ = omega arith in z))
      back (inr u) =
          (u.1.0, le_of_lt u.1.1, u.1.2, u.1.3, λ r h₁ h₂. ⊎_elim (λ e. subst P e u.0) (λ l. u.1.4 r l h₂) (eq-or-lt_of_le h₁))

  pub no_until : n ≤ p → Until P Q n p → ⊥
  no_until h u = let h₁ : p ≤ u.0 = u.1 in let h₂ : u.0 < n = u.2 in omega arith

pub until_step : (a b c : Bool) {A B U W : Type 0} → T a ↔ A → T b ↔ B → T c ↔ W → U ↔ (B ⊎ (A × W)) → T (b || (a && c)) ↔ U
until_step a b c ea eb ec u =
    let e = T_or b (a && c) eb (T_and a c ea ec) in
    (λ t. u.1 (e.0 t), λ x. e.1 (u.0 x))

pub release_step : (a b c : Bool) {A B U W : Type 0} → T a ↔ A → T b ↔ B → T c ↔ (W → ⊥) → U ↔ ((B → ⊥) ⊎ ((A → ⊥) × W)) → T (b && (a || c)) ↔ (U → ⊥)
release_step a b c {A} {B} {U} {W} ea eb ec u =
    let e = T_and b (a || c) eb (T_or a c ea ec) in (
      λ t x. ⊎_elim (λ nb. nb (e.0 t).0) (λ y. ⊎_elim (λ xa. y.0 xa) (λ nv. nv y.1) (e.0 t).1) (u.0 x),
      λ f. e.1 (not_refuted b eb (λ nb. f (u.1 (inl nb))), other a ea (λ na v. f (u.1 (inr (na, v))))),
    )
  where
    other : {A W : Type 0} (a : Bool) → T a ↔ A → ((A → ⊥) → W → ⊥) → A ⊎ (W → ⊥)
    other true e f = inl (e.0 tt)
    other false e f = inr (f (λ x. e.1 x))

pub eventually_step : (b c : Bool) {B U W : Type 0} → T b ↔ B → T c ↔ W → U ↔ (B ⊎ (Unit {0} × W)) → T (b || c) ↔ U
eventually_step b c eb ec u = until_step true b c (λ t. tt, λ t. tt) eb ec u

pub always_step : (b c : Bool) {B U W : Type 0} → T b ↔ B → T c ↔ (W → ⊥) → U ↔ ((B → ⊥) ⊎ (Unit {0} × W)) → T (b && c) ↔ (U → ⊥)
always_step b c eb ec u =
    let e = T_and b c eb ec in (
      λ t x. ⊎_elim (λ nb. nb (e.0 t).0) (λ y. (e.0 t).1 y.1) (u.0 x),
      λ f. e.1 (not_refuted b eb (λ nb. f (u.1 (inl nb))), λ v. f (u.1 (inr (tt, v)))),
    )

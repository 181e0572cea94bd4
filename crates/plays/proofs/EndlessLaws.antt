-- Plays without end, by their beginnings: what comes again and again comes n times in one of them, what holds from some step on holds at n steps in a row,
-- and what fails fewer than n times in every one of them does not fail again and again.
-- Assumes nothing.
use Prim.Native.Nat.{ℕ, zero, suc, ◌+◌, ◌-◌, ◌≤◌, ◌<◌}
use mathlib.Core.Path.{◌≡◌, refl, sym, ap, ◌∙◌, subst}
use mathlib.Core.Bool.{Bool, true, false}
use mathlib.Core.List.{List, [], ◌∷◌, ◌++◌, append-nil}
use mathlib.Core.Logic.{◌⊎◌, ⊎_elim}
use native.Mathlib.Omega.{arith}
use lib.ListN.{length, take}
use Rattle.plays.specs.declared.mode.Mode.{Mode}
use Rattle.plays.specs.declared.mode.Mode.TheVariants.{Fair, Stable}
use Rattle.plays.specs.Arena.{Arena, holds, lacks}
use Rattle.plays.specs.Play.{Step, count, Every, InRow}
use Rattle.plays.specs.Strategy.{Assumed, Failed}
use Rattle.plays.specs.Endless.{first, inputs, Again, Finally, Promised, Omniscience, Honoured}
use Rattle.reader.proofs.BoolLaws.{on, not_false→}
use Rattle.plays.proofs.CaseLaws.{below_or}
use Rattle.plays.proofs.PlayLaws.{count_append}

-- ---- beginnings

pub first_long : (f : ℕ → Step) (k : ℕ) → length (first f k) ≡ k
unfolding first
first_long f zero = refl
first_long f (suc k) = ap suc (first_long (λ j. f (suc j)) k)

-- a beginning of a beginning
pub first_take : (f : ℕ → Step) (k j : ℕ) → k ≤ j → take k (first f j) ≡ first f k
unfolding first
first_take f zero j h = refl
first_take f (suc k) zero h = absurd (let z : ⊥ = omega arith in z)
first_take f (suc k) (suc j) h = ap (λ (p : List Step). f 0 ∷ p) (first_take (λ j. f (suc j)) k j (omega arith))

-- the play from step m on
unfoldable from : ℕ → (ℕ → Step) → ℕ → Step
from zero f = f
from (suc m) f = from m (λ j. f (suc j))

from_is : (m : ℕ) (f : ℕ → Step) (j : ℕ) → from m f j ≡ f (m + j)
unfolding from
from_is zero f j = let e : j ≡ 0 + j = omega arith in ap f e
from_is (suc m) f j = let e : suc (m + j) ≡ suc m + j = omega arith in from_is m (λ i. f (suc i)) j ∙ ap f e

first_append : (f : ℕ → Step) (m n : ℕ) → first f (m + n) ≡ first f m ++ first (from m f) n
unfolding first from
first_append f zero n = let e : 0 + n ≡ n = omega arith in ap (first f) e
first_append f (suc m) n =
    let e : suc m + n ≡ suc (m + n) = omega arith in
    ap (first f) e ∙ ap (λ (p : List Step). f 0 ∷ p) (first_append (λ j. f (suc j)) m n)

-- ---- steps that pass a test

module _ (c : ℕ → Bool) where
  every_first : (f : ℕ → Step) → ((j : ℕ) → c (f j).input ≡ true) → (n : ℕ) → Every c (first f n)
  unfolding first Every
  every_first f h zero = tt
  every_first f h (suc n) = (h 0, every_first (λ j. f (suc j)) (λ j. h (suc j)) n)

  -- every one of the first n steps passes, or one does not
  every_or_not : (f : ℕ → Step) (n : ℕ) → Every c (first f n) ⊎ ((j : ℕ) × (c (f j).input ≡ false))
  unfolding first Every
  every_or_not f zero = ◌⊎◌.inl tt
  every_or_not f (suc n) =
      on (c (f 0).input)
      (λ e. ⊎_elim (λ v. ◌⊎◌.inl (e, v)) (λ w. ◌⊎◌.inr (suc w.0, w.1)) (every_or_not (λ j. f (suc j)) n))
      (λ e. ◌⊎◌.inr (0, e))

  -- the n steps from m on, all of which pass
  row_from : (f : ℕ → Step) (m n : ℕ) → Every c (first (from m f) n) → InRow c n (first f (m + n))
  row_from f m n all =
      record {
        before = first f m;
        row = first (from m f) n;
        rest = [];
        whole = first_append f m n ∙ ap (λ (p : List Step). first f m ++ p) (sym (append-nil (first (from m f) n)));
        long = first_long (from m f) n;
        all = all;
      }

  -- a step that passes counts
  counted : (f : ℕ → Step) (j : ℕ) → c (f j).input ≡ true → 0 < count c (first f (suc j))
  unfolding first count
  counted f zero e = rw e (omega arith)
  counted f (suc j) e =
      let ih = counted (λ i. f (suc i)) j e in
      on (c (f 0).input) (λ t. rw t (omega arith)) (λ t. rw t ih)

  -- the count up to a step that passes, and of what comes behind it
  count_behind : (f : ℕ → Step) (j k : ℕ) → c (f j).input ≡ true → count c (first (from (suc j) f) k) < count c (first f (suc j + k))
  count_behind f j k e =
      subst (λ (p : List Step). count c (first (from (suc j) f) k) < count c p) (sym (first_append f (suc j) k))
      (omega (arith, count_append c (first f (suc j)) (first (from (suc j) f) k), counted f j e))

  again_from : (f : ℕ → Step) → Again c (inputs f) → (m : ℕ) → Again c (inputs (from m f))
  again_from f again m i =
      let w = again (m + i) in
      let e : w.0 ≡ m + (w.0 - m) = omega (arith, w.1) in
      (w.0 - m, omega (arith, w.1), subst (λ (a : Step). c a.input ≡ true) (ap f e ∙ sym (from_is m f (w.0 - m))) w.2)

  -- what comes again and again comes n times in some beginning
  often : (n : ℕ) (f : ℕ → Step) → Again c (inputs f) → (k : ℕ) × (n ≤ count c (first f k))
  often zero f again = (0, omega arith)
  often (suc n) f again =
      let s = again 0 in
      let w = often n (from (suc s.0) f) (again_from f again (suc s.0)) in
      (suc s.0 + w.0, omega (arith, w.1, count_behind f s.0 w.0 s.2))

  finally_from : (f : ℕ → Step) (m : ℕ) → Finally c (inputs (from m f)) → Finally c (inputs f)
  finally_from f m w = (
    m + w.0,
    λ j h.
        let e : m + (j - m) ≡ j = omega arith in
        subst (λ (a : Step). c a.input ≡ true) (from_is m f (j - m) ∙ ap f e) (w.1 (j - m) (omega arith)),
  )

-- what fails fewer than b times in every beginning cannot fail to hold from some step on
few_failures : (c d : ℕ → Bool) → ((x : ℕ) → c x ≡ false → d x ≡ true) → (b : ℕ) (f : ℕ → Step) → ((k : ℕ) → count d (first f k) < b)
    → (Finally c (inputs f) → ⊥) → ⊥
few_failures c d o zero f few broken = let z = few 0 in omega arith
few_failures c d o (suc b) f few broken =
    broken (
      0,
      λ j h. on (c (f j).input) (λ e. e)
          (λ e. absurd (few_failures c d o b (from (suc j) f) (λ k. omega (arith, few (suc j + k), count_behind d f j k (o (f j).input e)))
          (λ w. broken (finally_from c f (suc j) w)))),
    )

-- and holds from some step on, if a test passes somewhere or nowhere
few_finally : Omniscience → (c d : ℕ → Bool) → ((x : ℕ) → d x ≡ false → c x ≡ true) → (b : ℕ) (f : ℕ → Step) → ((k : ℕ) → count d (first f k) < b)
    → Finally c (inputs f)
few_finally omniscience c d o zero f few = absurd (let z = few 0 in let y : ⊥ = omega arith in y)
few_finally omniscience c d o (suc b) f few =
    ⊎_elim
    (λ w.
    finally_from c f (suc w.0)
    (few_finally omniscience c d o b (from (suc w.0) f) (λ k. omega (arith, few (suc w.0 + k), count_behind d f w.0 k w.1))))
    (λ n. (0, λ j h. o (f j).input (n j)))
    (omniscience (λ j. d (f j).input))

-- ---- the two promises

module _ (G : Arena) where
  -- on a play on which a promise is kept for ever the condition has come n times in some beginning
  pub assumed : (mode : Mode) (n : ℕ) (f : ℕ → Step) → Promised mode G (inputs f) → (k : ℕ) × Assumed mode G n (first f k)
  assumed Fair n f again = often (holds G) n f again
  assumed Stable n f always =
      let m = always.0 in
      let held : (j : ℕ) → holds G (from m f j).input ≡ true =
      λ j. subst (λ (a : Step). holds G a.input ≡ true) (sym (from_is m f j)) (always.1 (m + j) (omega arith)) in
      (m + n, row_from (holds G) f m n (every_first (holds G) (from m f) held n))

  holds_unless : (x : ℕ) → lacks G x ≡ false → holds G x ≡ true
  holds_unless x e = not_false→ (holds G x) e

  few : (f : ℕ → Step) → ((k : ℕ) → Failed Stable G (first f k) → ⊥) → (k : ℕ) → count (lacks G) (first f k) < G.states
  few f keeping k = below_or (count (lacks G) (first f k)) G.states (λ l. l) (λ l. absurd (keeping k l))

  -- a promise that fails in no beginning is kept
  pub honoured : (mode : Mode) (f : ℕ → Step) → ((k : ℕ) → Failed mode G (first f k) → ⊥) → Honoured mode G (inputs f)
  honoured Fair f keeping = λ m.
      ⊎_elim
      (λ v. absurd (keeping (m + G.states) (row_from (lacks G) f m G.states v)))
      (λ w. (m + w.0, omega arith, subst (λ (a : Step). holds G a.input ≡ true) (from_is m f w.0) (holds_unless (from m f w.0).input w.1)))
      (every_or_not (lacks G) (from m f) G.states)
  honoured Stable f keeping = (
    few_failures (holds G) (lacks G) (λ x e. rw e) G.states f (few f keeping),
    λ omniscience. few_finally omniscience (holds G) (lacks G) holds_unless G.states f (few f keeping),
  )

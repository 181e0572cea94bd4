-- Laws of plays: a play taken apart, its beginnings, and counts and rows of steps whose inputs pass a test.
-- Assumes nothing.
use Prim.Native.Nat.{ℕ, zero, suc, ◌+◌, ◌<◌, ◌≤◌}
use mathlib.Core.Path.{◌≡◌, refl, sym, ap, ◌∙◌}
use mathlib.Core.Bool.{Bool, true, false}
use mathlib.Core.List.{List, [], ◌∷◌, ◌++◌, append_assoc}
use mathlib.Core.Logic.{⊎_elim}
use native.Mathlib.Omega.{arith}
use lib.ListN.{length, take}
use Rattle.machine.specs.Run.{run}
use Rattle.automaton.specs.Alphabet.{letter_of}
use Rattle.plays.specs.Arena.{Arena, goal}
use Rattle.plays.specs.Play.{Step, entered, stands_on, reaches, letters, Along, count, Every, InRow}
use Rattle.reader.proofs.BoolLaws.{on, or_left, or_right, or_cases, or_true}

-- ---- a play taken apart

-- a play taken apart in two
module _ (G : Arena) (R : ℕ → Step → Type 0) where
  pub along_left : (s : ℕ) (p q : List Step) → Along G R s (p ++ q) → Along G R s p
  unfolding Along
  along_left s [] q h = tt
  along_left s (a ∷ p) q h = (h.0, along_left (entered G s a) p q h.1)

  pub along_right : (s : ℕ) (p q : List Step) → Along G R s (p ++ q) → Along G R (stands_on G s p) q
  unfolding Along run
  along_right s [] q h = h
  along_right s (a ∷ p) q h = along_right (entered G s a) p q h.1

module _ (G : Arena) where
  -- a play that reaches no goal enters none by its first step, and reaches none by the others
  pub first_avoids : (s : ℕ) (a : Step) (p : List Step) → reaches G s (a ∷ p) ≡ false → goal G (entered G s a) ≡ false
  unfolding reaches
  first_avoids s a p e = or_left (goal G (entered G s a)) (reaches G (entered G s a) p) e

  pub others_avoid : (s : ℕ) (a : Step) (p : List Step) → reaches G s (a ∷ p) ≡ false → reaches G (entered G s a) p ≡ false
  unfolding reaches
  others_avoid s a p e = or_right (goal G (entered G s a)) (reaches G (entered G s a) p) e

  pub avoids_left : (s : ℕ) (p q : List Step) → reaches G s (p ++ q) ≡ false → reaches G s p ≡ false
  unfolding reaches
  avoids_left s [] q e = refl
  avoids_left s (a ∷ p) q e = rw (first_avoids s a (p ++ q) e) (avoids_left (entered G s a) p q (others_avoid s a (p ++ q) e))

  pub avoids_right : (s : ℕ) (p q : List Step) → reaches G s (p ++ q) ≡ false → reaches G (stands_on G s p) q ≡ false
  unfolding run
  avoids_right s [] q e = e
  avoids_right s (a ∷ p) q e = avoids_right (entered G s a) p q (others_avoid s a (p ++ q) e)

  -- a first step that enters no goal does not matter
  pub reaches_later : (s : ℕ) (a : Step) (p : List Step) → goal G (entered G s a) ≡ false → reaches G s (a ∷ p) ≡ reaches G (entered G s a) p
  unfolding reaches
  reaches_later s a p e = rw e

-- ---- beginnings of a play

module _ (G : Arena) where
  pub take_along : (R : ℕ → Step → Type 0) (s : ℕ) (p : List Step) (k : ℕ) → Along G R s p → Along G R s (take k p)
  unfolding Along
  take_along R s p zero h = tt
  take_along R s [] (suc k) h = tt
  take_along R s (a ∷ p) (suc k) h = (h.0, take_along R (entered G s a) p k h.1)

  pub take_letters : (p : List Step) (k : ℕ) → take k (letters G p) ≡ letters G (take k p)
  unfolding letters
  take_letters p zero = refl
  take_letters [] (suc k) = refl
  take_letters (a ∷ p) (suc k) = ap (λ (w : List ℕ). letter_of G.inputs a.input a.output ∷ w) (take_letters p k)

  -- a play reaches a goal exactly when some beginning of it stands on one
  pub reaches_beginning : (s : ℕ) (p : List Step) → reaches G s p ≡ true → (k : ℕ) × (0 < k) × (k ≤ length p) × (goal G (stands_on G s (take k p)) ≡ true)
  unfolding reaches run
  reaches_beginning s [] e = absurd (mathlib.Core.Bool.false≢true e)
  reaches_beginning s (a ∷ p) e =
      ⊎_elim
      (λ g. (1, omega arith, omega arith, g))
      (λ h. let w = reaches_beginning (entered G s a) p h in (suc w.0, omega arith, omega (arith, w.2), w.3))
      (or_cases (goal G (entered G s a)) (reaches G (entered G s a) p) e)

  pub beginning_reaches : (s : ℕ) (p : List Step) (k : ℕ) → 0 < k → k ≤ length p → goal G (stands_on G s (take k p)) ≡ true → reaches G s p ≡ true
  unfolding reaches run
  beginning_reaches s p zero z l g = absurd (let z : ⊥ = omega arith in z)
  beginning_reaches s [] (suc k) z l g = absurd (let z : ⊥ = omega arith in z)
  beginning_reaches s (a ∷ p) (suc zero) z l g = rw g
  beginning_reaches s (a ∷ p) (suc (suc k)) z l g =
      rw (beginning_reaches (entered G s a) p (suc k) (omega arith) (omega arith) g) (or_true (goal G (entered G s a)))

-- ---- steps that pass a test

-- a row of a play is a row of a longer one
pub row_later : (c : ℕ → Bool) (k : ℕ) (u p : List Step) → InRow c k p → InRow c k (u ++ p)
row_later c k u p r =
    record {
      before = u ++ r.before;
      row = r.row;
      rest = r.rest;
      whole = ap (λ (q : List Step). u ++ q) r.whole ∙ sym (append_assoc u r.before (r.row ++ r.rest));
      long = r.long;
      all = r.all;
    }

pub row_first : (c : ℕ → Bool) (k : ℕ) (u p : List Step) → length u ≡ k → Every c u → InRow c k (u ++ p)
row_first c k u p l e = record { before = []; row = u; rest = p; whole = refl; long = l; all = e }

-- the steps of two plays, one after the other, are counted one by one
pub count_append : (c : ℕ → Bool) (u p : List Step) → count c (u ++ p) ≡ count c u + count c p
unfolding count
count_append c [] p = omega arith
count_append c (a ∷ u) p =
    let ih = count_append c u p in
    on (c a.input) (λ e. rw e (omega arith)) (λ e. rw e (omega arith))

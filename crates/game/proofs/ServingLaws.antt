-- Laws of the test on one step: what it is where the code asks, and what it means for each player.
-- Assumes nothing.
use Rattle.std.proofs.Common.{◌≡◌, ℕ, ◌<◌, Bool, true, false, cond, not, ◌||◌, ◌⊎◌, get_or, sym, refl, ⊎_elim, eq-eqb, ne_eqb}
use mathlib.Core.Bool.{beq}
use Rattle.plays.specs.Arena.{Arena, next, goal, holds}
use Rattle.plays.specs.inner.Rank.{Forces}
use Rattle.game.specs.inner.Serving.{serving_at, IsUnserved, AllServed}
use Rattle.game.specs.inner.Rounds.{Favorable}
use Rattle.reader.proofs.BoolLaws.{clash, not_true→, or_left, or_right}

-- a disjunction that is true, by its left part
or_first : (a b : Bool) → (a || b) ≡ true → (a ≡ true) ⊎ ((a ≡ false) × (b ≡ true))
or_first true b e = ◌⊎◌.inl refl
or_first false b e = ◌⊎◌.inr (refl, e)

-- a value by its opposite
pub swap_not : (a b : Bool) → a ≡ not b → b ≡ not a
swap_not a true e = rw e
swap_not a false e = rw e

-- the test, by the order in which the code asks
module _ (G : Arena) (won safe : ℕ → Bool) (x t : ℕ) where
  pub at_goal : (get_or G.accepting t 0 ≡ 0 → ⊥) → serving_at G won safe x t ≡ true
  unfolding serving_at goal
  at_goal m = rw (ne_eqb (get_or G.accepting t 0) 0 m)

  pub at_condition : get_or G.accepting t 0 ≡ 0 → holds G x ≡ true → serving_at G won safe x t ≡ won t
  unfolding serving_at goal
  at_condition m h = rw (eq-eqb (get_or G.accepting t 0) 0 m, h)

  pub at_else : get_or G.accepting t 0 ≡ 0 → holds G x ≡ false → serving_at G won safe x t ≡ safe t
  unfolding serving_at goal
  at_else m h = rw (eq-eqb (get_or G.accepting t 0) 0 m, h)

  -- what serves enters a goal, or else passes the look-up
  serves_by : serving_at G won safe x t ≡ true → (goal G t ≡ true) ⊎ ((goal G t ≡ false) × (cond (holds G x) (won t) (safe t) ≡ true))
  unfolding serving_at
  serves_by e = or_first (goal G t) (cond (holds G x) (won t) (safe t)) e

  -- what does not serve does neither
  fails_by : serving_at G won safe x t ≡ false → (goal G t ≡ false) × (cond (holds G x) (won t) (safe t) ≡ false)
  unfolding serving_at
  fails_by e = (or_left (goal G t) (cond (holds G x) (won t) (safe t)) e, or_right (goal G t) (cond (holds G x) (won t) (safe t)) e)

-- what is known of a state whose inputs are all served, and of an input that is not
module _ (G : Arena) (won safe : ℕ → Bool) (s : ℕ) where
  pub served_at : AllServed G won safe s → (x : ℕ) → x < G.inputs
      → (y : ℕ) × (y < G.outputs) × ((goal G (next G s x y) ≡ true)
      ⊎ ((goal G (next G s x y) ≡ false) × (cond (holds G x) (won (next G s x y)) (safe (next G s x y)) ≡ true)))
  served_at all x l =
      let w = all x l in
      (w.0, w.1, serves_by G won safe x (next G s x w.0) w.2)

  pub unserved_at : (x : ℕ) → IsUnserved G won safe s x → (y : ℕ) → y < G.outputs
      → (goal G (next G s x y) ≡ false) × (cond (holds G x) (won (next G s x y)) (safe (next G s x y)) ≡ false)
  unserved_at x u y l = fails_by G won safe x (next G s x y) (u y l)

-- the passes take for safe what is not lost, and nothing is both won and lost
not_lost : (b : Bool) → beq b false ≡ true → b ≡ false
not_lost true e = sym e
not_lost false e = refl

is_lost : (b : Bool) → beq b false ≡ false → b ≡ true
is_lost true e = refl
is_lost false e = absurd (mathlib.Core.Bool.true≢false e)

not_won : (w l : Bool) → (w ≡ true → l ≡ false) → l ≡ true → w ≡ false
not_won true l apart e = clash l e (apart refl)
not_won false l apart e = refl

-- the look-up where the input has the condition, and where it lacks it: for the system
looked_favorable : (h w l : Bool) → (w ≡ true → l ≡ false) → cond h w (beq l false) ≡ true → (l ≡ false) × (h ≡ true → w ≡ true)
looked_favorable true w l apart e = (apart e, λ _. e)
looked_favorable false w l apart e = (not_lost l e, λ z. absurd (mathlib.Core.Bool.false≢true z))

-- and for the environment: won and lost change places
looked_unfavorable : (h w l : Bool) → (w ≡ true → l ≡ false) → cond h w (beq l false) ≡ false → (w ≡ false) × (h ≡ false → l ≡ true)
looked_unfavorable true w l apart e = (e, λ z. absurd (mathlib.Core.Bool.true≢false z))
looked_unfavorable false w l apart e = let d = is_lost l e in (not_won w l apart d, λ _. d)

module _ (G : Arena) {won lost : ℕ → Bool} (s : ℕ) (apart : (t : ℕ) → won t ≡ true → lost t ≡ false) where
  pub all_served : AllServed G won (λ t. beq (lost t) false) s → Forces G true s (Favorable G true won lost)
  all_served all x l =
      let w = served_at G won (λ t. beq (lost t) false) s all x l in
      let t = next G s x w.0 in
      (w.0, w.1, ⊎_elim (λ g. ◌⊎◌.inl g) (λ d. ◌⊎◌.inr (looked_favorable (holds G x) (won t) (lost t) (apart t) d.1)) w.2)

  pub one_unserved : (x : ℕ) → x < G.inputs → IsUnserved G won (λ t. beq (lost t) false) s x → Forces G false s (Favorable G false lost won)
  one_unserved x h u = (
    x,
    h,
    λ y l.
        let t = next G s x y in
        let w = unserved_at G won (λ t. beq (lost t) false) s x u y l in
        let d = looked_unfavorable (holds G x) (won t) (lost t) (apart t) w.1 in
        (w.0, (d.0, λ j. d.1 (not_true→ (holds G x) j))),
  )

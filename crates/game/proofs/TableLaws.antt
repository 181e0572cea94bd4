-- From ranks to bytes: a rank below the limit is one that the ranks allow, and a list that is filled from the front, byte by byte.
-- Assumes nothing.
use Rattle.std.proofs.Common.{Option, Some, None, ◌≡◌, ℕ, ◌+◌, ◌<◌, ◌≤◌, Bool, true, false, not, ◌||◌, eqb, leb, ◌⊎◌}
use Rattle.std.proofs.Common.{List, length, get_or, set, sym, refl, ◌∙◌, subst}
use Rattle.std.proofs.Common.{⊎_elim, arith, get_or-set_other, get_or-set_same, eq-eqb, ne_eqb, eqb-true, leb-false, leb-true}
use Rattle.std.proofs.Math.Logic.{∥∥₁_elim}
use Rattle.std.specs.Option.{is_some}
use borrow.Author.Tests.{eqb-false}
use Rattle.plays.specs.Arena.{Arena, next, goal, holds, lacks}
use Rattle.plays.specs.inner.Rank.{judged, Safe, Falls, Ranked, AllowedOutput, AllowedInput}
use Rattle.game.specs.inner.Bytes.{limit_of, is_below, stops_at, FirstStop, Move, move_byte, EnvironmentByte}
use Rattle.game.proofs.ForcingLaws.{safe_map}
use Rattle.reader.proofs.BoolLaws.{on, clash, or_left, or_right, or_cases, or_true, and_true, and_cases, not_true→, not_false→}

-- a rank that is at most the limit
abbrev Below : List ℕ → ℕ → ℕ → Type 0
Below r limit t = (0 < get_or r t 0) × (get_or r t 0 ≤ limit)

below_true : (r : List ℕ) (limit t : ℕ) → is_below r limit t ≡ true → Below r limit t
below_true r limit t e =
    let w = and_true (leb 1 (get_or r t 0)) (leb (get_or r t 0) limit) e in
    (leb-true 1 (get_or r t 0) w.0, leb-true (get_or r t 0) limit w.1)

below_false : (r : List ℕ) (limit t : ℕ) → is_below r limit t ≡ false → Below r limit t → ⊥
below_false r limit t e h =
    ⊎_elim
    (λ w. omega (arith, leb-false 1 (get_or r t 0) w, h.0))
    (λ w. omega (arith, leb-false (get_or r t 0) limit w, h.1))
    (and_cases (leb 1 (get_or r t 0)) (leb (get_or r t 0) limit) e)

-- what is tested of the state t that the code entered, said of the next state
module _ (G : Arena) (p : ℕ → Bool) (s x y t : ℕ) (is : t ≡ next G s x y) where
  pub stops_at_goal : (get_or G.accepting t 0 ≡ 0 → ⊥) → stops_at G p s x y ≡ true
  unfolding goal
  stops_at_goal h = subst (λ (u : ℕ). (not (eqb (get_or G.accepting u 0) 0) || p u) ≡ true) is (rw (ne_eqb (get_or G.accepting t 0) 0 h))

  pub stops_at_state : p t ≡ true → stops_at G p s x y ≡ true
  stops_at_state h = subst (λ (u : ℕ). (goal G u || p u) ≡ true) is (rw h (or_true (goal G t)))

  pub goes_on : get_or G.accepting t 0 ≡ 0 → p t ≡ false → stops_at G p s x y ≡ false
  unfolding goal
  goes_on h e = subst (λ (u : ℕ). (not (eqb (get_or G.accepting u 0) 0) || p u) ≡ false) is (rw (eq-eqb (get_or G.accepting t 0) 0 h, e))

-- a rank falls as it should exactly when it is below the limit, which is that of the input
module _ (G : Arena) (player steady : Bool) (most : ℕ) (r : List ℕ) (s x t : ℕ) where
  falls_limit : (b : Bool) → b ≡ judged G player x → Falls G player steady most r s x t → Below r (limit_of steady most b (get_or r s 0)) t
  falls_limit true e d = (d.0, omega (arith, d.1 (sym e)))
  falls_limit false e d = (d.0, d.2 (sym e))

  limit_falls : (b : Bool) → b ≡ judged G player x → Below r (limit_of steady most b (get_or r s 0)) t → Falls G player steady most r s x t
  limit_falls true e d = (d.0, (λ _. omega (arith, d.0, d.1)), (λ h. absurd (mathlib.Core.Bool.true≢false (e ∙ h))))
  limit_falls false e d = (d.0, (λ h. absurd (mathlib.Core.Bool.false≢true (e ∙ h))), (λ _. d.1))

-- the same on the state that a step enters, for either player
module _ (G : Arena) (player steady : Bool) (most : ℕ) (r : List ℕ) (s x : ℕ) (b : Bool) (eb : b ≡ judged G player x)
    (limit : ℕ) (el : limit ≡ limit_of steady most b (get_or r s 0)) where
  safe_limit : (t : ℕ) → Safe G player t (Falls G player steady most r s x t) → Safe G player t (Below r limit t)
  safe_limit t = safe_map G player t (λ d. subst (λ (m : ℕ). Below r m t) (sym el) (falls_limit G player steady most r s x t b eb d))

  limit_safe : (t : ℕ) → Safe G player t (Below r limit t) → Safe G player t (Falls G player steady most r s x t)
  limit_safe t = safe_map G player t (λ d. limit_falls G player steady most r s x t b eb (subst (λ (m : ℕ). Below r m t) el d))

-- the system: a search that stops at ranks within the limit ends at the lowest output that the ranks allow
module _ (fair : Bool) (G : Arena) (most : ℕ) (r : List ℕ) (s x limit : ℕ) (el : limit ≡ limit_of fair most (holds G x) (get_or r s 0)) where
  output_good : (y : ℕ) → stops_at G (is_below r limit) s x y ≡ true → Safe G true (next G s x y) (Falls G true fair most r s x (next G s x y))
  output_good y e =
      limit_safe G true fair most r s x (holds G x) refl limit el (next G s x y)
      (⊎_elim ◌⊎◌.inl (λ w. ◌⊎◌.inr (below_true r limit (next G s x y) w))
      (or_cases (goal G (next G s x y)) (is_below r limit (next G s x y)) e))

  output_bad : (y : ℕ) → stops_at G (is_below r limit) s x y ≡ false → AllowedOutput fair G most r s x y → ⊥
  output_bad y e a =
      ⊎_elim
      (λ w. clash (goal G (next G s x y)) w (or_left (goal G (next G s x y)) (is_below r limit (next G s x y)) e))
      (below_false r limit (next G s x y) (or_right (goal G (next G s x y)) (is_below r limit (next G s x y)) e))
      (safe_limit G true fair most r s x (holds G x) refl limit el (next G s x y) a.1)

  pub output_move : 0 < get_or r s 0 → x < G.inputs → ∥ Ranked G true fair most r ∥₁ → (m : Option ℕ) → FirstStop G (is_below r limit) s x m
      → Move r s (AllowedOutput fair G most r s x) m
  output_move p hx ranked (Some k) f = (p, record { has = (f.0, output_good k f.2); lowest = λ y l. output_bad y (f.1 y l) })
  output_move p hx ranked None f =
      absurd (∥∥₁_elim ranked (λ a b. absurd a) (λ h. let w = h.forced s p x hx in output_bad w.0 (f w.0 w.1) (w.1, w.2)))

-- the environment: an input is allowed exactly where a search that stops at all other states finds no output
module _ (fair : Bool) (G : Arena) (r : List ℕ) (s x limit : ℕ) (el : limit ≡ limit_of (not fair) G.states (lacks G x) (get_or r s 0)) where
  abbrev outside : ℕ → Bool
  outside t = not (is_below r limit t)

  pub input_allowed : x < G.inputs → (m : Option ℕ) → is_some m ≡ false → FirstStop G outside s x m → AllowedInput fair G r s x
  input_allowed hx (Some k) e f = absurd (mathlib.Core.Bool.true≢false e)
  input_allowed hx None e f = (
    hx,
    (λ y l.
        limit_safe G false (not fair) G.states r s x (lacks G x) refl limit el (next G s x y) (
          or_left (goal G (next G s x y)) (outside (next G s x y)) (f y l),
          below_true r limit (next G s x y)
              (not_false→ (is_below r limit (next G s x y)) (or_right (goal G (next G s x y)) (outside (next G s x y)) (f y l))),
        )),
  )

  pub input_refused : (m : Option ℕ) → is_some m ≡ true → FirstStop G outside s x m → AllowedInput fair G r s x → ⊥
  input_refused (Some k) e f a =
      let d = safe_limit G false (not fair) G.states r s x (lacks G x) refl limit el (next G s x k) (a.1 k f.0) in
      ⊎_elim
      (λ w. clash (goal G (next G s x k)) w d.0)
      (λ w. below_false r limit (next G s x k) (not_true→ (is_below r limit (next G s x k)) w) d.1)
      (or_cases (goal G (next G s x k)) (outside (next G s x k)) f.2)
  input_refused None e f a = absurd (mathlib.Core.Bool.false≢true e)

-- the moves as bytes
pub environment_move : {fair : Bool} {G : Arena} {r : List ℕ} {s : ℕ} (m : Option ℕ) → Move r s (AllowedInput fair G r s) m
    → EnvironmentByte fair G r s (move_byte m)
environment_move (Some k) h = record { none = λ e. let z : ⊥ = omega (arith, h.0) in absurd z; lowest = λ _. h.1 }
environment_move None h = record { none = λ _. refl; lowest = λ p. let z : ⊥ = omega arith in absurd z }

-- a list that is filled from the front, by a rule for each index
module _ (P : ℕ → ℕ → Type 0) (l₀ l : List ℕ) (i v : ℕ) (h : i < length l) where
  pub fill_below : ((k : ℕ) → k < i → P k (get_or l k 0)) → P i v → (k : ℕ) → k < i + 1 → P k (get_or (set l i v) k 0)
  fill_below below here k lt =
      on (eqb k i)
      (λ e. let q = eqb-true k i e in
      subst (λ (j : ℕ). P j (get_or (set l i v) j 0)) (sym q) (subst (λ (w : ℕ). P i w) (sym (get_or-set_same l i v 0 h)) here))
      (λ e. let d = eqb-false k i e in
      subst (λ (w : ℕ). P k w) (sym (get_or-set_other l i k v 0 d)) (below k (let q : k < i = omega arith in q)))

  pub fill_rest : ((k : ℕ) → i ≤ k → get_or l k 0 ≡ get_or l₀ k 0) → (k : ℕ) → i + 1 ≤ k → get_or (set l i v) k 0 ≡ get_or l₀ k 0
  fill_rest rest k le = get_or-set_other l i k v 0 (λ e. let z : ⊥ = omega arith in z) ∙ rest k (let q : i ≤ k = omega arith in q)

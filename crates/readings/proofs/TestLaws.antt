-- From the test (proofs/Test.antt) to the verdict: the test, computed on the lists of the definitions, holds on any lists that hold the same automaton;
-- there the ranks are those of plays' proofs/RankLaws, by which the table wins every play, and so keeps the rule. By the inputs the system is beaten with every
-- smaller number, so that the number is the round number (plays' proofs/RoundLaws).
-- Assumes nothing.
use Prim.Native.Nat.{ℕ, zero, suc, ◌*◌, ◌^◌, ◌≤◌, ◌<◌}
use mathlib.Core.Path.{◌≡◌, sym, ap, ap₂, ◌∙◌, subst, subst₂}
use mathlib.Core.Bool.{Bool, true, false, not, ◌&&◌, ◌||◌}
use mathlib.Core.List.{List, [], ◌∷◌}
use mathlib.Core.Logic.{◌⊎◌, ⊎_elim}
use native.Mathlib.Nat.{not-suc-le-zero}
use native.Mathlib.Omega.{arith}
use borrow.Author.Count.{below_more}
use borrow.Author.Tests.{ltb-true, leb-true, eqb-true, ltb-false}
use lib.Dec.{eqb, ltb, leb}
use lib.ListN.{length, get_or, get_or-eq_default}
use lib.Pow.{pow-add, pow_pos}
use Rattle.plays.specs.declared.mode.Mode.{Mode}
use Rattle.reader.specs.Formula.{Formula}
use Rattle.reader.proofs.BoolLaws.{on, and_true, or_cases, not_true→}
use Rattle.automaton.specs.Alphabet.{letter_of, letter_count}
use Rattle.automaton.specs.Bits.{bit}
use Rattle.automaton.specs.Automaton.{Automaton}
use Rattle.plays.specs.Arena.{Arena, arena, next, goal, holds}
use Rattle.plays.specs.inner.Rank.{mode_of, judged, cap, Safe, Falls, AllowedOutput, AllowedInput}
use Rattle.plays.specs.inner.Beaten.{left, Beaten, over, forced}
use Rattle.plays.specs.Strategy.{system_byte, environment_byte, SystemWins, EnvironmentWins}
use Rattle.plays.specs.Round.{Reaching, RoundNumber}
use Rattle.game.proofs.IndexLaws.{letter_below}
use Rattle.plays.proofs.RankLaws.{system_wins, environment_wins}
use Rattle.plays.proofs.BeatenLaws.{beaten_limit}
use Rattle.plays.proofs.RoundLaws.{round_number, no_round}
use Rattle.game.proofs.RuleLaws.{can_keep, cannot_keep, round_keep}
use Rattle.readings.specs.Row.{VerdictOn}
use Rattle.readings.proofs.Test.{below, falls_of, step_of, output_of, input_of, bytes_of, state_of, wins_of, beaten_of, round_of}
use Rattle.machine.proofs.OneAutomaton.{one_move, one_flag}

-- ---- each test says what it is named for

pub below_at : (f : ℕ → Bool) (n : ℕ) → below f n ≡ true → (k : ℕ) → k < n → f k ≡ true
unfolding below
below_at f zero e k h = absurd (not-suc-le-zero h)
below_at f (suc n) e k h =
    let w = and_true (f n) (below f n) e in
    below_more (λ (j : ℕ). f j ≡ true) n (below_at f n w.1) w.0 k (omega arith)

if_true : (a b : Bool) → (not a || b) ≡ true → a ≡ true → b ≡ true
if_true true b e h = e
if_true false b e h = absurd (mathlib.Core.Bool.false≢true h)

-- a rank up to `most` is within the cap
capped : (steady : Bool) (most rank own : ℕ) → rank ≤ most → (not steady || leb rank own) ≡ true → rank ≤ cap steady most own
capped true most rank own b e = leb-true rank own e
capped false most rank own b e = b

falls_true : (G : Arena) (player steady : Bool) (most : ℕ) (r : List ℕ) (s x t : ℕ) → get_or r t 0 ≤ most
    → falls_of (judged G player x) steady (get_or r t 0) (get_or r s 0) ≡ true → Falls G player steady most r s x t
falls_true G player steady most r s x t b e =
    let j = judged G player x in
    let lower = ltb (get_or r t 0) (get_or r s 0) in
    let steadily = leb (get_or r t 0) (get_or r s 0) in
    let u = and_true (ltb 0 (get_or r t 0)) ((not j || lower) && (not steady || steadily)) e in
    let w = and_true (not j || lower) (not steady || steadily) u.1 in (
      ltb-true 0 (get_or r t 0) u.0,
      (λ h. ltb-true (get_or r t 0) (get_or r s 0) (if_true j lower w.0 h)),
      (λ _. capped steady most (get_or r t 0) (get_or r s 0) b w.1),
    )

step_true : (G : Arena) (player steady : Bool) (most : ℕ) (r : List ℕ) (s x t : ℕ) → get_or r t 0 ≤ most → step_of G player steady r s x t ≡ true
    → Safe G player t (Falls G player steady most r s x t)
unfolding step_of
step_true G true steady most r s x t b e =
    ⊎_elim (λ g. ◌⊎◌.inl g) (λ d. ◌⊎◌.inr (falls_true G true steady most r s x t b d))
    (or_cases (goal G t) (falls_of (holds G x) steady (get_or r t 0) (get_or r s 0)) e)
step_true G false steady most r s x t b e =
    let w = and_true (not (goal G t)) (falls_of (not (holds G x)) steady (get_or r t 0) (get_or r s 0)) e in
    (not_true→ (goal G t) w.0, falls_true G false steady most r s x t b w.1)

-- the winner's table wins from s: the environment's with the round number 0, else the system's, with this number
abbrev pub WinsFrom : ℕ → Mode → Arena → List ℕ → ℕ → Type 0
WinsFrom zero mode G table s = EnvironmentWins mode G table s
WinsFrom (suc k) mode G table s = SystemWins mode G (suc k) table s

-- ---- the test on one arena, used on another that holds the same automaton, and whose mask judges alike

module _ (i o : ℕ) (φ : Formula) (n mask₀ mask : ℕ) (t₀ f₀ t f : List ℕ) (A₀ : Automaton φ (letter_count i o) n t₀ f₀)
    (A : Automaton φ (letter_count i o) n t f)
    (judge : (x : ℕ) → x < 2 ^ i → bit mask x ≡ bit mask₀ x) where
  abbrev G₀ : Arena
  G₀ = arena i o n t₀ f₀ mask₀

  abbrev G : Arena
  G = arena i o n t f mask

  -- the letters, counted as pairs of an input and an output
  on_product : (t' f' : List ℕ) → Automaton φ (letter_count i o) n t' f' → Automaton φ (2 ^ i * 2 ^ o) n t' f'
  on_product t' f' B = subst (λ (L : ℕ). Automaton φ L n t' f') (pow-add 2 i o) B

  pub next_same : (s x y : ℕ) → s < n → x < 2 ^ i → y < 2 ^ o → (next G₀ s x y < n) × (next G s x y ≡ next G₀ s x y)
  unfolding next
  next_same s x y hs hx hy =
      let a : ℕ = letter_of (2 ^ i) x y in
      let h : a < 2 ^ i * 2 ^ o = letter_below (2 ^ i) (2 ^ o) x y hx hy in
      (((on_product t₀ f₀ A₀).moved s a hs h).0, one_move (on_product t f A) (on_product t₀ f₀ A₀) s a hs h)

  step_equal : (player steady : Bool) (r : List ℕ) (s x u : ℕ) → x < 2 ^ i → u < n → step_of G player steady r s x u ≡ step_of G₀ player steady r s x u
  unfolding step_of goal holds
  step_equal true steady r s x u hx hu =
      ap₂ (λ (k : ℕ) (b : Bool). not (eqb k 0) || falls_of b steady (get_or r u 0) (get_or r s 0)) (one_flag A A₀ u hu) (judge x hx)
  step_equal false steady r s x u hx hu =
      ap₂ (λ (k : ℕ) (b : Bool). not (not (eqb k 0)) && falls_of (not b) steady (get_or r u 0) (get_or r s 0)) (one_flag A A₀ u hu) (judge x hx)

  step_same : (player steady : Bool) (most : ℕ) (r : List ℕ) → ((t : ℕ) → get_or r t 0 ≤ most) → (s x y : ℕ) → s < n → x < 2 ^ i → y < 2 ^ o
      → step_of G₀ player steady r s x (next G₀ s x y) ≡ true → Safe G player (next G s x y) (Falls G player steady most r s x (next G s x y))
  step_same player steady most r bounds s x y hs hx hy e =
      let w = next_same s x y hs hx hy in
      subst (λ (u : ℕ). Safe G player u (Falls G player steady most r s x u)) (sym w.1)
      (step_true G player steady most r s x (next G₀ s x y) (bounds (next G₀ s x y)) (step_equal player steady r s x (next G₀ s x y) hx w.0 ∙ e))

  module _ (player fair : Bool) (most : ℕ) (table r : List ℕ) (passed : wins_of player fair G₀ most table r ≡ true) where
    -- only states have a rank, the start has one, and every state of the ranks is right
    parts : (length r ≤ n) × (0 < get_or r 0 0) × ((s : ℕ) → s < length r → state_of player fair G₀ most table r s ≡ true)
    unfolding wins_of
    parts =
        let u = and_true (leb (length r) n) (ltb 0 (get_or r 0 0) && below (state_of player fair G₀ most table r) (length r)) passed in
        let w = and_true (ltb 0 (get_or r 0 0)) (below (state_of player fair G₀ most table r) (length r)) u.1 in
        (leb-true (length r) n u.0, ltb-true 0 (get_or r 0 0) w.0, below_at (state_of player fair G₀ most table r) (length r) w.1)

    inside : (s : ℕ) → 0 < get_or r s 0 → s < length r
    inside s h =
        on (ltb s (length r)) (ltb-true s (length r))
        (λ e. absurd (let z : ⊥ = omega (arith, get_or-eq_default r 0 (ltb-false s (length r) e)) in z))

    bound : (s : ℕ) → get_or r s 0 ≤ most
    unfolding state_of
    bound s =
        on (ltb s (length r))
        (λ e.
        leb-true (get_or r s 0) most
        (and_true (leb (get_or r s 0) most) (eqb (get_or r s 0) 0 || bytes_of player fair G₀ table r s) (parts.2 s (ltb-true s (length r) e))).0)
        (λ e. omega (arith, get_or-eq_default r 0 (ltb-false s (length r) e)))

    bytes_right : (s : ℕ) → 0 < get_or r s 0 → bytes_of player fair G₀ table r s ≡ true
    unfolding state_of
    bytes_right s h =
        ⊎_elim
        (λ z. absurd (let z : ⊥ = omega (arith, eqb-true (get_or r s 0) 0 z) in z))
        (λ b. b)
        (or_cases (eqb (get_or r s 0) 0) (bytes_of player fair G₀ table r s)
        (and_true (leb (get_or r s 0) most) (eqb (get_or r s 0) 0 || bytes_of player fair G₀ table r s) (parts.2 s (inside s h))).1)

    state_below : (s : ℕ) → 0 < get_or r s 0 → s < n
    state_below s h = omega (arith, inside s h, parts.0)

  -- by the system's test it wins from every state that has a rank, with the largest of them
  system_won : (fair : Bool) (most : ℕ) (σ r : List ℕ) → wins_of true fair G₀ most σ r ≡ true → (s : ℕ) → 0 < get_or r s 0 → SystemWins (mode_of fair) G most σ s
  unfolding bytes_of output_of
  system_won fair most σ r e s = system_wins fair G σ most r allowed most s (bound true fair most σ r e s, (λ _. omega arith))
    where
      allowed : (s : ℕ) → 0 < get_or r s 0 → (x : ℕ) → x < 2 ^ i → AllowedOutput fair G most r s x (system_byte G σ s x)
      allowed s h x hx =
          let y = system_byte G₀ σ s x in
          let w =
          and_true (ltb y (2 ^ o)) (step_of G₀ true fair r s x (next G₀ s x y))
          (below_at (output_of fair G₀ σ r s) (2 ^ i) (bytes_right true fair most σ r e s h) x hx) in
          let hy = ltb-true y (2 ^ o) w.0 in
          (hy, step_same true fair most r (bound true fair most σ r e) s x y (state_below true fair most σ r e s h) hx hy w.1)

  -- and so does the environment by its own
  environment_won : (fair : Bool) (τ r : List ℕ) → wins_of false fair G₀ n τ r ≡ true → (s : ℕ) → 0 < get_or r s 0 → EnvironmentWins (mode_of fair) G τ s
  unfolding bytes_of input_of
  environment_won fair τ r e = environment_wins fair G τ r (bound false fair n τ r e) allowed
    where
      allowed : (s : ℕ) → 0 < get_or r s 0 → AllowedInput fair G r s (environment_byte τ s)
      allowed s h =
          let x = environment_byte τ s in
          let w = and_true (ltb x (2 ^ i)) (below (input_of fair G₀ τ r s) (2 ^ o)) (bytes_right false fair n τ r e s h) in
          let hx = ltb-true x (2 ^ i) w.0 in (
            hx,
            λ y hy. step_same false (not fair) n r (bound false fair n τ r e) s x y (state_below false fair n τ r e s h) hx hy
                (below_at (input_of fair G₀ τ r s) (2 ^ o) w.1 y hy),
          )

  -- the goals are the same
  goal_same : (u : ℕ) → u < n → goal G u ≡ goal G₀ u
  unfolding goal
  goal_same u hu = ap (λ (k : ℕ). not (eqb k 0)) (one_flag A A₀ u hu)

  -- the system is beaten by the inputs
  beaten_by : (fair : Bool) (m : ℕ) (xs : List ℕ) (s k : ℕ) → s < n → beaten_of fair G₀ m xs s k ≡ true → Beaten fair G m s k
  unfolding beaten_of holds
  beaten_by fair m [] s k hs e = over (eqb-true k 0 e)
  beaten_by fair m (x ∷ xs) s k hs e =
      let after : ℕ → Bool =
      λ y. not (goal G₀ (next G₀ s x y)) && beaten_of fair G₀ m xs (next G₀ s x y) (left fair m (holds G₀ x) k) in
      let w = and_true (ltb x (2 ^ i)) (below after (2 ^ o)) e in
      let hx = ltb-true x (2 ^ i) w.0 in
      let each : (y : ℕ) → y < 2 ^ o → (not (goal G₀ (next G₀ s x y)) ≡ true) × (beaten_of fair G₀ m xs (next G₀ s x y) (left fair m (holds G₀ x) k) ≡ true) =
      λ y hy.
      and_true (not (goal G₀ (next G₀ s x y))) (beaten_of fair G₀ m xs (next G₀ s x y) (left fair m (holds G₀ x) k)) (below_at after (2 ^ o) w.1 y hy) in
      forced x hx
      (λ y hy.
      let v = next_same s x y hs hx hy in
      ap (goal G) v.1 ∙ goal_same (next G₀ s x y) v.0 ∙ not_true→ (goal G₀ (next G₀ s x y)) (each y hy).0)
      (λ y hy.
      let v = next_same s x y hs hx hy in
      subst₂ (λ (u : ℕ) (h : Bool). Beaten fair G m u (left fair m h k)) (sym v.1) (sym (judge x hx))
      (beaten_by fair m xs (next G₀ s x y) (left fair m (holds G₀ x) k) v.0 (each y hy).1))

  module _ (fair : Bool) (table r inputs : List ℕ) where
    -- the start has a rank, and the winner wins from every state that has one
    pub won : (round : ℕ) → round_of round fair G₀ table r inputs ≡ true
        → (0 < get_or r 0 0) × ((s : ℕ) → 0 < get_or r s 0 → WinsFrom round (mode_of fair) G table s)
    unfolding round_of
    won zero e = ((parts false fair n table r e).1, environment_won fair table r e)
    won (suc k) e =
        let w = and_true (wins_of true fair G₀ (suc k) table r) (beaten_of fair G₀ k inputs 0 k) e in
        ((parts true fair (suc k) table r w.0).1, system_won fair (suc k) table r w.0)

    -- and the number is the round number
    pub numbered : (round : ℕ) → round_of round fair G₀ table r inputs ≡ true → RoundNumber (mode_of fair) G (Reaching G 0) round
    unfolding round_of
    numbered zero e = no_round (mode_of fair) G table 0 (environment_won fair table r e 0 (parts false fair n table r e).1)
    numbered (suc k) e =
        let w = and_true (wins_of true fair G₀ (suc k) table r) (beaten_of fair G₀ k inputs 0 k) e in
        let h = (parts true fair (suc k) table r w.0).1 in
        let b = beaten_by fair k inputs 0 k (state_below true fair (suc k) table r w.0 0 h) w.1 in
        round_number fair G table 0 (suc k) (omega arith) (pow_pos o) (system_won fair (suc k) table r w.0 0 h)
        (λ j l. beaten_limit fair G k 0 b j (omega arith))

-- the verdict of the player that wins from the start, with the game's round number, and what it promises of the rule
pub verdict :
    (i o : ℕ) (φ : Formula) (n mask : ℕ) (t f : List ℕ) → Automaton φ (letter_count i o) n t f → (round : ℕ) (mode : Mode) (table : List ℕ)
    → WinsFrom round mode (arena i o n t f mask) table 0 → RoundNumber mode (arena i o n t f mask) (Reaching (arena i o n t f mask) 0) round
    → VerdictOn round mode φ (arena i o n t f mask)
verdict i o φ n mask t f A zero mode table w d =
    record {
      can = λ h. absurd (let z : ⊥ = omega arith in z);
      cannot = λ _. (table, w, cannot_keep φ i o n t f mask A mode table w);
      round = round_keep φ i o n t f mask A mode 0 d;
    }
verdict i o φ n mask t f A (suc k) mode table w d =
    record {
      can = λ _. (table, w, can_keep φ i o n t f mask A mode (suc k) table w);
      cannot = λ e. absurd (let z : ⊥ = omega arith in z);
      round = round_keep φ i o n t f mask A mode (suc k) d;
    }

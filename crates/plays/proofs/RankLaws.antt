-- From ranks, which speak of one step, to strategies, which speak of every play: along a play that follows the ranks and enters no goal
-- the rank stays above 0, never grows where the ranks are steady, and falls at every judged input; so there are fewer of these than the first rank, where the
-- ranks are steady, and fewer in a row than the largest.
-- Assumes nothing.
use Prim.Native.Nat.{ℕ, ◌+◌, ◌<◌, ◌≤◌}
use mathlib.Core.Path.{◌≡◌, refl, sym, subst}
use mathlib.Core.Bool.{Bool, true, false, not}
use mathlib.Core.List.{List, [], ◌∷◌, ◌++◌}
use mathlib.Core.Logic.{◌⊎◌, ⊎_elim}
use native.Mathlib.Omega.{arith}
use lib.ListN.{length, get_or}
use Rattle.machine.specs.Run.{run}
use Rattle.plays.specs.Arena.{Arena, next, goal}
use Rattle.plays.specs.Play.{Step, entered, stands_on, reaches, Along, count, Every, InRow}
use Rattle.plays.specs.Strategy.{system_byte, environment_byte, BySystem, ByEnvironment, Assumed, Failed, SystemWins, EnvironmentWins}
use Rattle.plays.specs.inner.Rank.{mode_of, judged, cap, Safe, Falls, AllowedOutput, AllowedInput}
use Rattle.reader.proofs.BoolLaws.{decided, clash, not_false_is_true}
use Rattle.plays.proofs.PlayLaws.{along_left, along_right, first_avoids, others_avoid, avoids_left, avoids_right}

-- n inputs of the play pass c: in all where `steady`, and else in a row
abbrev Often : Bool → (ℕ → Bool) → ℕ → List Step → Type 0
Often true c n p = n ≤ count c p
Often false c n p = InRow c n p

often_cases : (steady : Bool) (c : ℕ → Bool) (n : ℕ) (p : List Step) → Often steady c n p
    → ((steady ≡ true) × (n ≤ count c p)) ⊎ ((steady ≡ false) × InRow c n p)
often_cases true c n p h = ◌⊎◌.inl (refl, h)
often_cases false c n p h = ◌⊎◌.inr (refl, h)

-- what the ranks have to be for the number n from state s: the state's own at most n and, where they are not steady, the cap
abbrev pub Within : (steady : Bool) (most : ℕ) (r : List ℕ) (n s : ℕ) → Type 0
Within steady most r n s = (get_or r s 0 ≤ n) × (steady ≡ false → most ≤ n)

-- a cap is within n where the rank is
cap_within : (steady : Bool) (most own n : ℕ) → own ≤ n → (steady ≡ false → most ≤ n) → cap steady most own ≤ n
cap_within true most own n l h = l
cap_within false most own n l h = h refl

cap_steady : (steady : Bool) (most own : ℕ) → steady ≡ true → cap steady most own ≡ own
cap_steady true most own e = refl
cap_steady false most own e = absurd (mathlib.Core.Bool.false≢true e)

-- Steps that R allows go down the player's ranks r.
module _ (G : Arena) (R : ℕ → Step → Type 0) (player steady : Bool) (most : ℕ) (r : List ℕ)
    (falls : (s : ℕ) (a : Step) → 0 < get_or r s 0 → R s a → goal G (entered G s a) ≡ false
    → Falls G player steady most r s a.input (entered G s a)) where
  -- a play that reaches no goal stands on a state with a rank
  pub stays : (s : ℕ) (p : List Step) → 0 < get_or r s 0 → Along G R s p → reaches G s p ≡ false → 0 < get_or r (stands_on G s p) 0
  unfolding Along run
  stays s [] w h e = w
  stays s (a ∷ p) w h e =
      stays (entered G s a) p (falls s a w h.0 (first_avoids G s a p e)).0 h.1 (others_avoid G s a p e)

  -- steps all of which are judged take at least as much off the rank as they are many
  pub row_falls : (s : ℕ) (p : List Step) → 0 < get_or r s 0 → Along G R s p → reaches G s p ≡ false → Every (judged G player) p
      → length p + get_or r (stands_on G s p) 0 ≤ get_or r s 0
  unfolding Along run Every
  row_falls s [] w h e v = omega arith
  row_falls s (a ∷ p) w h e v =
      let d = falls s a w h.0 (first_avoids G s a p e) in
      let rest = row_falls (entered G s a) p d.0 h.1 (others_avoid G s a p e) v.1 in
      omega (arith, rest, d.1 v.0)

  -- and so do the judged ones among others, where the ranks are steady
  pub count_falls : steady ≡ true → (s : ℕ) (p : List Step) → 0 < get_or r s 0 → Along G R s p → reaches G s p ≡ false
      → count (judged G player) p + get_or r (stands_on G s p) 0 ≤ get_or r s 0
  unfolding Along run count
  count_falls t s [] w h e = omega arith
  count_falls t s (a ∷ p) w h e =
      let d = falls s a w h.0 (first_avoids G s a p e) in
      let rest = count_falls t (entered G s a) p d.0 h.1 (others_avoid G s a p e) in
      ⊎_elim
      (λ j. rw j (omega (arith, rest, d.1 j)))
      (λ j. rw j (omega (arith, rest, d.2 j, cap_steady steady most (get_or r s 0) t)))
      (decided (judged G player a.input))

  -- the rank of a state on the way stays within n, where the first one and the cap are
  stays_within : (n s : ℕ) (p : List Step) → Within steady most r n s → 0 < get_or r s 0 → Along G R s p → reaches G s p ≡ false
      → get_or r (stands_on G s p) 0 ≤ n
  unfolding Along run
  stays_within n s [] b w h e = b.0
  stays_within n s (a ∷ p) b w h e =
      let d = falls s a w h.0 (first_avoids G s a p e) in
      let l : get_or r (entered G s a) 0 ≤ n =
      ⊎_elim (λ j. omega (arith, d.1 j, b.0)) (λ j. omega (arith, d.2 j, cap_within steady most (get_or r s 0) n b.0 b.1))
      (decided (judged G player a.input)) in
      stays_within n (entered G s a) p (l, b.1) d.0 h.1 (others_avoid G s a p e)

  -- no play that reaches no goal has n judged inputs in a row, where the first rank and the cap are within n
  no_row : (n s : ℕ) (p : List Step) → Within steady most r n s → 0 < get_or r s 0 → Along G R s p → reaches G s p ≡ false
      → InRow (judged G player) n p → ⊥
  no_row n s p bound w h e v =
      let h' : Along G R s (v.before ++ (v.row ++ v.rest)) = subst (λ q. Along G R s q) v.whole h in
      let e' : reaches G s (v.before ++ (v.row ++ v.rest)) ≡ false = subst (λ q. reaches G s q ≡ false) v.whole e in
      let s₁ : ℕ = stands_on G s v.before in
      let h₀ = along_left G R s v.before (v.row ++ v.rest) h' in
      let e₀ = avoids_left G s v.before (v.row ++ v.rest) e' in
      let w₁ = stays s v.before w h₀ e₀ in
      let h₁ = along_left G R s₁ v.row v.rest (along_right G R s v.before (v.row ++ v.rest) h') in
      let e₁ = avoids_left G s₁ v.row v.rest (avoids_right G s v.before (v.row ++ v.rest) e') in
      omega (arith, row_falls s₁ v.row w₁ h₁ e₁ v.all, stays_within n s v.before bound w h₀ e₀, stays s₁ v.row w₁ h₁ e₁, v.long)

  -- no play that reaches no goal has n judged inputs, in all where the ranks are steady, and else in a row
  not_often : (n s : ℕ) (p : List Step) → Within steady most r n s → 0 < get_or r s 0 → Along G R s p → reaches G s p ≡ false
      → Often steady (judged G player) n p → ⊥
  not_often n s p bound w h e o =
      ⊎_elim
      (λ q. omega (arith, count_falls q.0 s p w h e, q.1, bound.0, stays s p w h e))
      (λ q. no_row n s p bound w h e q.1)
      (often_cases steady (judged G player) n p o)

-- what a mode says of a play, the condition come n times and the assumption failed, in terms of judged inputs
assumed_often : (fair : Bool) (G : Arena) (n : ℕ) (p : List Step) → Assumed (mode_of fair) G n p → Often fair (judged G true) n p
assumed_often true G n p h = h
assumed_often false G n p h = h

failed_often : (fair : Bool) (G : Arena) (p : List Step) → Failed (mode_of fair) G p → Often (not fair) (judged G false) G.states p
failed_often true G p h = h
failed_often false G p h = h

no_goal : {D : Type 0} (b : Bool) → b ≡ false → (b ≡ true) ⊎ D → D
no_goal b e (◌⊎◌.inl t) = clash b t e
no_goal b e (◌⊎◌.inr d) = d

-- the system's table holds an output that the ranks allow for each state with a rank
module _ (fair : Bool) (G : Arena) (σ : List ℕ) (most : ℕ) (r : List ℕ)
    (allowed : (s : ℕ) → 0 < get_or r s 0 → (x : ℕ) → x < G.inputs → AllowedOutput fair G most r s x (system_byte G σ s x)) where
  system_falls : (s : ℕ) (a : Step) → 0 < get_or r s 0 → BySystem G σ s a → goal G (entered G s a) ≡ false
      → Falls G true fair most r s a.input (entered G s a)
  system_falls s a w h e =
      no_goal (goal G (entered G s a)) e
      (subst (λ (y : ℕ). Safe G true (next G s a.input y) (Falls G true fair most r s a.input (next G s a.input y))) (sym h.1)
      (allowed s w a.input h.0.0).1)

  pub system_wins : (n s : ℕ) → Within fair most r n s → 0 < get_or r s 0 → SystemWins (mode_of fair) G n σ s
  system_wins n s bound w =
      record {
        reaching = λ p h o. not_false_is_true (reaches G s p)
            (λ e. not_often G (BySystem G σ) true fair most r system_falls n s p bound w h e (assumed_often fair G n p o));
        answers = λ p h e x l. (allowed (stands_on G s p) (stays G (BySystem G σ) true fair most r system_falls s p w h e) x l).0;
      }

-- the environment's table holds an input that the ranks allow for each state with a rank
module _ (fair : Bool) (G : Arena) (τ r : List ℕ) (bound : (s : ℕ) → get_or r s 0 ≤ G.states)
    (allowed : (s : ℕ) → 0 < get_or r s 0 → AllowedInput fair G r s (environment_byte τ s)) where
  environment_step : (s : ℕ) (a : Step) → 0 < get_or r s 0 → ByEnvironment G τ s a
      → Safe G false (entered G s a) (Falls G false (not fair) G.states r s a.input (entered G s a))
  environment_step s a w h =
      subst (λ (x : ℕ). Safe G false (next G s x a.output) (Falls G false (not fair) G.states r s x (next G s x a.output))) (sym h.1)
      ((allowed s w).1 a.output h.0.1)

  avoids : (s : ℕ) (p : List Step) → 0 < get_or r s 0 → Along G (ByEnvironment G τ) s p → reaches G s p ≡ false
  unfolding reaches Along
  avoids s [] w h = refl
  avoids s (a ∷ p) w h = let d = environment_step s a w h.0 in rw d.0 (avoids (entered G s a) p d.1.0 h.1)

  environment_falls : (s : ℕ) (a : Step) → 0 < get_or r s 0 → ByEnvironment G τ s a → goal G (entered G s a) ≡ false
      → Falls G false (not fair) G.states r s a.input (entered G s a)
  environment_falls s a w h e = (environment_step s a w h).1

  pub environment_wins : (s : ℕ) → 0 < get_or r s 0 → EnvironmentWins (mode_of fair) G τ s
  environment_wins s w =
      record {
        avoiding = λ p h. avoids s p w h;
        keeping = λ p h o. not_often G (ByEnvironment G τ) false (not fair) G.states r environment_falls G.states s p
            (bound s, (λ _. omega arith)) w h (avoids s p w h) (failed_often fair G p o);
        answers = λ p h. (allowed (stands_on G s p) (stays G (ByEnvironment G τ) false (not fair) G.states r environment_falls s p w h (avoids s p w h))).0;
      }

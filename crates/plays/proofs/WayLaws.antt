-- The play that a way, with any memory, makes with a strategy that wins: it follows the strategy, up to a goal where the strategy is the system's, and it is
-- the only one. So winning from a state says of plays without end what specs/Endless.antt states.
-- Assumes nothing.
use Prim.Native.Nat.{ℕ, zero, suc, ◌≤◌, ◌<◌}
use mathlib.Core.Path.{◌≡◌, refl, sym, ap, ◌∙◌, subst}
use mathlib.Core.Bool.{Bool, true, false}
use mathlib.Core.List.{List, [], ◌∷◌}
use mathlib.Core.Logic.{◌⊎◌, ⊎_elim}
use native.Mathlib.Omega.{arith}
use lib.ListN.{length}
use Rattle.machine.specs.Run.{run}
use Rattle.plays.specs.declared.mode.Mode.{Mode}
use Rattle.plays.specs.declared.mode.Mode.TheVariants.{Fair, Stable}
use Rattle.plays.specs.Arena.{Arena, goal, holds}
use Rattle.plays.specs.Play.{Step, entered, reaches, Along}
use Rattle.plays.specs.Strategy.{environment_byte, BySystem, ByEnvironment, SystemWins, EnvironmentWins}
use Rattle.plays.specs.Way.{SystemWay, EnvironmentWay, Outputs, Inputs, by_system, by_environment, ordered, meeting, system_after}
use Rattle.plays.specs.Way.{environment_after, meet, ByWay}
use Rattle.plays.specs.Round.{Reaching}
use Rattle.plays.specs.Endless.{first, inputs, Follows, Promised, Kept, CanEndless, Defeated, CannotEndless}
use Rattle.reader.proofs.BoolLaws.{on, clash, or_left}
use Rattle.plays.proofs.PlayLaws.{reaches_later, take_along}
use Rattle.plays.proofs.Determined.{system_later, environment_later}
use Rattle.plays.proofs.EndlessLaws.{first_take, assumed, honoured}

-- the inputs of the play that a fixed order makes are the order
input_ordered : (x : ℕ → ℕ) (ω : SystemWay) (j : ℕ) → (meet (ordered x) ω j).input ≡ x j
unfolding meet
input_ordered x ω zero = refl
input_ordered x ω (suc j) = input_ordered (λ i. x (suc i)) (system_after (meeting (ordered x) ω) ω) j

-- so a promise that the order keeps is kept on the play
promised_ordered : (mode : Mode) (G : Arena) (x : ℕ → ℕ) (ω : SystemWay) → Promised mode G x → Promised mode G (inputs (meet (ordered x) ω))
promised_ordered Fair G x ω p = λ m.
    let w = p m in
    (w.0, w.1, subst (λ (z : ℕ). holds G z ≡ true) (sym (input_ordered x ω w.0)) w.2)
promised_ordered Stable G x ω p = (p.0, λ j h. subst (λ (z : ℕ). holds G z ≡ true) (sym (input_ordered x ω j)) (p.1 j h))

-- a step is what its numbers are
pub same_step : (a : Step) (x y : ℕ) → a.input ≡ x → a.output ≡ y → a ≡ record { input = x; output = y }
same_step a x y e f = λ i. record { input = e i; output = f i }

module _ (G : Arena) where
  -- a goal that is entered ends the search
  at_goal : (R : ℕ → Step → Type 0) (s : ℕ) (a : Step) → R s a → goal G (entered G s a) ≡ true → Along G R s (a ∷ []) × Reaching G s (a ∷ [])
  unfolding Along reaches
  at_goal R s a h e = ((h, tt), rw e)

  -- one step more before a play that reaches a goal
  before_goal : (R : ℕ → Step → Type 0) (s : ℕ) (a : Step) (p : List Step) → R s a → Along G R (entered G s a) p → goal G (entered G s a) ≡ false
      → Reaching G (entered G s a) p
      → Along G R s (a ∷ p) × Reaching G s (a ∷ p)
  unfolding Along
  before_goal R s a p h l e r = ((h, l), reaches_later G s a p e ∙ r)

  -- the beginning with which a play first reaches a goal
  earliest : (s : ℕ) (f : ℕ → Step) (k : ℕ) → reaches G s (first f k) ≡ true
      → (j : ℕ) × (j < k) × (reaches G s (first f (suc j)) ≡ true) × (reaches G s (first f j) ≡ false)
  unfolding first reaches
  earliest s f zero e = absurd (mathlib.Core.Bool.false≢true e)
  earliest s f (suc k) e =
      on (reaches G s (first f k))
      (λ t. let w = earliest s f k t in (w.0, omega (arith, w.1), w.2, w.3))
      (λ t. (k, omega arith, e, t))

  -- a shorter beginning
  along_first : (R : ℕ → Step → Type 0) (s : ℕ) (f : ℕ → Step) (k j : ℕ) → k ≤ j → Along G R s (first f j) → Along G R s (first f k)
  along_first R s f k j l h = subst (λ (p : List Step). Along G R s p) (first_take f k j l) (take_along G R s (first f j) k h)

  module _ (mode : Mode) (n : ℕ) (σ : List ℕ) where
    -- the step that a way of the environment makes with a strategy that wins
    system_step : (s : ℕ) (α : EnvironmentWay) → Inputs G α → SystemWins mode G n σ s → BySystem G σ s (meeting α (by_system G σ s))
    unfolding Along reaches run
    system_step s α legal w = ((legal [], w.answers [] tt refl (α []) (legal [])), refl)

    -- k steps of the play follow the strategy, or some of them do and reach a goal
    system_made : (k s : ℕ) (α : EnvironmentWay) → Inputs G α → SystemWins mode G n σ s
        → Along G (BySystem G σ) s (first (meet α (by_system G σ s)) k)
        ⊎ ((j : ℕ) × Along G (BySystem G σ) s (first (meet α (by_system G σ s)) j) × Reaching G s (first (meet α (by_system G σ s)) j))
    unfolding Along run first meet
    system_made zero s α legal w = ◌⊎◌.inl tt
    system_made (suc k) s α legal w =
        let a : Step = meeting α (by_system G σ s) in
        let h = system_step s α legal w in
        on (goal G (entered G s a))
        (λ e. let z = at_goal (BySystem G σ) s a h e in ◌⊎◌.inr (1, z.0, z.1))
        (λ e. ⊎_elim
        (λ l. ◌⊎◌.inl (h, l))
        (λ m. let z = before_goal (BySystem G σ) s a (first (meet (environment_after a α) (by_system G σ (entered G s a))) m.0) h m.1 e m.2 in
        ◌⊎◌.inr (suc m.0, z.0, z.1))
        (system_made k (entered G s a) (environment_after a α) (λ past. legal (a ∷ past)) (system_later mode G n σ s a h e w)))

    -- what the system has to do, `Done`, is done by the beginning with which a play that follows the strategy first reaches a goal
    module _ (s : ℕ) (w : SystemWins mode G n σ s) (Done : List Step → Type 0)
        (ends : (f : ℕ → Step) (j : ℕ) → Along G (BySystem G σ) s (first f (suc j)) → reaches G s (first f (suc j)) ≡ true → reaches G s (first f j) ≡ false
        → Done (first f (suc j))) where
      -- so it is done by the n-th step with the condition
      kept : (f : ℕ → Step) (k : ℕ) → Along G (BySystem G σ) s (first f k) → Reaching G s (first f k) → Kept mode G n σ s Done f
      kept f k h e =
          let j = earliest s f k e in
          let l = along_first (BySystem G σ) s f (suc j.0) k (omega (arith, j.1)) h in
          record {
            before = j.0;
            follows = l;
            done = ends f j.0 l j.2 j.3;
            soon = λ m. clash (reaches G s (first f j.0))
                (w.reaching (first f j.0) (along_first (BySystem G σ) s f j.0 k (omega (arith, j.1)) h) m) j.3;
          }

      -- whatever the environment does, a beginning is done where it keeps its promise
      system_ways : (α : EnvironmentWay) → Inputs G α → Promised mode G (inputs (meet α (by_system G σ s)))
          → Kept mode G n σ s Done (meet α (by_system G σ s))
      system_ways α legal promised =
          let f = meet α (by_system G σ s) in
          let b = assumed G mode n f promised in
          ⊎_elim
          (λ l. kept f b.0 l (w.reaching (first f b.0) l b.1))
          (λ m. kept f m.0 m.1 m.2)
          (system_made b.0 s α legal w)

      pub system_endless : CanEndless mode G n σ s Done
      system_endless =
          record {
            orders = λ x legal promised. system_ways (ordered x) (λ past. legal (length past)) (promised_ordered mode G x (by_system G σ s) promised);
            ways = system_ways;
            plays = λ f follows promised.
                let b = assumed G mode n f promised in
                kept f b.0 (follows b.0) (w.reaching (first f b.0) (follows b.0) b.1);
          }

  module _ (mode : Mode) (τ : List ℕ) where
    -- the play that a way of the system makes with a strategy that wins follows the strategy and the way
    pub environment_made : (k s : ℕ) (ω : SystemWay) → Outputs G ω → EnvironmentWins mode G τ s
        → Along G (ByEnvironment G τ) s (first (meet (by_environment G τ s) ω) k) × ByWay G ω (first (meet (by_environment G τ s) ω) k)
    unfolding Along reaches run first meet ByWay
    environment_made zero s ω legal w = (tt, tt)
    environment_made (suc k) s ω legal w =
        let a : Step = meeting (by_environment G τ s) ω in
        let h : ByEnvironment G τ s a = ((w.answers [] tt, legal [] (environment_byte τ s)), refl) in
        let e : goal G (entered G s a) ≡ false = or_left (goal G (entered G s a)) false (w.avoiding (a ∷ []) (h, tt)) in
        let r = environment_made k (entered G s a) (system_after a ω) (λ past. legal (a ∷ past)) (environment_later mode G τ s a h e w) in
        ((h, r.0), (h.0, refl, r.1))

    -- and no other play of its length does, with the same way
    only_made : (s : ℕ) (ω : SystemWay) (p : List Step) → Along G (ByEnvironment G τ) s p → ByWay G ω p → p ≡ first (meet (by_environment G τ s) ω) (length p)
    unfolding Along run first meet ByWay
    only_made s ω [] h c = refl
    only_made s ω (a ∷ p) h c =
        let e : a ≡ meeting (by_environment G τ s) ω = same_step a (environment_byte τ s) (ω [] (environment_byte τ s)) h.0.1 (c.1 ∙ ap (ω []) h.0.1) in
        ap (λ (q : List Step). a ∷ q) (only_made (entered G s a) (system_after a ω) p h.1 c.2)
        ∙ ap (λ (b : Step). b ∷ first (meet (environment_after b (by_environment G τ s)) (system_after b ω)) (length p)) e

    defeated : (s : ℕ) → EnvironmentWins mode G τ s → (f : ℕ → Step) → Follows G (ByEnvironment G τ) s f → Defeated mode G (Reaching G s) f
    defeated s w f follows =
        record {
          never = λ k r. clash (reaches G s (first f k)) r (w.avoiding (first f k) (follows k));
          promised = honoured G mode f (λ k. w.keeping (first f k) (follows k));
          keeping = λ k. w.keeping (first f k) (follows k);
        }

    pub environment_endless : (s : ℕ) → EnvironmentWins mode G τ s → CannotEndless mode G τ s (Reaching G s)
    environment_endless s w =
        record {
          plays = defeated s w;
          ways = λ ω legal. defeated s w (meet (by_environment G τ s) ω) (λ k. (environment_made k s ω legal w).0);
          made = λ ω legal k. (environment_made k s ω legal w).0;
          by = λ ω legal k. (environment_made k s ω legal w).1;
          only = only_made s;
        }

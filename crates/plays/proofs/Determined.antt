-- No state is won by a table of the system's and by one of the environment's, whatever the two tables (lists of bytes, that is positional strategies):
-- so the arena and the mode determine a verdict, and a state's winner, that comes with its table.
-- A play that follows both strategies for k times n steps, where the system wins with the number k, falls into k stretches of n steps, or n of k. If the
-- environment keeps its assumption, the condition comes k times on it, so that it reaches a goal, which the environment avoids.
-- Assumes nothing.
use Prim.Native.Nat.{ℕ, zero, suc, ◌+◌, ◌*◌, ◌<◌, ◌≤◌}
use mathlib.Core.Path.{◌≡◌, refl, sym, ap, ◌∙◌, subst}
use mathlib.Core.Bool.{Bool, true, false}
use mathlib.Core.List.{List, [], ◌∷◌, ◌++◌}
use mathlib.Core.Logic.{◌⊎◌, ⊎_elim}
use native.Mathlib.Omega.{arith}
use native.Mathlib.Nat.{suc-mul, mul_comm}
use lib.ListN.{length, take, drop, take-append-drop, length-drop}
use lib.Seq.{length-take-le}
use Rattle.machine.specs.Run.{run}
use Rattle.plays.specs.declared.mode.Mode.{Mode}
use Rattle.plays.specs.declared.mode.Mode.TheVariants.{Fair, Stable}
use Rattle.plays.specs.Arena.{Arena, goal, holds, lacks}
use Rattle.plays.specs.Play.{Step, entered, reaches, Along, count, Every, InRow}
use Rattle.plays.specs.Strategy.{system_byte, environment_byte, BySystem, ByEnvironment, Assumed, Failed, SystemWins, EnvironmentWins}
use Rattle.reader.proofs.BoolLaws.{on, clash, or_left}
use Rattle.plays.proofs.PlayLaws.{reaches_later, row_later, row_first, count_append}

-- ---- stretches of steps

-- every step of a stretch passes c, or one passes the opposite test
every_or_one : (c d : ℕ → Bool) → ((x : ℕ) → c x ≡ false → d x ≡ true) → (u : List Step) → Every c u ⊎ (0 < count d u)
unfolding Every count
every_or_one c d o [] = ◌⊎◌.inl tt
every_or_one c d o (a ∷ u) =
    on (c a.input)
    (λ e. ⊎_elim (λ v. ◌⊎◌.inl (e, v)) (λ (l : 0 < count d u). ◌⊎◌.inr (on (d a.input) (λ f. rw f (omega arith)) (λ f. rw f l))) (every_or_one c d o u))
    (λ e. ◌⊎◌.inr (rw (o a.input e) (omega arith)))

-- a play of m stretches of k steps has a row of k steps that pass c, or m steps that pass the opposite test
row_or_many : (c d : ℕ → Bool) → ((x : ℕ) → c x ≡ false → d x ≡ true) → (k m : ℕ) (p : List Step) → length p ≡ m * k → InRow c k p ⊎ (m ≤ count d p)
row_or_many c d o k zero p l = ◌⊎◌.inr (omega arith)
row_or_many c d o k (suc m) p l =
    let u : List Step = take k p in
    let q : List Step = drop k p in
    let e : u ++ q ≡ p = take-append-drop k p in
    let n : length p ≡ m * k + k = l ∙ suc-mul m k in
    let lu : length u ≡ k = length-take-le k p (omega arith) in
    let lq : length q ≡ m * k = simp length-drop (omega arith) in
    ⊎_elim
    (λ v. ◌⊎◌.inl (subst (λ (w : List Step). InRow c k w) e (row_first c k u q lu v)))
    (λ h. ⊎_elim
    (λ r. ◌⊎◌.inl (subst (λ (w : List Step). InRow c k w) e (row_later c k u q r)))
    (λ g. ◌⊎◌.inr (subst (λ (w : List Step). suc m ≤ count d w) e (omega (arith, count_append d u q))))
    (row_or_many c d o k m q lq))
    (every_or_one c d o u)

-- ---- winning survives a step that enters no goal

assumed_later : (mode : Mode) (G : Arena) (k : ℕ) (a : Step) (p : List Step) → Assumed mode G k p → Assumed mode G k (a ∷ p)
unfolding count
assumed_later Fair G k a p h = on (holds G a.input) (λ e. rw e (omega arith)) (λ e. rw e h)
assumed_later Stable G k a p h = row_later (holds G) k (a ∷ []) p h

failed_later : (mode : Mode) (G : Arena) (a : Step) (p : List Step) → Failed mode G p → Failed mode G (a ∷ p)
unfolding count
failed_later Fair G a p h = row_later (lacks G) G.states (a ∷ []) p h
failed_later Stable G a p h = on (lacks G a.input) (λ e. rw e (omega arith)) (λ e. rw e h)

module _ (mode : Mode) (G : Arena) where
  pub system_later : (k : ℕ) (σ : List ℕ) (s : ℕ) (a : Step) → BySystem G σ s a → goal G (entered G s a) ≡ false → SystemWins mode G k σ s
      → SystemWins mode G k σ (entered G s a)
  unfolding Along run
  system_later k σ s a h e w =
      record {
        reaching = λ p l m. sym (reaches_later G s a p e) ∙ w.reaching (a ∷ p) (h, l) (assumed_later mode G k a p m);
        answers = λ p l m. w.answers (a ∷ p) (h, l) (reaches_later G s a p e ∙ m);
      }

  pub environment_later : (τ : List ℕ) (s : ℕ) (a : Step) → ByEnvironment G τ s a → goal G (entered G s a) ≡ false → EnvironmentWins mode G τ s
      → EnvironmentWins mode G τ (entered G s a)
  unfolding Along run
  environment_later τ s a h e w =
      record {
        avoiding = λ p l. sym (reaches_later G s a p e) ∙ w.avoiding (a ∷ p) (h, l);
        keeping = λ p l m. w.keeping (a ∷ p) (h, l) (failed_later mode G a p m);
        answers = λ p l. w.answers (a ∷ p) (h, l);
      }

-- ---- the play that follows both

module _ (G : Arena) (σ τ : List ℕ) where
  abbrev both_step : ℕ → Step
  both_step s = record { input = environment_byte τ s; output = system_byte G σ s (environment_byte τ s) }

  both_play : ℕ → ℕ → List Step
  both_play zero s = []
  both_play (suc k) s = both_step s ∷ both_play k (entered G s (both_step s))

  both_long : (k s : ℕ) → length (both_play k s) ≡ k
  unfolding both_play
  both_long zero s = refl
  both_long (suc k) s = ap suc (both_long k (entered G s (both_step s)))

  module _ (mode : Mode) (n : ℕ) where
    legal : (s : ℕ) → SystemWins mode G n σ s → EnvironmentWins mode G τ s → BySystem G σ s (both_step s) × ByEnvironment G τ s (both_step s)
    unfolding Along reaches run
    legal s w v =
        let x = v.answers [] tt in
        let y = w.answers [] tt refl (environment_byte τ s) x in
        (((x, y), refl), ((x, y), refl))

    avoided : (s : ℕ) → SystemWins mode G n σ s → EnvironmentWins mode G τ s → goal G (entered G s (both_step s)) ≡ false
    unfolding Along reaches
    avoided s w v = or_left (goal G (entered G s (both_step s))) false (v.avoiding (both_step s ∷ []) ((legal s w v).1, tt))

    both_along : (k s : ℕ) → SystemWins mode G n σ s → EnvironmentWins mode G τ s
        → Along G (BySystem G σ) s (both_play k s) × Along G (ByEnvironment G τ) s (both_play k s)
    unfolding Along both_play
    both_along zero s w v = (tt, tt)
    both_along (suc k) s w v =
        let l = legal s w v in
        let e = avoided s w v in
        let r = both_along k (entered G s (both_step s)) (system_later mode G n σ s (both_step s) l.0 e w)
        (environment_later mode G τ s (both_step s) l.1 e v) in
        ((l.0, r.0), (l.1, r.1))

-- an input has the condition or lacks it
lacks_holds : (G : Arena) (x : ℕ) → lacks G x ≡ false → holds G x ≡ true
lacks_holds G x e = on (holds G x) (λ t. t) (λ f. clash (lacks G x) (rw f) e)

holds_lacks : (G : Arena) (x : ℕ) → holds G x ≡ false → lacks G x ≡ true
holds_lacks G x e = rw e

-- on a play of k times n steps the environment has failed its assumption, or the condition has come k times
pub failed_or_assumed : (mode : Mode) (G : Arena) (k : ℕ) (p : List Step) → length p ≡ k * G.states → Failed mode G p ⊎ Assumed mode G k p
failed_or_assumed Fair G k p l = row_or_many (lacks G) (holds G) (lacks_holds G) G.states k p l
failed_or_assumed Stable G k p l =
    ⊎_elim (λ r. ◌⊎◌.inr r) (λ m. ◌⊎◌.inl m) (row_or_many (holds G) (lacks G) (holds_lacks G) k G.states p (l ∙ mul_comm k G.states))

-- no state is won by both players
pub one_winner : (mode : Mode) (G : Arena) (k : ℕ) (σ τ : List ℕ) (s : ℕ) → SystemWins mode G k σ s → EnvironmentWins mode G τ s → ⊥
one_winner mode G k σ τ s w v =
    let p : List Step = both_play G σ τ (k * G.states) s in
    let h = both_along G σ τ mode k (k * G.states) s w v in
    ⊎_elim
    (λ f. v.keeping p h.1 f)
    (λ m. clash (reaches G s p) (w.reaching p h.0 m) (v.avoiding p h.1))
    (failed_or_assumed mode G k p (both_long G σ τ (k * G.states) s))

-- The numbers of a state by which the tables' bytes are chosen (specification, "Tables"): the system's round when fair, which is the round number taken from
-- the state (Round.antt), and its need when stable; the environment's distance when fair, and its count when stable. Each is the smallest that some way, with
-- any memory, of the player concerned achieves, over plays; nothing here speaks of how it is found.
-- Assumes nothing.
use Rattle.std.specs.Prelude.{ℕ, zero, suc, ◌<◌, ◌≤◌, ◌≡◌, Bool, true, false, List, [], ◌∷◌, ◌⊎◌, length}
use Rattle.plays.specs.declared.mode.Mode.{Mode}
use Rattle.plays.specs.declared.mode.Mode.TheVariants.{Fair}
use Rattle.plays.specs.Arena.{State, Input, Arena, goal, holds, lacks}
use Rattle.plays.specs.Play.{Step, entered, reaches, count}
use Rattle.plays.specs.Strategy.{Assumed}
use Rattle.plays.specs.Way.{SystemWay, EnvironmentWay, Outputs, Inputs, ByInputs}
use Rattle.plays.specs.Round.{Reaching, Does, Smallest}

-- state s is won by the system, and so lost to the environment: with some number, some way of answering reaches a goal on every play from s on which the
-- condition has come so often. The environment wins every other state
abbrev pub Won : (mode : Mode) (G : Arena) (s : State) → Type 0
Won mode G s = (k : ℕ) × (ω : SystemWay) × Outputs G ω × Does G (Reaching G s) (Assumed mode G k) ω

-- ---- the system, stable: needs

-- the first k steps are there, and each passes c
unfoldable pub Opens : (Input → Bool) → ℕ → List Step → Type 0
Opens c zero p = Unit {0}
Opens c (suc k) [] = ⊥
Opens c (suc k) (a ∷ p) = (c a.input ≡ true) × Opens c k p

-- some step does not pass c, and the m steps directly behind it are there and each passes c
unfoldable pub Resumes : (Input → Bool) → ℕ → List Step → Type 0
Resumes c m [] = ⊥
Resumes c m (a ∷ p) = ((c a.input ≡ false) × Opens c m p) ⊎ Resumes c m p

-- k is the need of state s with m: the smallest number, from 1 up, such that by some way every play from s reaches a goal that opens with k steps that have the
-- condition, or has m of these in a row directly after a step that lacks it; 0 where there is none. It may be larger than m
abbrev pub Need : (G : Arena) (m : ℕ) (s : State) (k : ℕ) → Type 0
Need G m s k = Smallest G (Reaching G s) (λ j p. Opens (holds G) j p ⊎ Resumes (holds G) m p) k

-- ---- the environment

-- k is the fewest of something that the environment can see to: some way of its has C k on every play by it, and against every way there is, with every smaller
-- number j, a play by the way that has not C j
pub record Fewest (G : Arena) (C : ℕ → List Step → Type 0) (k : ℕ) : Type 0 where
  pub some : (α : EnvironmentWay) × Inputs G α × ((p : List Step) → ByInputs G α p → C k p)
  pub fewest : (j : ℕ) → j < k → (α : EnvironmentWay) → Inputs G α → (p : List Step) × ByInputs G α p × (C j p → ⊥)

-- fair: the play from s comes to a step with the condition, and no step up to that one, itself included, enters a goal or a state lost to the environment
unfoldable pub Meets : (G : Arena) (s : State) (p : List Step) → Type 0
Meets G s [] = ⊥
Meets G s (a ∷ p) =
    (goal G (entered G s a) ≡ false) × (Won Fair G (entered G s a) → ⊥) × ((holds G a.input ≡ true) ⊎ Meets G (entered G s a) p)

-- fair: d is the distance of state s, the fewest steps after which by some way of the environment every play from s has met the condition so
abbrev pub Distance : (G : Arena) (s : State) (d : ℕ) → Type 0
Distance G s d = Fewest G (λ k p. length p ≡ k → Meets G s p) d

-- stable: c is the count of state s, the smallest number such that by some way of the environment no play from s reaches a goal, and each has at most c steps
-- that lack the condition
abbrev pub Count : (G : Arena) (s : State) (c : ℕ) → Type 0
Count G s c = Fewest G (λ k p. (reaches G s p ≡ false) × (count (lacks G) p ≤ k)) c

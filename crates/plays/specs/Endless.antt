-- Plays without end, and what "can" and "cannot" say of them: the two answers to "can any order of cues, without end, hold the rule off?".
-- A play without end has a step for each number; its beginnings are plays. The two promises of the environment are as the field states them:
-- fair, the condition holds again and again; stable, from some step on it holds always.
-- Assumes nothing.
use Rattle.std.specs.Prelude.{ℕ, zero, suc, ◌≤◌, ◌<◌, ◌≡◌, Bool, true, false, List, [], ◌∷◌, ◌⊎◌, length}
use Rattle.plays.specs.declared.mode.Mode.{Mode}
use Rattle.plays.specs.declared.mode.Mode.TheVariants.{Fair, Stable}
use Rattle.plays.specs.Arena.{State, Input, Arena, holds}
use Rattle.plays.specs.Play.{Step, Legal, Along}
use Rattle.plays.specs.Strategy.{Table, BySystem, ByEnvironment, Assumed, Failed}
use Rattle.plays.specs.Way.{SystemWay, EnvironmentWay, Outputs, Inputs, by_system, by_environment, ordered, meet, ByWay}

-- the first k steps of a play without end
unfoldable pub first : (ℕ → Step) → ℕ → List Step
first f zero = []
first f (suc k) = f 0 ∷ first (λ j. f (suc j)) k

-- every beginning of it, from state s, is a play that R allows
abbrev pub Follows : (G : Arena) (R : State → Step → Type 0) (s : State) (f : ℕ → Step) → Type 0
Follows G R s f = (k : ℕ) → Along G R s (first f k)

-- the inputs of a play without end, which are an order of inputs: one for each step
abbrev pub inputs : (ℕ → Step) → ℕ → Input
inputs f j = (f j).input

-- in the order x, inputs that pass c come again and again: from every step on there is one
abbrev pub Again : (Input → Bool) → (ℕ → Input) → Type 0
Again c x = (m : ℕ) → (j : ℕ) × (m ≤ j) × (c (x j) ≡ true)

-- from some step on every input passes c
abbrev pub Finally : (Input → Bool) → (ℕ → Input) → Type 0
Finally c x = (m : ℕ) × ((j : ℕ) → m ≤ j → c (x j) ≡ true)

-- the environment's promise is kept by the order x
abbrev pub Promised : Mode → Arena → (ℕ → Input) → Type 0
Promised Fair G x = Again (holds G) x
Promised Stable G x = Finally (holds G) x

-- a test on numbers passes somewhere or nowhere. Ordinary mathematics takes it so (the limited principle of omniscience); this logic, which assumes nothing,
-- does not, since no program can tell which
abbrev pub Omniscience : Type 0
Omniscience = (d : ℕ → Bool) → ((j : ℕ) × (d j ≡ true)) ⊎ ((j : ℕ) → d j ≡ false)

-- what is proved of a promise that is kept: fair, that it is kept; stable, that it is not broken, and that it is kept if a test passes somewhere or nowhere
abbrev pub Honoured : Mode → Arena → (ℕ → Input) → Type 0
Honoured Fair G x = Promised Fair G x
Honoured Stable G x = ((Promised Stable G x → ⊥) → ⊥) × (Omniscience → Promised Stable G x)

-- the environment can keep its promise, however a play began: so there is always something of which "can" says what it says
pub record Able (mode : Mode) (G : Arena) : Type 0 where
  -- an input has the condition, on whatever state: the condition is judged on the input alone
  pub input : Input
  pub legal : input < G.inputs
  pub has : holds G input ≡ true
  -- whatever the order of inputs was for k steps, some order that begins like it keeps the promise
  pub orders : (x : ℕ → Input) → ((j : ℕ) → x j < G.inputs) → (k : ℕ)
      → (y : ℕ → Input) × ((j : ℕ) → y j < G.inputs) × ((j : ℕ) → j < k → y j ≡ x j) × Promised mode G y
  -- whatever the environment did for k steps, in sight of all outputs, it has a way to go on that keeps the promise against every way of the system
  pub ways : (α : EnvironmentWay) → Inputs G α → (k : ℕ)
      → (β : EnvironmentWay) × Inputs G β × ((past : List Step) → length past < k → β past ≡ α past)
      × ((ω : SystemWay) → Promised mode G (inputs (meet β ω)))
  -- whatever was played, from whatever state: the environment has a way that makes this play with every way of the system that the play is by, and goes on so
  -- that the promise is kept
  pub plays : (s : State) (p : List Step) → Along G (λ t a. Legal G a) s p
      → (β : EnvironmentWay) × Inputs G β
      × ((ω : SystemWay) → ByWay G ω p → (first (meet β ω) (length p) ≡ p) × Promised mode G (inputs (meet β ω)))

-- a beginning of the play without end is done, by which `Done` says that it does what it has to, and up to there it follows the system's strategy: so the
-- strategy had an output wherever one was needed. It is done by the k-th step with the condition: before its last step the condition had not come k times
pub record Kept (mode : Mode) (G : Arena) (k : ℕ) (σ : Table) (s : State) (Done : List Step → Type 0) (f : ℕ → Step) : Type 0 where
  pub before : ℕ
  pub follows : Along G (BySystem G σ) s (first f (suc before))
  pub done : Done (first f (suc before))
  pub soon : Assumed mode G k (first f before) → ⊥

-- "can", with the number k
pub record CanEndless (mode : Mode) (G : Arena) (k : ℕ) (σ : Table) (s : State) (Done : List Step → Type 0) : Type 0 where
  -- whatever the order of inputs, without end, that keeps the environment's promise: on the play that it makes with the system's strategy a beginning is done
  pub orders : (x : ℕ → Input) → ((j : ℕ) → x j < G.inputs) → Promised mode G x → Kept mode G k σ s Done (meet (ordered x) (by_system G σ s))
  -- and whatever the environment does, with any memory and in sight of all outputs, if it keeps its promise on the play that it makes with the strategy
  pub ways : (α : EnvironmentWay) → Inputs G α → Promised mode G (inputs (meet α (by_system G σ s)))
      → Kept mode G k σ s Done (meet α (by_system G σ s))
  -- and on every play without end that follows the strategy and on which the environment keeps its promise
  pub plays : (f : ℕ → Step) → Follows G (BySystem G σ) s f → Promised mode G (inputs f) → Kept mode G k σ s Done f

-- no beginning of the play without end is ever done; the environment's promise is kept on it, and none of its beginnings fails the assumption
pub record Defeated (mode : Mode) (G : Arena) (Done : List Step → Type 0) (f : ℕ → Step) : Type 0 where
  pub never : (k : ℕ) → Done (first f k) → ⊥
  pub promised : Honoured mode G (inputs f)
  pub keeping : (k : ℕ) → Failed mode G (first f k) → ⊥

-- "cannot"
pub record CannotEndless (mode : Mode) (G : Arena) (τ : Table) (s : State) (Done : List Step → Type 0) : Type 0 where
  -- every play without end that follows the environment's strategy is defeated
  pub plays : (f : ℕ → Step) → Follows G (ByEnvironment G τ) s f → Defeated mode G Done f
  -- and so is every way of answering, with any memory: the play that it makes with the strategy is defeated; it follows the strategy and the way, and is the
  -- only one of its length that does
  pub ways : (ω : SystemWay) → Outputs G ω → Defeated mode G Done (meet (by_environment G τ s) ω)
  pub made : (ω : SystemWay) → Outputs G ω → Follows G (ByEnvironment G τ) s (meet (by_environment G τ s) ω)
  pub by : (ω : SystemWay) → Outputs G ω → (k : ℕ) → ByWay G ω (first (meet (by_environment G τ s) ω) k)
  pub only : (ω : SystemWay) (p : List Step) → Along G (ByEnvironment G τ) s p → ByWay G ω p → p ≡ first (meet (by_environment G τ s) ω) (length p)

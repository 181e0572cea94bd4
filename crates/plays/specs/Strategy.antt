-- Demand 3: what it means that a strategy, which the specification calls a table, holds good on every play from a state.
-- Each is one claim about the whole list of steps, for every list.
-- Assumes nothing.
use Rattle.std.specs.Prelude.{ℕ, ◌+◌, ◌*◌, ◌<◌, ◌≤◌, ◌≡◌, true, false, List, get_or}
use Rattle.plays.specs.declared.mode.Mode.{Mode}
use Rattle.plays.specs.declared.mode.Mode.TheVariants.{Fair, Stable}
use Rattle.plays.specs.Arena.{State, Input, Arena, holds, lacks}
use Rattle.plays.specs.Play.{Step, Legal, stands_on, reaches, Along, count, InRow}

-- a strategy: the bytes of a table
abbrev pub Table : Type 0
Table = List ℕ

-- the system's byte for state s and input x
abbrev pub system_byte : (G : Arena) (σ : Table) (s : State) (x : Input) → ℕ
system_byte G σ s x = get_or σ (s * G.inputs + x) 0

-- the environment's byte for state s
abbrev pub environment_byte : Table → State → ℕ
environment_byte τ s = get_or τ s 0

-- a step by the system's strategy: its output is the byte for the state and the input
abbrev pub BySystem : (G : Arena) (σ : Table) (s : State) (a : Step) → Type 0
BySystem G σ s a = Legal G a × (a.output ≡ system_byte G σ s a.input)

-- a step by the environment's strategy: its input is the byte for the state
abbrev pub ByEnvironment : (G : Arena) (τ : Table) (s : State) (a : Step) → Type 0
ByEnvironment G τ s a = Legal G a × (a.input ≡ environment_byte τ s)

-- a play on which the condition has come k times, as the mode counts: fair, at k steps; stable, at k steps in a row
abbrev pub Assumed : (mode : Mode) (G : Arena) (k : ℕ) (p : List Step) → Type 0
Assumed Fair G k p = k ≤ count (holds G) p
Assumed Stable G k p = InRow (holds G) k p

-- a play on which the environment has failed its assumption: fair, n steps in a row without the condition; stable, n steps in all without it
abbrev pub Failed : Mode → Arena → List Step → Type 0
Failed Fair G p = InRow (lacks G) G.states p
Failed Stable G p = G.states ≤ count (lacks G) p

-- the system's strategy holds good from s with the number k: every play that follows it and on which the condition has come k times reaches a goal, and no play
-- that follows it comes, before a goal, to a byte that is no output. Demand 3 has n for k, and from the start the round number (Round.antt)
pub record SystemWins (mode : Mode) (G : Arena) (k : ℕ) (σ : Table) (s : State) : Type 0 where
  pub reaching : (p : List Step) → Along G (BySystem G σ) s p → Assumed mode G k p → reaches G s p ≡ true
  pub answers : (p : List Step) → Along G (BySystem G σ) s p → reaches G s p ≡ false → (x : Input) → x < G.inputs
      → system_byte G σ (stands_on G s p) x < G.outputs

-- the environment's strategy holds good from s: every play that follows it reaches no goal, keeps the assumption and comes to no byte that is no input
pub record EnvironmentWins (mode : Mode) (G : Arena) (τ : Table) (s : State) : Type 0 where
  pub avoiding : (p : List Step) → Along G (ByEnvironment G τ) s p → reaches G s p ≡ false
  pub keeping : (p : List Step) → Along G (ByEnvironment G τ) s p → Failed mode G p → ⊥
  pub answers : (p : List Step) → Along G (ByEnvironment G τ) s p → environment_byte τ (stands_on G s p) < G.inputs

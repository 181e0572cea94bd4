-- Ways of playing with any memory: a choice for all the steps so far, the earliest first. The system's way has the step's input in hand, the environment's
-- has not (specification, "Letters": the outside chooses, then the station, having seen it). A strategy, or table, is a way that looks at the state alone.
-- Assumes nothing.
use Rattle.std.specs.Prelude.{ℕ, zero, suc, ◌<◌, ◌≡◌, List, [], ◌∷◌, length}
use Rattle.plays.specs.Arena.{State, Input, Output, Arena}
use Rattle.plays.specs.Play.{Step, Legal, stands_on}
use Rattle.plays.specs.Strategy.{Table, system_byte, environment_byte}

-- a way of the system: an output for the steps so far and the input
abbrev pub SystemWay : Type 0
SystemWay = List Step → Input → Output

-- a way of the environment: an input for the steps so far
abbrev pub EnvironmentWay : Type 0
EnvironmentWay = List Step → Input

-- all its choices are outputs, all its choices are inputs
abbrev pub Outputs : Arena → SystemWay → Type 0
Outputs G ω = (past : List Step) (x : Input) → ω past x < G.outputs

abbrev pub Inputs : Arena → EnvironmentWay → Type 0
Inputs G α = (past : List Step) → α past < G.inputs

-- the ways of two strategies, for plays from state s
abbrev pub by_system : Arena → Table → State → SystemWay
by_system G σ s past x = system_byte G σ (stands_on G s past) x

abbrev pub by_environment : Arena → Table → State → EnvironmentWay
by_environment G τ s past = environment_byte τ (stands_on G s past)

-- an order of inputs that is fixed beforehand, an input for each step, is a way of the environment too
abbrev pub ordered : (ℕ → Input) → EnvironmentWay
ordered x past = x (length past)

-- the first step of two ways, and the ways after a first step
abbrev pub meeting : EnvironmentWay → SystemWay → Step
meeting α ω = record { input = α []; output = ω [] (α []) }

abbrev pub system_after : Step → SystemWay → SystemWay
system_after a ω past x = ω (a ∷ past) x

abbrev pub environment_after : Step → EnvironmentWay → EnvironmentWay
environment_after a α past = α (a ∷ past)

-- the play without end that two ways make: its step j
unfoldable pub meet : EnvironmentWay → SystemWay → ℕ → Step
meet α ω zero = meeting α ω
meet α ω (suc j) = meet (environment_after (meeting α ω) α) (system_after (meeting α ω) ω) j

-- a play by a way of the system: its numbers are in range, and each output is the way's for the steps before and the input
unfoldable pub ByWay : Arena → SystemWay → List Step → Type 0
ByWay G ω [] = Unit {0}
ByWay G ω (a ∷ p) = Legal G a × (a.output ≡ ω [] a.input) × ByWay G (system_after a ω) p

-- a play by a way of the environment: its numbers are in range, and each input is the way's for the steps before
unfoldable pub ByInputs : Arena → EnvironmentWay → List Step → Type 0
ByInputs G α [] = Unit {0}
ByInputs G α (a ∷ p) = Legal G a × (a.input ≡ α []) × ByInputs G (environment_after a α) p

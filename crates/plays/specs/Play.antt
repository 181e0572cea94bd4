-- Plays (specification, "Game"): finite lists of steps, of any length, the empty one too, from a state of the arena.
-- Assumes nothing.
use Rattle.std.specs.Prelude.{ℕ, suc, ◌<◌, ◌≡◌, Bool, true, false, cond, ◌||◌, List, [], ◌∷◌, ◌++◌, length}
use Rattle.machine.specs.Letters.{Trace}
use Rattle.machine.specs.Run.{run}
use Rattle.automaton.specs.Alphabet.{letter_of}
use Rattle.plays.specs.Arena.{State, Input, Output, Arena, next, goal}

-- a step: the environment's input, then the system's output
pub record Step : Type 0 where
  pub input : Input
  pub output : Output

-- its numbers are in range
abbrev pub Legal : Arena → Step → Type 0
Legal G a = (a.input < G.inputs) × (a.output < G.outputs)

-- the state that a step enters
abbrev pub entered : Arena → State → Step → State
entered G s a = next G s a.input a.output

-- the state that a play from s stands on after its last step: the run of its steps
abbrev pub stands_on : Arena → State → List Step → State
stands_on G s p = run (entered G) s p

-- whether some step of the play enters a goal; the state it starts from counts for nothing
unfoldable pub reaches : Arena → State → List Step → Bool
reaches G s [] = false
reaches G s (a ∷ p) = goal G (entered G s a) || reaches G (entered G s a) p

-- the play read as letters
unfoldable pub letters : Arena → List Step → Trace
letters G [] = []
letters G (a ∷ p) = letter_of G.inputs a.input a.output ∷ letters G p

-- every step of the play is one that R allows on the state from which it starts
unfoldable pub Along : (G : Arena) (R : State → Step → Type 0) (s : State) (p : List Step) → Type 0
Along G R s [] = Unit {0}
Along G R s (a ∷ p) = R s a × Along G R (entered G s a) p

-- the number of steps whose input passes c
unfoldable pub count : (Input → Bool) → List Step → ℕ
count c [] = 0
count c (a ∷ p) = cond (c a.input) (suc (count c p)) (count c p)

-- every step's input passes c
unfoldable pub Every : (Input → Bool) → List Step → Type 0
Every c [] = Unit {0}
Every c (a ∷ p) = (c a.input ≡ true) × Every c p

-- k steps directly one after the other, all of which pass c
pub record InRow (c : Input → Bool) (k : ℕ) (p : List Step) : Type 0 where
  pub before : List Step
  pub row : List Step
  pub rest : List Step
  pub whole : p ≡ before ++ (row ++ rest)
  pub long : length row ≡ k
  pub all : Every c row

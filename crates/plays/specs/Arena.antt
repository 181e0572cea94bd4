-- The arena of a game (specification, "Game" and "Calls"): an automaton's states with the two players' numbers.
-- The players are the environment and the system, which the specification calls the outside and the station. In each step the environment chooses an input
-- number, then the system, having seen it, an output number.
-- Assumes nothing.
use Rattle.std.specs.Prelude.{ℕ, ◌+◌, ◌*◌, ◌^◌, Bool, not, List, eqb, get_or}
use Rattle.automaton.specs.Alphabet.{letter_of}
use Rattle.automaton.specs.Bits.{bit}

-- states, inputs and outputs are numbers
abbrev pub State : Type 0
State = ℕ

abbrev pub Input : Type 0
Input = ℕ

abbrev pub Output : Type 0
Output = ℕ

-- n states, 2^i input and 2^o output numbers, the transitions, the accepting flags and the assumption as a mask: the specification's moves, marks and condition
pub record Arena : Type 0 where
  pub states : ℕ
  pub inputs : ℕ
  pub outputs : ℕ
  pub transitions : List ℕ
  pub accepting : List ℕ
  pub mask : ℕ

-- the arena of i inputs and o outputs
abbrev pub arena : (i o n : ℕ) (transitions accepting : List ℕ) (mask : ℕ) → Arena
arena i o n transitions accepting mask =
    record { states = n; inputs = 2 ^ i; outputs = 2 ^ o; transitions = transitions; accepting = accepting; mask = mask }

-- the index of the transition from state s by input x and output y
abbrev pub move_index : (G : Arena) (s : State) (x : Input) (y : Output) → ℕ
move_index G s x y = s * (G.inputs * G.outputs) + letter_of G.inputs x y

-- the state to which it leads
unfoldable pub next : (G : Arena) (s : State) (x : Input) (y : Output) → State
next G s x y = get_or G.transitions (move_index G s x y) 0

-- an accepting state, which the specification calls a goal: any flag but 0
unfoldable pub goal : Arena → State → Bool
goal G s = not (eqb (get_or G.accepting s 0) 0)

-- whether input x has the condition: bit x of the mask
unfoldable pub holds : Arena → Input → Bool
unfolding bit
holds G x = bit G.mask x

abbrev pub lacks : Arena → Input → Bool
lacks G x = not (holds G x)

-- What the solver's functions may rely on: sizes in range, buffers that are long enough, and transitions that lead to states.
-- Assumes nothing.
use Rattle.std.specs.Prelude.{ℕ, ◌*◌, ◌<◌, ◌≤◌, List, length, slice_index}
use Rattle.automaton.specs.Limits.{number_limit, state_limit}
use Rattle.plays.specs.Arena.{Arena}

-- the arena of these numbers of states, inputs and outputs
abbrev pub arena_from : (states inputs outputs : ℕ) (transitions accepting : List ℕ) (mask : ℕ) → Arena
arena_from states inputs outputs transitions accepting mask =
    record { states = states; inputs = inputs; outputs = outputs; transitions = transitions; accepting = accepting; mask = mask }

-- the sizes are in range and every transition leads to a state
pub record Closed (states inputs outputs : ℕ) (transitions : List ℕ) : Type 0 where
  pub states_fit : states ≤ state_limit
  pub inputs_fit : inputs ≤ number_limit
  pub outputs_fit : outputs ≤ number_limit
  pub long : states * (inputs * outputs) ≤ length transitions
  pub closed : (k : ℕ) → k < states * (inputs * outputs) → slice_index transitions k < states

-- an arena that the solver may be given
pub record Valid (G : Arena) : Type 0 where
  pub moving : Closed G.states G.inputs G.outputs G.transitions
  pub accepting_long : G.states ≤ length G.accepting

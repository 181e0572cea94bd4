-- The sizes that the calls' own functions may rely on once i, o and n are in range.
-- Assumes nothing.
use Rattle.std.specs.Prelude.{ℕ, ◌<◌, ◌≤◌}
use Rattle.automaton.specs.Limits.{number_limit, state_limit}

-- sizes in range
pub record InRange (states inputs outputs : ℕ) : Type 0 where
  pub states_fit : states ≤ state_limit
  pub inputs_fit : inputs ≤ number_limit
  pub outputs_fit : outputs ≤ number_limit
  pub inputs_some : 0 < inputs

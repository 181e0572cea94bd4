-- The limit on ranks, beside the limits of the layers below.
-- Assumes nothing.
use Rattle.std.specs.Prelude.{ℕ, suc}
use Rattle.automaton.specs.Limits.{state_limit}

-- a limit above every rank: no rank is larger than the number of states
abbrev pub rank_limit : ℕ
rank_limit = suc state_limit

-- The limits on inputs, outputs and states (specification, refusals 1, 9 and 10, and "Calls"), and the numbers and letters that follow from them.
-- Assumes nothing.
use Rattle.std.specs.Prelude.{ℕ, ◌*◌, ◌^◌}

-- inputs at most, and outputs at most
abbrev pub name_limit : ℕ
name_limit = 4

-- states at most
abbrev pub state_limit : ℕ
state_limit = 128

-- input numbers at most, and output numbers at most
abbrev pub number_limit : ℕ
number_limit = 2 ^ name_limit

-- letters at most
abbrev pub letter_limit : ℕ
letter_limit = number_limit * number_limit

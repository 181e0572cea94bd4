-- How large valuations can be, which follows from the reader's limit on temporal operators, and the bits of a word of the code.
-- Assumes nothing.
use Rattle.std.specs.Prelude.{ℕ, suc, ◌/◌, ◌^◌}
use Rattle.reader.specs.Limits.{operator_limit}

-- the bits of a 64-bit word
abbrev pub word_bits : ℕ
word_bits = 64

-- coordinates of a valuation at most: the formula's own, and one for each temporal operator
abbrev pub coordinate_limit : ℕ
coordinate_limit = suc operator_limit

-- valuations at most
abbrev pub vector_limit : ℕ
vector_limit = 2 ^ coordinate_limit

-- pairs of valuations that differ in coordinate 0 only, at most
abbrev pub pair_limit : ℕ
pair_limit = vector_limit / 2

-- slots of guesses, where a state stands in the list and which letter has the same row
abbrev pub slot_count : ℕ
slot_count = 1021

-- Letters (specification, "Letters"): i inputs and o outputs make 2^i input numbers, 2^o output numbers and L = 2^(i+o) letters. And what is
-- refused of them: too many inputs or outputs, and a number that is too large (refusals 1, 11 and 13).
-- Assumes nothing.
use Rattle.std.specs.Prelude.{ℕ, ◌+◌, ◌*◌, ◌^◌, Bool, cond, ◌||◌, List, ltb, length, Option, Some}
use Rattle.std.specs.List.{prefix_len}
use Rattle.reader.specs.declared.refusal.Refusal.{Refusal}
use Rattle.machine.specs.Letters.{Letter}
-- every letter of a trace is below L
unfoldable pub use Rattle.machine.specs.Letters.{Letters}
use Rattle.automaton.specs.Limits.{name_limit}

-- refusal 1: more inputs or outputs than the limit
abbrev pub bad_alphabet : (i o : ℕ) → Bool
bad_alphabet i o = ltb name_limit i || ltb name_limit o

-- the number L of letters
abbrev pub letter_count : (i o : ℕ) → ℕ
letter_count i o = 2 ^ (i + o)

-- the letter of input x and output y, where there are `inputs` input numbers
abbrev pub letter_of : (inputs x y : ℕ) → Letter
letter_of inputs x y = x + inputs * y

-- the index of the first number of a list that is `bound` or more, or the list's length: as many numbers below the bound stand at its front
unfoldable pub first_over : (bound : ℕ) (w : List ℕ) → ℕ
first_over bound w = prefix_len (λ b. ltb b bound) w

-- the refusal for the first number of a list that is too large, by its index, and where there is none the refusal that comes later
abbrev pub after_list : (bound : ℕ) (w : List ℕ) (refusal : ℕ → Refusal) (later : Option Refusal) → Option Refusal
after_list bound w refusal later = cond (ltb (first_over bound w) (length w)) (Some (refusal (first_over bound w))) later

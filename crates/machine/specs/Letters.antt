-- Letters and traces (specification, "Letters"): a letter is a number below the number L of letters, and a trace, which the specification calls a list of
-- letters, is what is read one letter after the other.
-- Assumes nothing.
use Rattle.std.specs.Prelude.{ℕ, ◌<◌, List, [], ◌∷◌}

abbrev pub Letter : Type 0
Letter = ℕ

abbrev pub Trace : Type 0
Trace = List Letter

-- every letter of the trace is below L
unfoldable pub Letters : (L : ℕ) → Trace → Type 0
Letters L [] = Unit {0}
Letters L (a ∷ w) = (a < L) × Letters L w

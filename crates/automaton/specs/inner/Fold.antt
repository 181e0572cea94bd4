-- Along a trace: the valuation of its first position, made from the end valuation with the last letter first.
-- Assumes nothing.
use Rattle.std.specs.Prelude.{[], ◌∷◌}
use Rattle.machine.specs.Letters.{Trace}
use Rattle.reader.specs.Formula.{Formula}
use Rattle.automaton.specs.Valuation.{Valuation, present, end_vector}

-- the valuation of the first position of a trace; of the empty one the end valuation
unfoldable pub valuation : Formula → Trace → Valuation
unfolding present end_vector
valuation φ [] = end_vector φ
valuation φ (a ∷ w) = present φ a (valuation φ w)

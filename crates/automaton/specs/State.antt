-- The states of a formula's automaton (specification, "Automaton"): a state is a set of valuations, given as the number whose bit v says that v is in it.
-- Assumes nothing.
use Rattle.std.specs.Prelude.{ℕ, Bool, eqb}
use Rattle.std.proofs.Common.{eqb-true, eq-eqb}
use Rattle.machine.specs.Letters.{Letter}
use Rattle.machine.specs.Machine.{Machine}
use Rattle.reader.specs.Formula.{Formula}
use Rattle.automaton.specs.Bits.{bit, of_bits}
use Rattle.automaton.specs.Valuation.{present, end_vector, vectors}

-- the start holds the valuations whose coordinate 0 is 1
unfoldable pub start : Formula → ℕ
unfolding of_bits bit vectors
start φ = of_bits (λ v. bit v 0) (vectors φ)

-- after a letter, a state holds v where the old one holds the valuation that the letter makes from v
unfoldable pub after : (φ : Formula) (s : ℕ) (a : Letter) → ℕ
unfolding of_bits bit present vectors
after φ s a = of_bits (λ v. bit s (present φ a v)) (vectors φ)

-- an accepting state, which the specification calls a goal, holds the end valuation
unfoldable pub accepts : (φ : Formula) (s : ℕ) → Bool
unfolding bit end_vector
accepts φ s = bit s (end_vector φ)

-- the machine of a formula: this start, this step and this acceptance, and states are equal as numbers
abbrev pub machine_of : Formula → Machine ℕ
machine_of φ = record { same = eqb; equal = λ x y. (eqb-true x y, eq-eqb x y); first = start φ; after = after φ; accepts = accepts φ }

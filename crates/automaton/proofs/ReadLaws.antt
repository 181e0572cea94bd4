-- What the reader's promise gives the calls: the nodes of a good text represent its formula, and every text has a count of states.
-- Assumes nothing.
use Prim.Native.Nat.{ℕ}
use mathlib.Core.Path.{ap}
use mathlib.Core.Bool.{true}
use mathlib.Core.List.{List}
use native.Mathlib.Omega.{arith}
use Rattle.std.specs.Prelude.{Ok, Err}
use Rattle.reader.specs.declared.reading.Unreadable.TheVariants.{TooLong, Bad, TooManyNodes, TooManyOperators}
use Rattle.reader.specs.Formula.{Formula, size, operators}
use Rattle.reader.specs.Marks.{rule_kind}
use Rattle.reader.specs.Reading.{Reading, ReadingOf}
use Rattle.reader.proofs.Unambiguous.{one_formula, never_both}
use Rattle.automaton.specs.Alphabet.{letter_count}
use Rattle.automaton.specs.Discovery.{number_of_states}
use Rattle.automaton.specs.Construction.{CountOf}

-- every text has a count of states: its formula's, or any where it has none within the limits
pub count_of : (i o : ℕ) (text : List ℕ) (ρ : Reading) → ReadingOf i (rule_kind i o) text ρ → (n : ℕ) × CountOf i o text n
unfolding ReadingOf
count_of i o text (Ok n) r = (
  number_of_states r.0 (letter_count i o),
  λ φ g. ap (λ (ψ : Formula). number_of_states ψ (letter_count i o)) (one_formula i o true text r.1.reads g.reads),
)
count_of i o text (Err TooLong) r = (0, λ φ g. let h = g.short in let z : ⊥ = omega (arith, r) in absurd z)
count_of i o text (Err (Bad k)) r = (0, λ φ g. absurd (never_both i o true text g.reads r.1))
count_of i o text (Err TooManyNodes) r =
    (0, λ φ g. let e = ap size (one_formula i o true text r.2 g.reads) in let f = g.few_nodes in let z : ⊥ = omega (arith, r.3) in absurd z)
count_of i o text (Err TooManyOperators) r =
    (0, λ φ g. let e = ap operators (one_formula i o true text r.2 g.reads) in let f = g.few_operators in let z : ⊥ = omega (arith, r.4) in absurd z)

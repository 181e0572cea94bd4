-- `automaton::table::Table::successor` meets its contract. The invariant: the first k pairs of bits of r are those of the next state.
-- Assumes nothing.
use Prim.Native.Nat.{◌*◌, ◌/◌}
use mathlib.Core.Path.{◌≡◌}
use Rattle.automaton.specs.Bits.{of_bits}
use Rattle.automaton.proofs.SuccessorLaws.{held}
use Rattle.automaton.proofs.table.Table.successor.Given as goal

abbrev pub invariant-loop-k : goal.invariant-loop-k
invariant-loop-k l = l.r ≡ of_bits (λ v. held l.self.entries.now l.letter l.state (v / 2)) (2 * l.k)

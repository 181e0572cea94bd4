-- `automaton::tree::Tree::fill_row` meets its contract. The invariant: the entries below k of the row are made, and those in front of the row are kept.
-- Assumes nothing.
use Rattle.std.proofs.Common.{◌≡◌, ℕ, ◌<◌, ◌+◌, ◌*◌, get_or}
use Rattle.automaton.specs.Bits.{bit, of_bits}
use Rattle.automaton.proofs.tree.Tree.fill_row.Given as goal

abbrev pub invariant-loop-k : goal.invariant-loop-k
invariant-loop-k l =
    ((i : ℕ) → i < l.k → get_or l.table (l.first + i) 0 ≡ of_bits (λ j. bit (get_or l.words j 0) (2 * i)) l.self.width)
    × ((i : ℕ) → i < l.first → get_or l.table i 0 ≡ get_or l.initial.table i 0)

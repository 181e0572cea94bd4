-- `automaton::tree::Tree::tabulate` meets its contract. The invariant: the rows of the letters below a hold their valuations. Assumes nothing.
use Rattle.std.proofs.Common.{◌≡◌, ℕ, ◌<◌, ◌+◌, ◌-◌, ◌*◌, ◌^◌, get_or, length}
use Rattle.reader.specs.Formula.{Formula}
use Rattle.automaton.specs.inner.Sizes.{pair_limit}
use Rattle.automaton.specs.Valuation.{present}
use Rattle.automaton.specs.inner.Representation.{Represents}
use Rattle.automaton.proofs.tree.Tree.tabulate.Given as goal

abbrev pub invariant-loop-a : goal.invariant-loop-a
invariant-loop-a l =
    (length l.table ≡ length l.initial.table)
    × ((φ : Formula) → Represents l.self.nodes.now φ → (b k : ℕ) → b < l.a → k < 2 ^ (l.self.width - 1)
    → get_or l.table (b * pair_limit + k) 0 ≡ present φ b (2 * k))

-- `automaton::tree::Tree::satisfied` meets its contract. The invariant: v is the valuation of the letters from i on. Assumes nothing.
use Rattle.std.proofs.Common.{◌≡◌, ◌<◌, drop}
use Rattle.reader.specs.Formula.{Formula}
use Rattle.automaton.specs.inner.Sizes.{vector_limit}
use Rattle.automaton.specs.inner.Representation.{Represents}
use Rattle.automaton.specs.inner.Fold.{valuation}
use Rattle.automaton.proofs.tree.Tree.satisfied.Given as goal

abbrev pub invariant-loop-i : goal.invariant-loop-i
invariant-loop-i l = (l.v < vector_limit) × ((φ : Formula) → Represents l.self.nodes.now φ → l.v ≡ valuation φ (drop l.i l.letters))

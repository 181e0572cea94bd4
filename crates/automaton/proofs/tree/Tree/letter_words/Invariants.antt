-- `automaton::tree::Tree::letter_words` meets its contract. The invariant: the coordinates below j have their words. Assumes nothing.
use Rattle.std.proofs.Common.{◌≡◌, ℕ, ◌<◌, get_or, length}
use Rattle.automaton.specs.inner.Sizes.{coordinate_limit}
use Rattle.automaton.specs.inner.Coordinates.{owner}
use Rattle.automaton.proofs.tree.Tree.letter_words.Given as goal

abbrev pub invariant-loop-j : goal.invariant-loop-j
invariant-loop-j l =
    (length l.made ≡ coordinate_limit) × ((k : ℕ) → k < l.j → get_or l.made k 0 ≡ get_or l.words (owner l.self.nodes.now l.self.places k) 0)

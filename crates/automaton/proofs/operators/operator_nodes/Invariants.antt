-- `automaton::operators::operator_nodes` meets its contract. The invariant: the coordinates of the nodes below i have their last node. Assumes nothing.
use Rattle.std.proofs.Common.{◌≡◌, length}
use Rattle.automaton.specs.inner.Sizes.{coordinate_limit}
use Rattle.automaton.specs.inner.Coordinates.{Located}
use Rattle.automaton.proofs.operators.operator_nodes.Given as goal

abbrev pub invariant-loop-i : goal.invariant-loop-i
invariant-loop-i l = (length l.places ≡ coordinate_limit) × Located l.nodes l.i l.places

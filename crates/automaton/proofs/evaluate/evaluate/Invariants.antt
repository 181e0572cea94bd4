-- `automaton::evaluate::evaluate` meets its contract. The invariant: the nodes below i have their words. Assumes nothing.
use Rattle.std.proofs.Common.{◌≡◌, length}
use Rattle.reader.specs.Limits.{node_limit}
use Rattle.automaton.specs.inner.Evaluation.{Evaluated}
use Rattle.automaton.proofs.evaluate.evaluate.Given as goal

abbrev pub invariant-loop-i : goal.invariant-loop-i
invariant-loop-i l = (length l.words ≡ node_limit) × Evaluated l.nodes l.letter l.words l.i

-- `automaton::evaluate::node_word` meets its contract. The arm of U is answered here: where it is wrong, `grind`, which is tried else, finds no end.
-- Assumes nothing.
use Rattle.std.proofs.Common.{rules}
use Rattle.automaton.specs.inner.Evaluation.{node_word}
use Rattle.automaton.proofs.evaluate.node_word.Goals as goal

pub returns-in-Binary-Until-default-default : goal.returns-in-Binary-Until-default-default
unfolding node_word
returns-in-Binary-Until-default-default c = search rules

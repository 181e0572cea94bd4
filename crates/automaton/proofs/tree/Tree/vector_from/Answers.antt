-- `automaton::tree::Tree::vector_from` meets its contract. Assumes nothing.
use Rattle.automaton.proofs.CoordinateLaws.{vector_small}
use Rattle.automaton.proofs.tree.Tree.vector_from.Goals as goal

pub returns-clause-small : goal.returns-clause-small
returns-clause-small c = vector_small c.args.self.now.width c.gather.result c.args.self.now.fits.few_coordinates c.gather.ensures.below

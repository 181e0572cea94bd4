-- `automaton::tree::Tree::end_vector` meets its contract. Assumes nothing.
use Rattle.std.proofs.Common.{rules, ap, ◌∙◌}
use Rattle.automaton.specs.Bits.{of_bits}
use Rattle.automaton.specs.inner.Coordinates.{end_bit}
use Rattle.automaton.proofs.CoordinateLaws.{ended_vector, vector_small}
use Rattle.automaton.proofs.tree.Tree.end_vector.Goals as goal

pub returns-clause-exact : goal.returns-clause-exact
returns-clause-exact c =
    let t = c.args.self.now in
    let f = end_bit t.nodes.now t.places in
    λ φ rep. c.gather.ensures.exact f (λ k b h p. search rules) ∙ ap (of_bits f) (t.fits.counted φ rep) ∙ ended_vector t.nodes.now t.places φ rep t.fits.located

pub returns-clause-small : goal.returns-clause-small
returns-clause-small c = vector_small c.args.self.now.width c.gather.result c.args.self.now.fits.few_coordinates c.gather.ensures.below

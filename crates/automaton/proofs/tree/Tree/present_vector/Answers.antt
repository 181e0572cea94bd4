-- `automaton::tree::Tree::present_vector` meets its contract. Assumes nothing.
use Rattle.std.proofs.Common.{◌∙◌}
use Rattle.automaton.proofs.CoordinateLaws.{present_from}
use Rattle.automaton.proofs.tree.Tree.present_vector.Goals as goal

pub returns-clause-exact : goal.returns-clause-exact
returns-clause-exact c =
    let t = c.args.self.now in
    λ φ rep. c.vector_from.ensures.exact
    ∙ present_from φ c.args.letter c.letter_words-words.result t.width (t.fits.counted φ rep) (c.letter_words-words.ensures φ rep) c.args.v c.requires

-- `automaton::tree::Tree::letter_words` meets its contract. Assumes nothing.
use Rattle.std.proofs.Common.{arith}
use Rattle.automaton.proofs.CoordinateLaws.{made_present}
use Rattle.automaton.proofs.tree.Tree.letter_words.Goals as goal

pub returns : goal.returns
returns c =
    let t = c.args.self.now in
    λ φ rep. made_present t.nodes.now t.places φ rep t.fits.located c.args.letter c.evaluate-words.result c.evaluate-words.ensures c.loop-j.made
    (λ j h. c.loop-j.invariant.1 j (omega arith))

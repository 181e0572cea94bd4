-- `automaton::tree::Tree::root_value` meets its contract: the root's word has the value at each valuation. Assumes nothing.
use Rattle.std.proofs.Common.{rules, ◌≡◌, ℕ, ap, ◌∙◌, arith, get_or}
use Rattle.automaton.specs.Bits.{bit}
use Rattle.automaton.proofs.CoordinateLaws.{root_bit}
use Rattle.automaton.proofs.tree.Tree.root_value.Goals as goal

pub returns : goal.returns
returns c =
    let nodes = c.args.self.now.nodes.now in
    let read : c.unwrap_or.result ≡ get_or c.evaluate-words.result c.saturating_sub-root.result 0 = search rules in
    let word = read ∙ ap (λ (k : ℕ). get_or c.evaluate-words.result k 0) c.saturating_sub-root.ensures in
    λ φ rep. c.test_bit.ensures ∙ ap (λ (x : ℕ). bit x 0) word
    ∙ root_bit nodes φ rep c.args.letter c.evaluate-words.result c.evaluate-words.ensures 0 (omega arith)

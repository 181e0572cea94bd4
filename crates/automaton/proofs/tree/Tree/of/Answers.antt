-- `automaton::tree::Tree::of` meets its contract. Assumes nothing.
use Rattle.std.proofs.Common.{◌∙◌, arith}
use Rattle.automaton.proofs.NodeLaws.{represented_length}
use Rattle.automaton.proofs.OperatorLaws.{all_counted}
use Rattle.automaton.proofs.tree.Tree.of.Goals as goal

pub invariant_of-result : goal.invariant_of-result
invariant_of-result c =
    let φ = c.requires.0 in
    let rep = c.requires.1 in
    let few = rep.few_operators in
    let count = c.operator_count.ensures ∙ all_counted c.args.nodes.now φ rep in
    record {
      fits = record {
        few_nodes = omega (arith, represented_length c.args.nodes.now φ rep, rep.few_nodes);
        located = c.operator_nodes.ensures;
        one_coordinate = omega arith;
        few_coordinates = omega (arith, count, few);
        counted = λ ψ r. omega (arith, c.operator_count.ensures, all_counted c.args.nodes.now ψ r);
      };
    }

-- `automaton::tree::Tree::pairs` meets its contract. Assumes nothing.
use Rattle.std.proofs.Common.{◌-◌, arith}
use Rattle.automaton.proofs.BitLaws.{one_shifted, pairs_few}
use Rattle.automaton.proofs.tree.Tree.pairs.Goals as goal

pub returns-clause-few : goal.returns-clause-few
returns-clause-few c =
    let few = c.args.self.now.fits.few_coordinates in
    rw (one_shifted (c.args.self.now.width - 1) (omega (arith, few))) (pairs_few c.args.self.now.width few)

-- `automaton::alphabet::first_over` meets its contract. Assumes nothing.
use lib.Dec.{leb}
use Rattle.std.proofs.Common.{rules, tests}
use Rattle.std.proofs.lemmas.Iterator.{YieldsList-from_slice}
use Rattle.std.proofs.lemmas.Iterator.Search.{position_from_yields_List}
use Rattle.automaton.proofs.FirstOverLaws.{over_position}
use Rattle.automaton.proofs.alphabet.first_over.Goals as goal

pub returns : goal.returns
returns c =
    let w = c.args.bytes.now in
    over_position c.args.bound w c.position.result
    (position_from_yields_List (leb c.args.bound) _ _ _ c.position.ensures.ran (YieldsList-from_slice w c.iter.ensures.rest) (λ x b q k. search (rules, tests)))

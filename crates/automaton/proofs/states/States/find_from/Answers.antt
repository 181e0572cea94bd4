-- `automaton::states::States::find_from` meets its contract. Assumes nothing.
use Rattle.automaton.proofs.StateListLaws.{found_first}
use Rattle.automaton.proofs.states.States.find_from.Goals as goal

pub returns : goal.returns
returns c = found_first c.args.self.now c.args.x c.search.result c.search.ensures

-- `automaton::twins::TwinTable::twin` meets its contract. Assumes nothing.
use Rattle.automaton.proofs.TwinLaws.{twin_after}
use Rattle.automaton.proofs.twins.TwinTable.twin.Goals as goal

pub returns-clause-same : goal.returns-clause-same
returns-clause-same c φ t state =
    twin_after φ c.args.self.table.letters c.args.self.table.vectors c.args.letter c.from.result state c.args.self.table.entries.now c.args.self.twins.now
    t.entries t.vectors c.args.self.same_rows c.requires c.from.ensures

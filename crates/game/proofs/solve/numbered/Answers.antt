-- `game::solve::numbered` meets its contract: fair, the start's rank; stable, what `narrow` and `widen` find.
-- Assumes nothing.
use Rattle.std.proofs.Common.{sym, ◌∙◌}
use Rattle.game.proofs.SolutionLaws.{solves_fair, asks_narrow}
use Rattle.game.proofs.solve.numbered.Goals as goal

pub returns-then-is_fair : goal.returns-then-is_fair
returns-then-is_fair c =
    solves_fair c.requires.start_lt_states c.requires.found (sym c.is_fair.ensures ∙ c.if-is_fair.true) _

pub narrow-needs-requires : goal.narrow-needs-requires
narrow-needs-requires c =
    let q = asks_narrow c.requires.start_lt_states c.requires.found (sym c.is_fair.ensures ∙ c.if-is_fair.false) c.if-players-start-ne0.false in
    record { start_lt_states = (c.requires.start_lt_states, q.0); of_system = q.1 }

pub widen-requires-clause-of_system : goal.widen-requires-clause-of_system
widen-requires-clause-of_system c =
    (asks_narrow c.requires.start_lt_states c.requires.found (sym c.is_fair.ensures ∙ c.if-is_fair.false) c.if-players-start-ne0.false).1

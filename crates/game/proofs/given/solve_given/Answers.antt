-- `game::given::solve_given` meets its contract: the refusal that comes first, or the tables and the verdict of the game of these numbers.
-- Assumes nothing.
use Rattle.std.proofs.Common.{◌*◌, ◌<◌, ◌≤◌, length, sym, subst}
use Rattle.plays.specs.Arena.{Arena}
use Rattle.game.proofs.GivenLaws.{accepted}
use Rattle.game.proofs.given.solve_given.Goals as goal

pub decide-round-requires : goal.decide-round-requires
decide-round-requires c =
    let g = c.in_ok-game.ensures in
    let w = accepted c.args.i c.args.o c.args.start c.args.n c.args.transitions.now c.args.accepting.now c.args.mask c.args.system.now c.args.environment.now g.0 in
    let fits = subst (λ (G : Arena). (c.args.start < G.states)
    × ((0 < G.inputs) × (0 < G.outputs) × (G.states * G.inputs ≤ length c.args.system.now) × (G.states ≤ length c.args.environment.now)))
    (sym g.2) (w.start_fits, (w.inputs_some, w.outputs_some, w.system_long, w.environment_long)) in
    record { start_lt_states = fits.0; inputs_nonzero = fits.1 }

-- `listing::render::Tables::put_states` meets its contract: each turn writes one state's line more.
-- Assumes nothing.
use Rattle.listing.specs.Listing.{state_lines}
use Rattle.listing.proofs.WritingLaws.{nothing_put}
use Rattle.listing.proofs.RenderingLaws.{lines_put}
use Rattle.listing.proofs.render.Tables.put_states.Goals as goal

pub loop-s-init : goal.loop-s-init
unfolding state_lines
loop-s-init c = nothing_put c.args.out.now

pub loop-s-preserved : goal.loop-s-preserved
loop-s-preserved c =
    lines_put c.args.self.inputs c.args.self.accepting.now c.args.self.system.now c.args.self.environment.now c.loop-s.s c.loop-s.invariant
    c.put_state.ensures

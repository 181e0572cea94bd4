-- `game::needs::Needs::settle` meets its contract. The invariant: the system is beaten as the needs say, and no state has one anew. The measure is how much the needs
-- can still rise.
-- Assumes nothing.
use Rattle.std.proofs.Common.{arith}
use Rattle.game.proofs.HeightLaws.{sum_bound, sum_more}
use Rattle.game.proofs.needs.Needs.settle.Goals as goal

pub loop-self-smaller : goal.loop-self-smaller
loop-self-smaller c =
    let m = c.sweep.ensures.swept.more c.if-sweep.true in
    omega (
      arith,
      sum_more c.loop-self.self.ranks c.sweep.new.self.ranks c.sweep.ensures.swept.rises m.0 m.2 c.args.g.now.states m.1,
      sum_bound c.sweep.new.self.ranks c.sweep.ensures.swept.bounds.small c.args.g.now.states,
    )

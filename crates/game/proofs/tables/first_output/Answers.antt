-- `game::tables::first_output` meets its contract. Invariant: the search stops at no output below y.
-- Assumes nothing.
use Rattle.std.proofs.Common.{sym, below_more}
use Rattle.game.specs.inner.Game.{arena_of}
use Rattle.game.proofs.TableLaws.{stops_at_goal, stops_at_state, goes_on}
use Rattle.game.proofs.tables.first_output.Goals as goal
use Rattle.game.proofs.tables.first_output.Goals.{then-g-t-ne0-via-then-g-t-ne0, then-g-t-ne0-via-else-g-t-ne0+then-stops}

pub returns-then-g-t-ne0 : goal.returns-then-g-t-ne0
returns-then-g-t-ne0 g c p says =
    let G = arena_of c.args.g.now in
    let t = c.enters-t.result in
    let is = c.enters-t.ensures.next in (
      c.loop-y-test.true,
      c.loop-y.invariant p says,
      (elim c.then-g-t-ne0.branch [
        | then-g-t-ne0-via-then-g-t-ne0 w ↦ stops_at_goal G p c.args.s c.args.x c.loop-y.y t is w.if-g-t-ne0.true
        | then-g-t-ne0-via-else-g-t-ne0+then-stops w ↦
            stops_at_state G p c.args.s c.args.x c.loop-y.y t is (sym (says t _ c.enters-t.ensures.below w.if-stops.ensures))
      ]),
    )

pub loop-y-preserved : goal.loop-y-preserved
loop-y-preserved g c p says =
    let t = c.enters-t.result in
    below_more _ _ (c.loop-y.invariant p says)
    (goes_on (arena_of c.args.g.now) p c.args.s c.args.x c.loop-y.y t c.enters-t.ensures.next c.if-g-t-ne0.false
    (sym (says t _ c.enters-t.ensures.below c.if-stops.ensures)))

-- `game::tables::EnvironmentRanks::input` meets its contract. Invariant: the ranks allow no input below x. They allow one, so the loop does not run to its end.
-- Assumes nothing.
use Rattle.std.proofs.Common.{rules, below_more, arith, ◌<◌, ◌≡◌, not, get_or}
use Rattle.std.proofs.Math.Logic.{∥∥₁_elim}
use Rattle.plays.specs.Arena.{lacks}
use Rattle.plays.specs.inner.Rank.{is_fair}
use Rattle.game.specs.inner.Game.{arena_of}
use Rattle.game.specs.inner.Bytes.{limit_of, is_below}
use Rattle.game.proofs.TableLaws.{input_allowed, input_refused}
use Rattle.game.proofs.tables.EnvironmentRanks.input.Goals as goal

pub returns-then-is_none : goal.returns-then-is_none
returns-then-is_none c =
    let me = c.args.self.now in
    let g = me.game.now in
    let p : 0 < get_or me.ranks.now c.args.s 0 = search rules in
    let limit : c.limit-most.result ≡ limit_of (not (is_fair g.mode)) g.states (lacks (arena_of g) c.loop-x.x) (get_or me.ranks.now c.args.s 0) =
    search rules in
    let none = c.first_output.ensures (λ t. not (is_below me.ranks.now c.limit-most.result t)) (λ t b l h. search rules) in (
      p,
      record {
        has = input_allowed (is_fair g.mode) (arena_of g) me.ranks.now c.args.s c.loop-x.x c.limit-most.result limit c.loop-x-test.true
            c.first_output.result c.if-is_none.ensures none;
        lowest = c.loop-x.invariant;
      },
    )

pub loop-x-preserved : goal.loop-x-preserved
loop-x-preserved c =
    let me = c.args.self.now in
    let g = me.game.now in
    let limit : c.limit-most.result ≡ limit_of (not (is_fair g.mode)) g.states (lacks (arena_of g) c.loop-x.x) (get_or me.ranks.now c.args.s 0) =
    search rules in
    let some = c.first_output.ensures (λ t. not (is_below me.ranks.now c.limit-most.result t)) (λ t b l h. search rules) in
    below_more _ _ c.loop-x.invariant
    (input_refused (is_fair g.mode) (arena_of g) me.ranks.now c.args.s c.loop-x.x c.limit-most.result limit c.first_output.result c.if-is_none.ensures some)

pub returns : goal.returns
returns c =
    let p : 0 < get_or c.args.self.now.ranks.now c.args.s 0 = search rules in
    absurd (∥∥₁_elim c.args.self.now.ranked (λ a b. absurd a)
    (λ h. let w = h.forced c.args.s p in c.loop-x.invariant w.0 (omega (arith, w.1, c.loop-x-test.false)) (w.1, w.2)))

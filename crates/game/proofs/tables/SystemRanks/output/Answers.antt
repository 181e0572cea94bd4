-- `game::tables::SystemRanks::output` meets its contract: the search ends at an output that the ranks allow, and they allow one.
-- Assumes nothing.
use Rattle.std.proofs.Common.{rules, ◌<◌, get_or, ◌≡◌}
use Rattle.plays.specs.Arena.{holds}
use Rattle.plays.specs.inner.Rank.{is_fair}
use Rattle.game.specs.inner.Game.{arena_of}
use Rattle.game.specs.inner.Bytes.{limit_of, is_below}
use Rattle.game.proofs.TableLaws.{output_move}
use Rattle.game.proofs.tables.SystemRanks.output.Goals as goal

pub returns : goal.returns
returns c =
    let me = c.args.self.now in
    let g = me.game.now in
    let p : 0 < get_or me.ranks.now c.args.s 0 = search rules in
    let limit : c.limit-most.result ≡ limit_of (is_fair g.mode) me.cap (holds (arena_of g) c.args.x) (get_or me.ranks.now c.args.s 0) = search rules in
    output_move (is_fair g.mode) (arena_of g) me.cap me.ranks.now c.args.s c.args.x c.limit-most.result limit p c.requires.1 me.ranked
    c.first_output.result (c.first_output.ensures (is_below me.ranks.now c.limit-most.result) (λ t b l h. search rules))

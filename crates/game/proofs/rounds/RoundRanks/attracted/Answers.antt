-- `game::rounds::RoundRanks::attracted` meets its contract: a ranked state is left, and the first unserved input decides on the others.
-- Assumes nothing.
use Rattle.std.proofs.Common.{Bool, sym, ◌∙◌, subst}
use Rattle.plays.specs.inner.Rank.{is_fair}
use Rattle.game.specs.inner.Game.{arena_of}
use Rattle.game.specs.inner.Rounds.{Attracted}
use Rattle.game.proofs.ServingLaws.{swap_not}
use Rattle.game.proofs.AttractionLaws.{attracted_fair, attracted_stable}
use Rattle.game.proofs.rounds.RoundRanks.attracted.Goals as goal

pub returns-then-is_fair : goal.returns-then-is_fair
returns-then-is_fair c =
    let g = c.args.g.now in
    let me = c.args.self.now in
    let u = c.unranked.ensures.unranked c.if-not-unranked.false in
    subst (λ (b : Bool). Attracted (is_fair g.mode) (arena_of g) me.outer me.inner c.args.p c.args.s b) (sym c.is_some.ensures)
    (attracted_fair c.requires.apart u (sym c.is_fair.ensures ∙ c.if-is_fair.true) _ c.unserved.ensures)

pub returns-else-is_fair : goal.returns-else-is_fair
returns-else-is_fair c =
    let g = c.args.g.now in
    let me = c.args.self.now in
    let u = c.unranked.ensures.unranked c.if-not-unranked.false in
    subst (λ (b : Bool). Attracted (is_fair g.mode) (arena_of g) me.outer me.inner c.args.p c.args.s b) (sym (swap_not _ _ c.is_none.ensures))
    (attracted_stable c.requires.apart u (sym c.is_fair.ensures ∙ c.if-is_fair.false) _ c.unserved-else-is_fair.ensures)

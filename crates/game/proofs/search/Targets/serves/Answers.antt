-- `game::search::Targets::serves` meets its contract: the test on the entered state, in the order in which the code asks.
-- Assumes nothing.
use Rattle.std.proofs.Common.{sym, ap, ◌∙◌}
use Rattle.game.specs.inner.Game.{arena_of}
use Rattle.game.specs.inner.Serving.{serving_at}
use Rattle.game.specs.inner.Targets.{won_by, safe_by}
use Rattle.game.proofs.ServingLaws.{at_goal, at_condition, at_else}
use Rattle.game.proofs.search.Targets.serves.Goals as goal

pub returns-then-g-t-ne0 : goal.returns-then-g-t-ne0
returns-then-g-t-ne0 c =
    sym (at_goal (arena_of c.args.g.now) (won_by c.args.self.now) (safe_by c.args.self.now) c.args.x c.enters-t.result c.if-g-t-ne0.true)
    ∙ ap (serving_at (arena_of c.args.g.now) (won_by c.args.self.now) (safe_by c.args.self.now) c.args.x) c.enters-t.ensures.next

pub returns-then-has_condition : goal.returns-then-has_condition
returns-then-has_condition c =
    c.contains.ensures
    ∙ sym (at_condition (arena_of c.args.g.now) (won_by c.args.self.now) (safe_by c.args.self.now) c.args.x c.enters-t.result c.if-g-t-ne0.false
    (sym c.has_condition.ensures ∙ c.if-has_condition.true))
    ∙ ap (serving_at (arena_of c.args.g.now) (won_by c.args.self.now) (safe_by c.args.self.now) c.args.x) c.enters-t.ensures.next

pub returns : goal.returns
returns c =
    c.is_safe.ensures
    ∙ sym (at_else (arena_of c.args.g.now) (won_by c.args.self.now) (safe_by c.args.self.now) c.args.x c.enters-t.result c.if-g-t-ne0.false
    (sym c.has_condition.ensures ∙ c.if-has_condition.false))
    ∙ ap (serving_at (arena_of c.args.g.now) (won_by c.args.self.now) (safe_by c.args.self.now) c.args.x) c.enters-t.ensures.next

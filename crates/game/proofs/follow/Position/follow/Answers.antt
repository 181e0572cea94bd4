-- `game::follow::Position::follow` meets its contract: the first two tests, and then the step on the arena of these numbers.
-- Assumes nothing.
use Rattle.std.proofs.Common.{◌≡◌, subst}
use Rattle.std.proofs.lemmas.Result.{err_from_is_err_and}
use Rattle.plays.specs.Arena.{Arena, arena}
use Rattle.game.specs.Follower.{later_followed}
use Rattle.game.proofs.FollowLaws.{unsized, followed_later, followed_by}
use Rattle.game.proofs.follow.Position.follow.Goals as goal

pub returns-in_err-automaton : goal.returns-in_err-automaton
returns-in_err-automaton c =
    let p = err_from_is_err_and c.from_residual.result c.from_residual.ensures.1 in
    rw (p.1, p.2)
    (followed_by c.args.i c.args.o (arena c.args.i c.args.o c.args.n c.args.transitions.now c.args.accepting.now 0) c.args.system.now c.args.self c.args.x _
    (unsized c.args.i c.args.o (arena c.args.i c.args.o c.args.n c.args.transitions.now c.args.accepting.now 0) c.args.system.now c.args.self c.args.x _
    c.in_err-automaton.ensures))

pub returns : goal.returns
returns c =
    let s = c.in_ok-automaton.ensures in
    followed_by c.args.i c.args.o (arena c.args.i c.args.o c.args.n c.args.transitions.now c.args.accepting.now 0) c.args.system.now c.args.self c.args.x c.step.result
    (followed_later c.args.i c.args.o (arena c.args.i c.args.o c.args.n c.args.transitions.now c.args.accepting.now 0) c.args.system.now c.args.self c.args.x s.0 s.1
    c.step.result
    (subst (λ (G : Arena). c.step.result ≡ later_followed G c.args.system.now c.args.self c.args.x) (s.2 0) c.step.ensures))

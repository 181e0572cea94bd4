-- `game::rounds::rounds` meets its contract. The invariant: the outer ranks are those of the rounds before r, at least r - 1 states have one, and the inner
-- ranks are complete against them. The measure is the number of rounds that there can still be.
-- Assumes nothing.
use Rattle.std.proofs.Common.{ℕ, ◌≤◌, ◌+◌, List, replicate, sym, ◌∙◌, subst, arith}
use Rattle.automaton.specs.Limits.{state_limit}
use Rattle.plays.specs.inner.Rank.{is_fair}
use Rattle.game.specs.inner.Game.{arena_of}
use Rattle.game.specs.inner.Rounds.{Attraction, Found}
use Rattle.game.proofs.CountLaws.{ranked_count, count_bound, count_grows}
use Rattle.game.proofs.LimitLaws.{zeros}
use Rattle.game.proofs.OuterRankLaws.{OuterRanks, no_rounds, round_more, round_grows, rounds_end, found_fair, found_stable}
use Rattle.game.proofs.rounds.rounds.Goals as goal

pub loop-r-init : goal.loop-r-init
loop-r-init c =
    subst
    (λ (outer : List ℕ). OuterRanks (is_fair c.args.g.now.mode) (arena_of c.args.g.now) outer 1
    × Attraction (is_fair c.args.g.now.mode) (arena_of c.args.g.now) outer c.attract.new.self.inner × (1 ≤ ranked_count outer c.args.g.now.states + 1))
    (sym c.attract.ensures.outer) (no_rounds (replicate state_limit 0) (zeros state_limit), c.attract.ensures.attraction, omega arith)

pub overflow_add-r : goal.overflow_add-r
overflow_add-r c =
    let g = c.args.g.now in
    let promoted = c.promote.ensures.promoted in
    let grows = round_grows g.valid c.loop-r.invariant.0 c.loop-r.invariant.1 promoted c.loop-r-test.true in
    omega (arith, c.loop-r.invariant.2, count_grows c.loop-r.ranks.outer c.promote.new.self.outer promoted.extends g.states grows, g.valid.moving.states_fit)

pub loop-r-smaller : goal.loop-r-smaller
loop-r-smaller c =
    let g = c.args.g.now in
    let promoted = c.promote.ensures.promoted in
    let grows = round_grows g.valid c.loop-r.invariant.0 c.loop-r.invariant.1 promoted c.loop-r-test.true in
    omega (arith, c.loop-r.invariant.2, count_grows c.loop-r.ranks.outer c.promote.new.self.outer promoted.extends g.states grows)

pub loop-r-preserved : goal.loop-r-preserved
loop-r-preserved c =
    let g = c.args.g.now in
    let promoted = c.promote.ensures.promoted in
    let grows = round_grows g.valid c.loop-r.invariant.0 c.loop-r.invariant.1 promoted c.loop-r-test.true in
    let count = count_grows c.loop-r.ranks.outer c.promote.new.self.outer promoted.extends g.states grows in
    subst
    (λ (outer : List ℕ). OuterRanks (is_fair g.mode) (arena_of g) outer (c.loop-r.r + 1)
    × Attraction (is_fair g.mode) (arena_of g) outer c.attract-in-loop-r.new.self.inner
    × (c.loop-r.r + 1 ≤ ranked_count outer g.states + 1))
    (sym c.attract-in-loop-r.ensures.outer) (
      round_more g.valid c.loop-r.invariant.0 c.loop-r.invariant.1 promoted (omega (arith, c.loop-r.invariant.2, count)),
      c.attract-in-loop-r.ensures.attraction,
      omega (arith, c.loop-r.invariant.2, count),
    )

pub returns-then-is_fair : goal.returns-then-is_fair
returns-then-is_fair c =
    subst (λ (inner : List ℕ). Found (is_fair c.args.g.now.mode) (arena_of c.args.g.now) c.promote.new.self.outer inner) (sym c.promote.ensures.inner)
    (found_fair (sym c.is_fair.ensures ∙ c.if-is_fair.true)
    (rounds_end c.args.g.now.valid c.loop-r.invariant.0 c.loop-r.invariant.1 c.promote.ensures.promoted c.loop-r-test.false
    (omega (arith, count_bound c.loop-r.ranks.outer c.args.g.now.states, c.loop-r.invariant.2))))

pub returns : goal.returns
returns c =
    subst (λ (inner : List ℕ). Found (is_fair c.args.g.now.mode) (arena_of c.args.g.now) inner c.promote.new.self.outer) (sym c.promote.ensures.inner)
    (found_stable (sym c.is_fair.ensures ∙ c.if-is_fair.false)
    (rounds_end c.args.g.now.valid c.loop-r.invariant.0 c.loop-r.invariant.1 c.promote.ensures.promoted c.loop-r-test.false
    (omega (arith, count_bound c.loop-r.ranks.outer c.args.g.now.states, c.loop-r.invariant.2))))

-- `game::rounds::RoundRanks::attract` meets its contract. The invariant: the ranks are those of the passes before p, a state that a pass left out stays
-- kept from the ranks below that pass, and at least p - 1 states have a rank. The measure is the number of passes that there can still be.
-- Assumes nothing.
use Rattle.std.proofs.Common.{◌∙◌, replicate, List, ℕ, subst, refl, arith}
use Rattle.automaton.specs.Limits.{state_limit}
use Rattle.plays.specs.inner.Rank.{is_fair}
use Rattle.game.specs.inner.Game.{arena_of}
use Rattle.game.specs.inner.Rounds.{Passed}
use Rattle.game.proofs.CountLaws.{count_bound, count_grows}
use Rattle.game.proofs.LimitLaws.{zeros}
use Rattle.game.proofs.PassLaws.{no_ranks, no_passes, pass_stayed, passes_end}
use Rattle.game.proofs.rounds.RoundRanks.attract.Goals as goal

pub loop-p-init : goal.loop-p-init
loop-p-init c = (
  no_ranks (replicate state_limit 0) (zeros state_limit),
  no_passes (is_fair c.args.g.now.mode) (arena_of c.args.g.now) c.args.self.now.outer (replicate state_limit 0),
  omega arith,
  refl,
)

pub overflow_add-p : goal.overflow_add-p
overflow_add-p c =
    let g = c.args.g.now in
    let passed = c.pass.ensures.passed in
    omega (
      arith,
      g.valid.moving.states_fit,
      c.loop-p.invariant.2,
      count_grows c.loop-p.self.inner c.pass.new.self.inner passed.extends g.states (passed.more c.loop-p-test.true),
    )

pub loop-p-smaller : goal.loop-p-smaller
loop-p-smaller c =
    let g = c.args.g.now in
    let passed = c.pass.ensures.passed in
    omega (arith, c.loop-p.invariant.2, count_grows c.loop-p.self.inner c.pass.new.self.inner passed.extends g.states (passed.more c.loop-p-test.true))

pub loop-p-preserved : goal.loop-p-preserved
loop-p-preserved c =
    let g = c.args.g.now in
    let passed = subst
    (λ (outer : List ℕ). Passed (is_fair g.mode) (arena_of g) outer c.loop-p.self.inner c.pass.new.self.inner c.loop-p.p g.states c.pass.result)
    c.loop-p.invariant.3 c.pass.ensures.passed in (
      passed.ranks,
      pass_stayed passed,
      omega (arith, c.loop-p.invariant.2, count_grows c.loop-p.self.inner c.pass.new.self.inner passed.extends g.states (passed.more c.loop-p-test.true)),
      c.pass.ensures.outer ∙ c.loop-p.invariant.3,
    )

pub returns-clause-attraction : goal.returns-clause-attraction
returns-clause-attraction c =
    let g = c.args.g.now in
    let passed = subst
    (λ (outer : List ℕ). Passed (is_fair g.mode) (arena_of g) outer c.loop-p.self.inner c.pass.new.self.inner c.loop-p.p g.states c.pass.result)
    c.loop-p.invariant.3 c.pass.ensures.passed in
    passes_end g.valid (omega (arith, c.loop-p.invariant.2, count_bound c.loop-p.self.inner g.states)) c.loop-p.invariant.0 passed c.loop-p-test.false

-- `game::needs::Needs::widen` meets its contract. The invariant: the needs are those of the passes before p, which is at most n + 1 more than the number of states
-- with one. The measure is the number of passes that there can still be.
-- Assumes nothing.
use Rattle.std.proofs.Common.{ℕ, ◌+◌, ◌≤◌, List, ◌⊎◌, ⊎_elim, ◌∙◌, arith}
use Rattle.game.specs.inner.Rounds.{Extends, Grows}
use Rattle.game.proofs.CountLaws.{ranked_count, count_bound, count_more}
use Rattle.game.proofs.WidenLaws.{widens_on, widens_more, widens_end}
use Rattle.game.proofs.needs.Needs.widen.Goals as goal

pub pass-requires-clause-p_fits : goal.pass-requires-clause-p_fits
pass-requires-clause-p_fits c =
    omega (arith, c.loop-due.invariant.1, count_bound c.loop-due.self.ranks c.args.g.now.states, c.args.g.now.valid.moving.states_fit)

-- after a pass that goes on the next is no later than the invariant allows: the pass gave a state its need, or it is one of the first n
going_on : (p n : ℕ) (old new : List ℕ) → Extends old new → Grows n old new ⊎ (p ≤ n) → p ≤ n + 1 + ranked_count old n
    → (p + 1 ≤ n + 1 + ranked_count new n) × (ranked_count new n ≤ n)
going_on p n old new extends more few = (
  ⊎_elim (λ g. omega (arith, count_more old new extends n g, few)) (λ l. omega arith) more,
  count_bound new n,
)

pub overflow_add-p-in-loop-due : goal.overflow_add-p-in-loop-due
overflow_add-p-in-loop-due c =
    omega (
      arith,
      going_on c.loop-due.p c.args.g.now.states c.loop-due.self.ranks c.pass.new.self.ranks c.pass.ensures.widened.extends (c.pass.ensures.widened.more c.loop-due-test.true)
          c.loop-due.invariant.1,
      c.args.g.now.valid.moving.states_fit,
    )

pub loop-due-smaller : goal.loop-due-smaller
loop-due-smaller c =
    omega (
      arith,
      going_on c.loop-due.p c.args.g.now.states c.loop-due.self.ranks c.pass.new.self.ranks c.pass.ensures.widened.extends (c.pass.ensures.widened.more c.loop-due-test.true)
          c.loop-due.invariant.1,
    )

pub loop-due-preserved : goal.loop-due-preserved
loop-due-preserved c = (
  widens_more c.pass.ensures.widened,
  (going_on c.loop-due.p c.args.g.now.states c.loop-due.self.ranks c.pass.new.self.ranks c.pass.ensures.widened.extends (c.pass.ensures.widened.more c.loop-due-test.true)
      c.loop-due.invariant.1).0,
  widens_on c.args.self.now.ranks c.pass.ensures.widened c.loop-due.invariant.2,
  c.pass.ensures.limit_kept ∙ c.loop-due.invariant.3,
)

pub returns-clause-wide : goal.returns-clause-wide
returns-clause-wide c =
    widens_end c.pass.ensures.widened c.args.g.now.valid c.loop-due-test.false c.loop-due.invariant.2

-- `game::follow::Position::step` meets its contract: each return by the test that decides; the row is below the table's length.
-- Assumes nothing.
use Rattle.std.proofs.Common.{◌≡◌, ℕ, ◌<◌, ◌≤◌, true, ◌||◌, sym, ◌∙◌, subst, arith}
use Rattle.game.specs.inner.Checks.{arena_at}
use Rattle.game.specs.Given.{short_read, short_strategy}
use Rattle.game.proofs.FollowLaws.{short_refused, state_refused, input_refused, no_row, moved}
use Rattle.game.proofs.follow.Position.step.Goals as goal
use Rattle.game.proofs.follow.Position.step.Goals.{then-is_short-via-then-is_short, then-is_short-via-else-is_short+then-short_strategy}

pub returns-then-is_short : goal.returns-then-is_short
returns-then-is_short c =
    let short : (short_read (arena_at c.args.automaton.now 0) || short_strategy (arena_at c.args.automaton.now 0) c.args.system.now) ≡ true =
    elim c.then-is_short.branch [
      | then-is_short-via-then-is_short w ↦ rw (sym c.is_short.ensures ∙ w.if-is_short.true)
      | then-is_short-via-else-is_short+then-short_strategy w ↦
          rw (sym c.is_short.ensures ∙ w.if-is_short.false, sym w.short_strategy.ensures ∙ w.if-short_strategy.true)
    ] in
    short_refused (arena_at c.args.automaton.now 0) c.args.system.now c.args.self c.args.x short

pub returns-then-states-s : goal.returns-then-states-s
returns-then-states-s c =
    state_refused (arena_at c.args.automaton.now 0) c.args.system.now c.args.self c.args.x
    (sym c.is_short.ensures ∙ c.if-is_short.false) (sym c.short_strategy.ensures ∙ c.if-short_strategy.false) c.if-states-s.true

pub returns-then-inputs-x : goal.returns-then-inputs-x
returns-then-inputs-x c =
    input_refused (arena_at c.args.automaton.now 0) c.args.system.now c.args.self c.args.x
    (sym c.is_short.ensures ∙ c.if-is_short.false) (sym c.short_strategy.ensures ∙ c.if-short_strategy.false) (omega arith) c.if-inputs-x.true

pub returns-then-automaton-from : goal.returns-then-automaton-from
returns-then-automaton-from c =
    no_row (arena_at c.args.automaton.now 0) c.args.system.now c.args.self c.args.x
    (sym c.is_short.ensures ∙ c.if-is_short.false) (sym c.short_strategy.ensures ∙ c.if-short_strategy.false) c.if-states-s.false c.if-inputs-x.false
    (subst (λ (v : ℕ). c.args.automaton.now.outputs ≤ v) c.from.ensures c.if-automaton-from.true)

pub returns : goal.returns
returns c =
    moved (arena_at c.args.automaton.now 0) c.args.system.now c.args.self c.args.x
    (sym c.is_short.ensures ∙ c.if-is_short.false) (sym c.short_strategy.ensures ∙ c.if-short_strategy.false) c.if-states-s.false c.if-inputs-x.false
    (subst (λ (v : ℕ). v < c.args.automaton.now.outputs) c.from.ensures c.if-automaton-from.false) c.moved_by.result c.moved_by.ensures

-- `game::given::later_refusal` meets its contract: each return by the test that decides.
-- Assumes nothing.
use Rattle.std.proofs.Common.{◌≡◌, true, ◌||◌, sym, ◌∙◌}
use Rattle.game.specs.inner.Checks.{arena_at}
use Rattle.game.specs.Given.{short_read, short_tables}
use Rattle.game.proofs.GivenLaws.{short_refused, state_refused, move_refused, mask_refused, unmet_refused, none_refused}
use Rattle.game.proofs.MetLaws.{empty_mask, some_mask}
use Rattle.game.proofs.given.later_refusal.Goals as goal
use Rattle.game.proofs.given.later_refusal.Goals.{then-is_short-via-then-is_short, then-is_short-via-else-is_short+then-short_tables}

pub returns-then-is_short : goal.returns-then-is_short
returns-then-is_short c =
    let short : (short_read (arena_at c.args.automaton.now c.args.mask) || short_tables (arena_at c.args.automaton.now c.args.mask) c.args.system.now c.args.environment.now) ≡ true =
    elim c.then-is_short.branch [
      | then-is_short-via-then-is_short w ↦ rw (sym c.is_short.ensures ∙ w.if-is_short.true)
      | then-is_short-via-else-is_short+then-short_tables w ↦
          rw (sym c.is_short.ensures ∙ w.if-is_short.false, sym w.short_tables.ensures ∙ w.if-short_tables.true)
    ] in
    short_refused c.args.start (arena_at c.args.automaton.now c.args.mask) c.args.system.now c.args.environment.now short

pub returns-then-states-start : goal.returns-then-states-start
returns-then-states-start c =
    state_refused c.args.start (arena_at c.args.automaton.now c.args.mask) c.args.system.now c.args.environment.now
    (sym c.is_short.ensures ∙ c.if-is_short.false)
    (sym c.short_tables.ensures ∙ c.if-short_tables.false) c.if-states-start.true

pub returns-in-Some : goal.returns-in-Some
returns-in-Some c =
    move_refused c.args.start (arena_at c.args.automaton.now c.args.mask) c.args.system.now c.args.environment.now (sym c.is_short.ensures ∙ c.if-is_short.false) (sym c.short_tables.ensures ∙ c.if-short_tables.false) c.if-states-start.false
    c.in-Some.k c.in-Some.ensures

pub returns-then-bad_mask : goal.returns-then-bad_mask
returns-then-bad_mask c =
    mask_refused c.args.start (arena_at c.args.automaton.now c.args.mask) c.args.system.now c.args.environment.now (sym c.is_short.ensures ∙ c.if-is_short.false) (sym c.short_tables.ensures ∙ c.if-short_tables.false) c.if-states-start.false
    c.in_default.ensures (sym c.bad_mask.ensures ∙ c.if-bad_mask.true)

pub returns-then-mask-eq0 : goal.returns-then-mask-eq0
returns-then-mask-eq0 c =
    unmet_refused c.args.start (arena_at c.args.automaton.now c.args.mask) c.args.system.now c.args.environment.now (sym c.is_short.ensures ∙ c.if-is_short.false) (sym c.short_tables.ensures ∙ c.if-short_tables.false) c.if-states-start.false
    c.in_default.ensures (sym c.bad_mask.ensures ∙ c.if-bad_mask.false) (empty_mask (arena_at c.args.automaton.now c.args.mask) c.if-mask-eq0.true)

pub returns : goal.returns
returns c =
    none_refused c.args.start (arena_at c.args.automaton.now c.args.mask) c.args.system.now c.args.environment.now (sym c.is_short.ensures ∙ c.if-is_short.false) (sym c.short_tables.ensures ∙ c.if-short_tables.false) c.if-states-start.false
    c.in_default.ensures (sym c.bad_mask.ensures ∙ c.if-bad_mask.false) (some_mask (arena_at c.args.automaton.now c.args.mask) (sym c.bad_mask.ensures ∙ c.if-bad_mask.false) c.if-mask-eq0.false)

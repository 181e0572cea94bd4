-- `game::needs::Needs::next_need` meets its contract: for a need of at most the limit the first unserved input decides, if there is one, and whether it has the
-- condition.
-- Assumes nothing.
use Rattle.std.proofs.Common.{ℕ, ◌<◌, ◌≤◌, get_or, sym, ◌∙◌, subst, arith}
use Rattle.game.specs.inner.Game.{arena_of}
use Rattle.game.specs.inner.Needs.{NextNeed}
use Rattle.reader.proofs.BoolLaws.{positive}
use Rattle.game.proofs.LiftLaws.{look_stands, look_raises, look_drops}
use Rattle.game.proofs.needs.Needs.next_need.Goals as goal

pub returns-in-None : goal.returns-in-None
returns-in-None c =
    let some : 0 < get_or c.args.self.now.ranks c.args.s 0 = positive (get_or c.args.self.now.ranks c.args.s 0) c.if-own-eq0.false in
    let within : get_or c.args.self.now.ranks c.args.s 0 ≤ c.args.self.now.limit = omega (arith, c.if-self-own.false) in
    look_stands c.args.g.now.valid c.requires.bounds c.requires.s_lt_states some within c.in-None.ensures

pub returns-in-Some : goal.returns-in-Some
returns-in-Some c =
    let some : 0 < get_or c.args.self.now.ranks c.args.s 0 = positive (get_or c.args.self.now.ranks c.args.s 0) c.if-own-eq0.false in
    let within : get_or c.args.self.now.ranks c.args.s 0 ≤ c.args.self.now.limit = omega (arith, c.if-self-own.false) in
    subst (λ (v : ℕ). NextNeed (arena_of c.args.g.now) c.args.self.now.limit c.args.self.now.ranks c.args.s v) (sym c.raised.ensures)
    (look_raises c.args.g.now.valid c.requires.bounds c.requires.s_lt_states some within c.in-Some.ensures.0 c.in-Some.ensures.1 (sym c.has_condition.ensures ∙ c.if-has_condition.true)
    c.args.self.now.fits)

pub returns-in-Some-2 : goal.returns-in-Some-2
returns-in-Some-2 c =
    let some : 0 < get_or c.args.self.now.ranks c.args.s 0 = positive (get_or c.args.self.now.ranks c.args.s 0) c.if-own-eq0.false in
    let within : get_or c.args.self.now.ranks c.args.s 0 ≤ c.args.self.now.limit = omega (arith, c.if-self-own.false) in
    look_drops c.args.g.now.valid c.requires.bounds c.requires.s_lt_states some within c.in-Some.ensures.0 c.in-Some.ensures.1 (sym c.has_condition.ensures ∙ c.if-has_condition.false)

-- `game::needs::Needs::look` meets its contract: a state that is not due is left, and of one that is due the test on its steps decides.
-- Assumes nothing.
use Rattle.std.proofs.Common.{◌≡◌, ◌<◌, length, arith, rules}
use Rattle.automaton.specs.Limits.{state_limit}
use Rattle.game.proofs.WidenLaws.{look_waits, look_gains}
use Rattle.game.proofs.needs.Needs.look.Goals as goal

pub returns-then-opened-clause-looked : goal.returns-then-opened-clause-looked
returns-then-opened-clause-looked c =
    let in-due : c.args.s < length c.args.due.now = omega (arith, c.args.g.now.valid.moving.states_fit, c.requires.s_lt_states.0, (let n : length c.args.due.now ≡ state_limit = search rules in n)) in
    let in-needs : c.args.s < length c.args.self.now.ranks = omega (arith, c.args.g.now.valid.moving.states_fit, c.requires.s_lt_states.0, (let n : length c.args.self.now.ranks ≡ state_limit = search rules in n)) in
    look_gains c.requires.standing c.args.g.now.valid c.requires.s_lt_states.0 c.if-when-p.false in-due in-needs
    (c.opened.ensures.gains c.if-opened.true)

pub returns-clause-looked : goal.returns-clause-looked
returns-clause-looked c =
    let in-due : c.args.s < length c.args.due.now = omega (arith, c.args.g.now.valid.moving.states_fit, c.requires.s_lt_states.0, (let n : length c.args.due.now ≡ state_limit = search rules in n)) in
    look_waits c.requires.standing c.args.g.now.valid c.requires.s_lt_states.0 c.if-when-p.false in-due
    (c.opened.ensures.stays c.if-opened.false)

-- `game::rule::solve_rule` meets its contract: a refusal before the states are counted, 9 or 3, or the tables and the verdict of the game on the automaton.
-- Assumes nothing.
use Rattle.std.proofs.Common.{◌*◌, ◌<◌, ◌≤◌, length, sym, subst}
use Rattle.std.specs.Prelude.{Ok}
use Rattle.std.proofs.lemmas.Result.{err_from_is_err_and}
use Rattle.game.specs.declared.answer.Outcome.{Outcome}
use Rattle.plays.specs.declared.mode.Mode.{Mode}
use Rattle.plays.specs.Arena.{Arena, arena}
use Rattle.game.specs.Tables.{Tables, Verdict}
use Rattle.game.specs.Rule.{buffers, RuleSolved}
use Rattle.game.proofs.RuleCallLaws.{refused_early, refused_late, valid, starts, tables_fit, answered}
use Rattle.game.proofs.rule.solve_rule.Goals as goal

pub returns-in_err-mask : goal.returns-in_err-mask
returns-in_err-mask c =
    let p = err_from_is_err_and c.from_residual.result c.from_residual.ensures.1 in
    rw (p.1, p.2)
    (refused_early c.args.mode c.args.i c.args.o c.args.rule.now c.args.condition.now
    (buffers c.args.transitions.now c.args.accepting.now c.args.system.now c.args.environment.now) _ c.in_err-mask.ensures)

pub returns-in_err-n : goal.returns-in_err-n
returns-in_err-n c =
    let p = err_from_is_err_and c.from_residual-in_err-n.result c.from_residual-in_err-n.ensures.1 in
    rw (p.1, p.2)
    (refused_late c.args.mode c.args.i c.args.o c.args.rule.now c.args.condition.now
    (buffers c.args.transitions.now c.args.accepting.now c.args.system.now c.args.environment.now) c.in_ok-mask.mask c.in_ok-mask.ensures
    c.table_room-room.result c.table_room-room.ensures c.construct.new.transitions c.construct.new.accepting _ c.in_err-n.ensures)

pub game_of-g-requires : goal.game_of-g-requires
game_of-g-requires c =
    record {
      alphabet = c.in_ok-mask.ensures.alphabet;
      valid = valid c.args.mode c.args.i c.args.o c.args.rule.now c.args.condition.now
          (buffers c.args.transitions.now c.args.accepting.now c.args.system.now c.args.environment.now) c.in_ok-mask.mask c.in_ok-mask.ensures
          c.table_room-room.result c.table_room-room.ensures c.construct.new.transitions c.construct.new.accepting c.in_ok-n.n c.in_ok-n.ensures;
    }

pub decide-round-requires : goal.decide-round-requires
decide-round-requires c =
    let old = buffers c.args.transitions.now c.args.accepting.now c.args.system.now c.args.environment.now in
    let fits = subst (λ (G : Arena). (0 < G.states)
    × ((0 < G.inputs) × (0 < G.outputs) × (G.states * G.inputs ≤ length c.args.system.now) × (G.states ≤ length c.args.environment.now)))
    (sym c.game_of-g.ensures.arena) (
      starts c.args.mode c.args.i c.args.o c.args.rule.now c.args.condition.now old c.in_ok-mask.mask c.in_ok-mask.ensures c.table_room-room.result
          c.table_room-room.ensures c.construct.new.transitions c.construct.new.accepting c.in_ok-n.n c.in_ok-n.ensures,
      tables_fit c.args.mode c.args.i c.args.o c.args.rule.now c.args.condition.now old c.in_ok-mask.mask c.in_ok-mask.ensures c.table_room-room.result
          c.table_room-room.ensures c.construct.new.transitions c.construct.new.accepting c.in_ok-n.n c.in_ok-n.ensures,
    ) in
    record { start_lt_states = fits.0; inputs_nonzero = fits.1 }

pub returns : goal.returns
returns c =
    let old = buffers c.args.transitions.now c.args.accepting.now c.args.system.now c.args.environment.now in
    let new = buffers c.construct.new.transitions c.construct.new.accepting c.decide-round.new.system c.decide-round.new.environment in
    let G : Arena = arena c.args.i c.args.o c.in_ok-n.n c.construct.new.transitions c.construct.new.accepting c.in_ok-mask.mask in
    subst (λ (v : Outcome). RuleSolved c.args.mode c.args.i c.args.o c.args.rule.now c.args.condition.now old new (Ok v)) (sym c.verdict.ensures)
    (answered c.args.mode c.args.i c.args.o c.args.rule.now c.args.condition.now old c.in_ok-mask.mask c.in_ok-mask.ensures c.table_room-room.result
    c.table_room-room.ensures c.construct.new.transitions c.construct.new.accepting c.in_ok-n.n c.in_ok-n.ensures c.decide-round.new.system c.decide-round.new.environment
    c.decide-round.result
    (subst (λ (m : Mode). Tables m G c.args.system.now c.args.environment.now c.decide-round.new.system c.decide-round.new.environment) c.game_of-g.ensures.mode
    (subst (λ (A : Arena). Tables c.game_of-g.result.mode A c.args.system.now c.args.environment.now c.decide-round.new.system c.decide-round.new.environment)
    c.game_of-g.ensures.arena c.decide-round.ensures.tables))
    (subst (λ (m : Mode). Verdict m G c.decide-round.new.system c.decide-round.new.environment 0 c.decide-round.result) c.game_of-g.ensures.mode
    (subst (λ (A : Arena). Verdict c.game_of-g.result.mode A c.decide-round.new.system c.decide-round.new.environment 0 c.decide-round.result)
    c.game_of-g.ensures.arena c.decide-round.ensures.verdict)))

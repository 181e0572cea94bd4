-- `game::tables::fill_environment` meets its contract. Invariant: the bytes below s are the environment's, and those from s on are as they were.
-- Assumes nothing.
use Rattle.std.proofs.Common.{ℕ, ◌<◌, length, sym, subst, arith}
use Rattle.plays.specs.inner.Rank.{is_fair}
use Rattle.game.specs.inner.Game.{arena_of}
use Rattle.game.specs.inner.Bytes.{EnvironmentByte}
use Rattle.game.proofs.TableLaws.{fill_below, fill_rest, environment_move}
use Rattle.game.proofs.tables.fill_environment.Goals as goal

pub loop-s-preserved : goal.loop-s-preserved
loop-s-preserved c =
    let me = c.args.ranks.now in
    let fits : c.loop-s.s < length c.loop-s.environment = omega (arith, c.requires, c.loop-s.auto.environment) in
    let P : ℕ → ℕ → Type 0 = λ k v. EnvironmentByte (is_fair me.game.now.mode) (arena_of me.game.now) me.ranks.now k v in
    let here : P c.loop-s.s c.move_byte.result = subst (P c.loop-s.s) (sym c.move_byte.ensures) (environment_move c.input.result c.input.ensures) in (
      fill_below P c.args.environment.now c.loop-s.environment c.loop-s.s c.move_byte.result fits c.loop-s.invariant.0 here,
      fill_rest P c.args.environment.now c.loop-s.environment c.loop-s.s c.move_byte.result fits c.loop-s.invariant.1,
    )

-- `game::tables::fill_system` meets its contract. Invariant: the bytes below k are the system's, and those from k on are as they were.
-- Assumes nothing.
use Rattle.std.proofs.Common.{ℕ, ◌/◌, ◌%◌, ◌<◌, length, arith}
use Rattle.plays.specs.inner.Rank.{is_fair}
use Rattle.game.specs.inner.Game.{arena_of}
use Rattle.game.specs.inner.Bytes.{MixedByte}
use Rattle.game.proofs.TableLaws.{fill_below, fill_rest}
use Rattle.game.proofs.tables.fill_system.Goals as goal

pub loop-k-preserved : goal.loop-k-preserved
loop-k-preserved c =
    let near = c.args.near.now in
    let g = near.game.now in
    let fits : c.loop-k.k < length c.loop-k.system = omega (arith, c.requires.inputs_nonzero, c.loop-k.auto.system) in
    let P : ℕ → ℕ → Type 0 = λ k v.
    MixedByte (is_fair g.mode) (arena_of g) near.cap near.ranks.now c.args.far.now.ranks.now (k / g.inputs) (k % g.inputs) v in (
      fill_below P c.args.system.now c.loop-k.system c.loop-k.k c.mixed_byte.result fits c.loop-k.invariant.0 c.mixed_byte.ensures,
      fill_rest P c.args.system.now c.loop-k.system c.loop-k.k c.mixed_byte.result fits c.loop-k.invariant.1,
    )

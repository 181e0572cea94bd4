-- `listing::render::put_fields` meets its contract: each turn writes one field more.
-- Assumes nothing.
use Prim.Native.Nat.{◌-◌}
use mathlib.Core.Path.{◌≡◌, ◌∙◌}
use native.Mathlib.Omega.{arith}
use Rattle.listing.specs.Listing.{fields}
use Rattle.listing.proofs.WritingLaws.{nothing_put}
use Rattle.listing.proofs.RenderingLaws.{fields_put}
use Rattle.listing.proofs.render.put_fields.Goals as goal

pub loop-k-init : goal.loop-k-init
unfolding fields
loop-k-init c = let n : c.args.from - c.args.from ≡ 0 = omega arith in rw n (nothing_put c.args.out.now)

pub loop-k-preserved : goal.loop-k-preserved
loop-k-preserved c =
    fields_put c.args.table.now c.args.from c.loop-k.k c.from.result c.loop-k.auto.k (c.from.ensures ∙ c.byte_at.ensures) c.loop-k.invariant
    c.put_field.ensures

-- `listing::render::input_count` meets its contract.
-- Assumes nothing.
use Prim.Native.Nat.{◌^◌, ◌*◌, ◌%◌, ◌≤◌}
use native.Mathlib.Nat.{one-mul, mod-eq_of_lt}
use lib.Pow.{pow_mono}
use mathlib.Core.Path.{◌≡◌}
use native.Mathlib.Omega.{arith}
use Rattle.listing.specs.inner.Rendering.{row_limit}
use Rattle.listing.proofs.render.input_count.Goals as goal

pub returns : goal.returns
returns c =
    let p : 2 ^ c.args.i ≤ row_limit = pow_mono {j = 9} c.requires in
    let e : 1 * 2 ^ c.args.i % 18446744073709551616 ≡ 2 ^ c.args.i = rw one-mul (mod-eq_of_lt (omega arith)) in
    (e, omega arith)

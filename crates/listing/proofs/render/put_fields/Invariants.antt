-- What was written is the row as far as it was read.
use Prim.Native.Nat.{◌-◌}
use Rattle.listing.specs.Listing.{fields}
use Rattle.listing.specs.inner.Writing.{Puts}
use Rattle.listing.proofs.render.put_fields.Given as goal

abbrev pub invariant-loop-k : goal.invariant-loop-k
invariant-loop-k l = Puts l.initial.out (fields l.table l.from (l.k - l.from)) l.out

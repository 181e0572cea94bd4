-- `reader::scan::scan` meets its contract. The invariant: the pass over the bytes that are left comes to what the pass over the text comes to,
-- and no more parentheses are open than bytes are read. Assumes nothing.
use mathlib.Core.Path.{◌≡◌}
use Prim.Native.Nat.{◌≤◌}
use lib.ListN.{drop}
use Rattle.reader.specs.Vocabulary.{kind_of}
use Rattle.reader.specs.inner.Scan.{start, scan_of}
use Rattle.reader.proofs.scan.scan.Given as goal

abbrev pub invariant-loop-at : goal.invariant-loop-at
invariant-loop-at l =
    (l.state.depth ≤ l.at) × (scan_of (kind_of l.vocabulary) (drop l.at l.text) l.at l.state ≡ scan_of (kind_of l.vocabulary) l.text 0 start)

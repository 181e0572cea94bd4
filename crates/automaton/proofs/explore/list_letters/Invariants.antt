-- `automaton::explore::list_letters` meets its contract. The invariant: after a letters the list holds the states discovered, and it is no shorter.
-- Assumes nothing.
use Prim.Native.Nat.{◌+◌, ◌*◌, ◌≤◌, ◌<◌}
use mathlib.Core.Path.{◌≡◌}
use lib.ListN.{length, get_or}
use Rattle.reader.specs.Formula.{Formula}
use Rattle.automaton.specs.inner.Table.{TableOf}
use Rattle.automaton.specs.inner.Exploration.{Listed}
use Rattle.automaton.proofs.explore.list_letters.Given as goal

abbrev pub invariant-loop-a : goal.invariant-loop-a
invariant-loop-a l =
    record {
      state : l.s < length l.states;
      from : get_or l.states l.s 0 ≡ l.from;
      grown : length l.initial.states ≤ length l.states;
      listed : (φ : Formula) → TableOf φ l.table → Listed φ l.table.letters (l.s * l.table.letters) l.initial.states
          → Listed φ l.table.letters (l.s * l.table.letters + l.a) l.states;
    }

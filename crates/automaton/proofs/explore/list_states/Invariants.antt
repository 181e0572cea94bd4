-- `automaton::explore::list_states` meets its contract. The invariant: after s states the list holds the states discovered.
-- The measure is what is left of the limit on states. Assumes nothing.
use Prim.Native.Nat.{◌-◌, ◌*◌, ◌≤◌}
use lib.ListN.{length}
use Rattle.reader.specs.Formula.{Formula}
use Rattle.automaton.specs.Limits.{state_limit}
use Rattle.automaton.specs.inner.Table.{TableOf}
use Rattle.automaton.specs.inner.Exploration.{Listed}
use Rattle.automaton.proofs.explore.list_states.Given as goal

abbrev pub invariant-loop-s : goal.invariant-loop-s
invariant-loop-s l =
    record {
      some : l.s ≤ length l.states;
      listed : (φ : Formula) → TableOf φ l.twins.table → Listed φ l.twins.table.letters 0 l.initial.states
          → Listed φ l.twins.table.letters (l.s * l.twins.table.letters) l.states;
    }

abbrev pub decreases-loop-s : goal.decreases-loop-s
decreases-loop-s l = state_limit - l.s

-- `automaton::fill::fill_transitions` meets its contract. The invariant: the rows of the first s states are written, and nothing beyond them.
-- Assumes nothing.
use Prim.Native.Nat.{◌*◌}
use Rattle.reader.specs.Formula.{Formula}
use Rattle.automaton.specs.Buffer.{Kept}
use Rattle.automaton.specs.inner.Table.{TableOf}
use Rattle.automaton.specs.inner.Exploration.{AllListed, Filled}
use Rattle.automaton.proofs.fill.fill_transitions.Given as goal

abbrev pub invariant-loop-s : goal.invariant-loop-s
invariant-loop-s l =
    record {
      kept : Kept (l.s * l.twins.table.letters) l.initial.transitions l.transitions;
      filled : (φ : Formula) → TableOf φ l.twins.table → AllListed φ l.twins.table.letters l.states
          → Filled φ l.twins.table.letters l.transitions (l.s * l.twins.table.letters);
    }

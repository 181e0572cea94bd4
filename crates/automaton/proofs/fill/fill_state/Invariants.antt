-- `automaton::fill::fill_state` meets its contract. The invariant: the first a letters of the row are written, and nothing beyond them.
-- Assumes nothing.
use Prim.Native.Nat.{◌+◌, ◌*◌}
use Rattle.reader.specs.Formula.{Formula}
use Rattle.automaton.specs.Buffer.{Kept}
use Rattle.automaton.specs.inner.Table.{TableOf}
use Rattle.automaton.specs.inner.Exploration.{AllListed, Filled}
use Rattle.automaton.proofs.fill.fill_state.Given as goal

abbrev pub invariant-loop-a : goal.invariant-loop-a
invariant-loop-a l =
    record {
      kept : Kept (l.s * l.table.letters + l.a) l.initial.transitions l.transitions;
      filled : (φ : Formula) → TableOf φ l.table → AllListed φ l.table.letters l.states
          → Filled φ l.table.letters l.initial.transitions (l.s * l.table.letters) → Filled φ l.table.letters l.transitions (l.s * l.table.letters + l.a);
    }

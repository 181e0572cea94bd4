-- `automaton::twins::fill_twins` meets its contract. The invariant: the letters below a have their twins. Assumes nothing.
use Prim.Native.Nat.{◌/◌}
use Rattle.automaton.specs.inner.Representation.{Twins}
use Rattle.automaton.proofs.twins.fill_twins.Given as goal

abbrev pub invariant-loop-a : goal.invariant-loop-a
invariant-loop-a l = Twins l.a (l.table.vectors / 2) l.table.entries.now l.twins

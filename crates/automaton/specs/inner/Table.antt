-- When the code's table is a formula's.
-- Assumes nothing.
use Rattle.std.specs.Prelude.{suc, ◌^◌, ◌≡◌}
use Rattle.reader.specs.Formula.{Formula, operators}
use Rattle.automaton.specs.declared.table.Table.{Table}
use Rattle.automaton.specs.inner.Representation.{Tabulates}

-- the table has the valuations that its letters make for the formula, and as many valuations as the formula has
pub record TableOf (φ : Formula) (table : Table) : Type 0 where
  pub entries : Tabulates φ table.letters table.entries.now
  pub vectors : table.vectors ≡ 2 ^ suc (operators φ)

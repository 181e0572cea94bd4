-- The place of a bad text (specification, "Texts"): its error offset. Limits do not count here.
-- Assumes nothing.
use Rattle.std.specs.Prelude.{ℕ, suc, ◌≤◌, ◌<◌, ◌++◌, length, take}
use Rattle.reader.specs.declared.marks.Kind.{Kind}
use Rattle.reader.specs.Text.{Text}
use Rattle.reader.specs.Formula.{Formula}
use Rattle.reader.specs.Grammar.{Reads}

-- the bytes can begin some text of the grammar
abbrev pub Begins : (i : ℕ) (kind : ℕ → Kind) (s : Text) → Type 0
Begins i kind s = (rest : Text) × (φ : Formula) × Reads i kind (s ++ rest) φ

-- k is the place of a bad text: the first k bytes can begin a text and the first k + 1 cannot, or k is the length of a text that can begin one
pub record IsPlace (i : ℕ) (kind : ℕ → Kind) (text : Text) (k : ℕ) : Type 0 where
  pub within : k ≤ length text
  pub begins : Begins i kind (take k text)
  pub stops : k < length text → Begins i kind (take (suc k) text) → ⊥
  pub ends : (φ : Formula) → Reads i kind text φ → ⊥

-- What the reader answers on a text: the number of its nodes, or the declared type `Unreadable`, as the text determines it (specification, refusals 2 and 4 to 8, in their order).
-- proofs/Unambiguous.antt: every text has exactly one reading, and a text with a formula has exactly one formula and no place.
-- Assumes nothing.
use Rattle.std.specs.Prelude.{ℕ, ◌≤◌, ◌<◌, ◌≡◌, length, Result, Ok, Err}
use Rattle.reader.specs.declared.marks.Kind.{Kind}
use Rattle.reader.specs.declared.reading.Unreadable.{Unreadable}
use Rattle.reader.specs.declared.reading.Unreadable.TheVariants.{TooLong, Bad, TooManyNodes, TooManyOperators}
use Rattle.reader.specs.Text.{Text}
use Rattle.reader.specs.Limits.{text_limit, node_limit, operator_limit}
use Rattle.reader.specs.Formula.{Formula, size, operators}
use Rattle.reader.specs.Grammar.{Reads}
use Rattle.reader.specs.Place.{IsPlace}

-- a text of the grammar within the limits, and its formula
pub record IsGood (i : ℕ) (kind : ℕ → Kind) (text : Text) (φ : Formula) : Type 0 where
  pub short : length text ≤ text_limit
  pub reads : Reads i kind text φ
  pub few_nodes : size φ ≤ node_limit
  pub few_operators : operators φ ≤ operator_limit

-- the number of a text's nodes, or why it has no formula within the limits
abbrev pub Reading : Type 0
Reading = Result ℕ Unreadable

-- the answer is that of the text: good, with the number of its nodes; over the limit of bytes, whatever they are; or not over it, and bad, with its place;
-- over the limit of nodes; not over that one but over the limit of temporal operators
unfoldable pub ReadingOf : (i : ℕ) (kind : ℕ → Kind) (text : Text) → Reading → Type 0
ReadingOf i kind text (Ok n) = (φ : Formula) × IsGood i kind text φ × (n ≡ size φ)
ReadingOf i kind text (Err TooLong) = text_limit < length text
ReadingOf i kind text (Err (Bad k)) = (length text ≤ text_limit) × IsPlace i kind text k
ReadingOf i kind text (Err TooManyNodes) = (length text ≤ text_limit) × (φ : Formula) × Reads i kind text φ × (node_limit < size φ)
ReadingOf i kind text (Err TooManyOperators) =
    (length text ≤ text_limit) × (φ : Formula) × Reads i kind text φ × (size φ ≤ node_limit) × (operator_limit < operators φ)

-- What the functions below the calls hand to each other: the nodes of a formula, and the table of its valuations.
-- Assumes nothing.
use Rattle.std.specs.Prelude.{ℕ, ◌+◌, ◌*◌, ◌≤◌, ◌<◌, ◌≡◌, List, get_or}
use Rattle.reader.specs.Limits.{node_limit, operator_limit}
use Rattle.reader.specs.Formula.{Formula, size, operators}
use Rattle.reader.specs.declared.nodes.Node.{Node}
use Rattle.reader.specs.inner.Nodes.{nodes_of}
use Rattle.automaton.specs.inner.Sizes.{pair_limit}
use Rattle.automaton.specs.Valuation.{present, vectors}

-- the nodes are those of the formula, which is within the limits
pub record Represents (nodes : List Node) (φ : Formula) : Type 0 where
  pub all : nodes ≡ nodes_of φ
  pub few_nodes : size φ ≤ node_limit
  pub few_operators : operators φ ≤ operator_limit

-- entry a * pair_limit + k of the table is the valuation that letter a makes from 2 * k; from 2 * k + 1 it makes the same
unfoldable pub Tabulates : (φ : Formula) (L : ℕ) (table : List ℕ) → Type 0
Tabulates φ L table = (a k : ℕ) → a < L → 2 * k < vectors φ → get_or table (a * pair_limit + k) 0 ≡ present φ a (2 * k)

-- the first m entries of two letters' rows are equal
abbrev pub SameRow : (table : List ℕ) (m a b : ℕ) → Type 0
SameRow table m a b = (k : ℕ) → k < m → get_or table (a * pair_limit + k) 0 ≡ get_or table (b * pair_limit + k) 0

-- each letter's twin is the letter itself or an earlier one whose row has the same first m entries
abbrev pub Twins : (L m : ℕ) (table twins : List ℕ) → Type 0
Twins L m table twins = (a : ℕ) → a < L → (get_or twins a 0 ≤ a) × SameRow table m (get_or twins a 0) a

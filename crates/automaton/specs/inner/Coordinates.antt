-- The coordinates of a valuation, by the nodes of the formula: which node a coordinate belongs to, what it is past the last position, and
-- the valuation that the coordinates' words make.
-- Assumes nothing.
use Rattle.std.specs.Prelude.{ℕ, zero, suc, ◌-◌, ◌≤◌, ◌<◌, ◌≡◌, Bool, true, false, List, length, get_or, Option, None, Some, is_some}
use Rattle.std.specs.List.{count_by}
use Rattle.machine.specs.Letters.{Letter}
use Rattle.reader.specs.declared.nodes.UnaryOp.TheVariants.{Not, Next, WeakNext, Eventually, Always}
use Rattle.reader.specs.declared.nodes.BinaryOp.TheVariants.{Until, Release, And, Or, Implies}
use Rattle.reader.specs.declared.nodes.Node.{Node}
use Rattle.reader.specs.declared.nodes.Node.TheVariants.{Constant, Name, Unary, Binary}
use Rattle.reader.specs.Limits.{node_limit}
use Rattle.reader.specs.Formula.{Formula, operators}
use Rattle.reader.specs.inner.Nodes.{blank_node}
use Rattle.automaton.specs.inner.Sizes.{coordinate_limit, vector_limit}
use Rattle.automaton.specs.Bits.{bit, of_bits}
use Rattle.automaton.specs.Valuation.{present}
use Rattle.automaton.specs.inner.Representation.{Represents}

-- the coordinate of a temporal operator's node, X N F G U R, and none of any other
unfoldable pub coordinate_of : Node → Option ℕ
coordinate_of (Constant b) = None
coordinate_of (Name j) = None
coordinate_of (Unary Not k) = None
coordinate_of (Unary Next k) = Some k
coordinate_of (Unary WeakNext k) = Some k
coordinate_of (Unary Eventually k) = Some k
coordinate_of (Unary Always k) = Some k
coordinate_of (Binary Until left k) = Some k
coordinate_of (Binary Release left k) = Some k
coordinate_of (Binary And left k) = None
coordinate_of (Binary Or left k) = None
coordinate_of (Binary Implies left k) = None

-- a node is that of a temporal operator
abbrev pub is_temporal_node : Node → Bool
is_temporal_node n = is_some (coordinate_of n)

-- the number of temporal operators among the nodes
abbrev pub operators_in : List Node → ℕ
operators_in nodes = count_by is_temporal_node nodes

-- places[j] is the last node below m that has the coordinate j, if one has
abbrev pub Located : (nodes : List Node) (m : ℕ) (places : List ℕ) → Type 0
Located nodes m places =
    (j o : ℕ) → j < coordinate_limit → o < m → coordinate_of (get_or nodes o blank_node) ≡ Some j →
    (o ≤ get_or places j 0) × (get_or places j 0 < m) × (coordinate_of (get_or nodes (get_or places j 0) blank_node) ≡ Some j)

-- the node whose value is an operator's coordinate: of X and N the operand
unfoldable pub owner_of : (n : Node) (o : ℕ) → ℕ
owner_of (Constant b) o = o
owner_of (Name j) o = o
owner_of (Unary Not k) o = o
owner_of (Unary Next k) o = o - 1
owner_of (Unary WeakNext k) o = o - 1
owner_of (Unary Eventually k) o = o
owner_of (Unary Always k) o = o
owner_of (Binary b left k) o = o

-- the node of the operator that has coordinate j
abbrev pub operator_at : (nodes : List Node) (places : List ℕ) (j : ℕ) → Node
operator_at nodes places j = get_or nodes (get_or places j 0) blank_node

-- the node whose value is coordinate j: of coordinate 0 the root
unfoldable pub owner : (nodes : List Node) (places : List ℕ) (j : ℕ) → ℕ
unfolding owner_of
owner nodes places zero = length nodes - 1
owner nodes places (suc j) = owner_of (operator_at nodes places (suc j)) (get_or places (suc j) 0)

-- an operator's bit of the end valuation: 1 for N, G and R
unfoldable pub end_of : Node → Bool
end_of (Constant b) = false
end_of (Name j) = false
end_of (Unary Not k) = false
end_of (Unary Next k) = false
end_of (Unary WeakNext k) = true
end_of (Unary Eventually k) = false
end_of (Unary Always k) = true
end_of (Binary Until left k) = false
end_of (Binary Release left k) = true
end_of (Binary And left k) = false
end_of (Binary Or left k) = false
end_of (Binary Implies left k) = false

-- coordinate j's bit of the end valuation
unfoldable pub end_bit : (nodes : List Node) (places : List ℕ) (j : ℕ) → Bool
unfolding end_of
end_bit nodes places zero = false
end_bit nodes places (suc j) = end_of (operator_at nodes places (suc j))

-- the words of the coordinates make from each of the valuations the one that letter a makes from it: its coordinate j is bit v of word j
unfoldable pub Makes : (φ : Formula) (a : Letter) (words : List ℕ) → Type 0
unfolding of_bits bit present
Makes φ a words = (v : ℕ) → v < vector_limit → of_bits (λ j. bit (get_or words j 0) v) (suc (operators φ)) ≡ present φ a v

-- the nodes of a formula within the limits, where its temporal operators stand, and how many coordinates it has
pub record Fits (nodes : List Node) (places : List ℕ) (width : ℕ) : Type 0 where
  pub few_nodes : length nodes ≤ node_limit
  pub located : Located nodes (length nodes) places
  pub one_coordinate : 1 ≤ width
  pub few_coordinates : width ≤ coordinate_limit
  pub counted : (φ : Formula) → Represents nodes φ → width ≡ suc (operators φ)

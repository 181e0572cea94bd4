-- Which formula a node stands for. The nodes are those of the reader's specs/inner/Nodes.antt.
-- Assumes nothing.
use Rattle.std.specs.Prelude.{ℕ, suc, ◌+◌, ◌≡◌, Bool, List, get_or}
use Rattle.reader.specs.declared.nodes.Node.{Node}
use Rattle.reader.specs.declared.nodes.Node.TheVariants as node
use Rattle.reader.specs.Formula.{Unary, Binary, Formula, constant, name, unary, binary, size, with_unary, with_binary, operators}
use Rattle.reader.specs.inner.Nodes.{unary_op, binary_op, blank_node}

-- node i stands for the formula, whose operators have the coordinates from k on
pub data Stands (nodes : List Node) : ℕ → ℕ → Formula → Type 0 where
  at_constant : {i k : ℕ} {b : Bool} → get_or nodes i blank_node ≡ node.Constant b → Stands nodes i k (constant b)
  at_name : {i k j : ℕ} → get_or nodes i blank_node ≡ node.Name j → Stands nodes i k (name j)
  at_unary : {i k : ℕ} {u : Unary} {φ : Formula} → get_or nodes (suc i) blank_node ≡ node.Unary (unary_op u) k
      → Stands nodes i (with_unary u k) φ → Stands nodes (suc i) k (unary u φ)
  at_binary : {i j k : ℕ} {b : Binary} {φ ψ : Formula} → get_or nodes (suc i) blank_node ≡ node.Binary (binary_op b) (suc j) (k + operators φ)
      → i ≡ j + size ψ → Stands nodes j k φ → Stands nodes i (with_binary b (k + operators φ)) ψ → Stands nodes (suc i) k (binary b φ ψ)

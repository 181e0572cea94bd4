-- The values of a formula's nodes: a node's word has one bit for each valuation of the next position.
-- Assumes nothing.
use Rattle.std.specs.Prelude.{ℕ, ◌-◌, ◌<◌, ◌≡◌, true, false, List, get_or}
use Rattle.std.specs.Int.Bits.{bit_and, bit_or, bit_xor}
use Rattle.machine.specs.Letters.{Letter}
use Rattle.reader.specs.declared.nodes.UnaryOp.TheVariants.{Not, Next, WeakNext, Eventually, Always}
use Rattle.reader.specs.declared.nodes.BinaryOp.TheVariants.{Until, Release, And, Or, Implies}
use Rattle.reader.specs.declared.nodes.Node.{Node}
use Rattle.reader.specs.declared.nodes.Node.TheVariants.{Constant, Name, Unary, Binary}
use Rattle.reader.specs.Formula.{Formula}
use Rattle.automaton.specs.inner.Sizes.{vector_limit}
use Rattle.automaton.specs.Bits.{bit, of_bits}
use Rattle.automaton.specs.Valuation.{value}
use Rattle.automaton.specs.inner.Nodes.{Stands}

-- the set of all valuations
abbrev pub all_valuations : ℕ
all_valuations = 0xFFFF_FFFF_FFFF_FFFF

-- the node of the left operand of an infix operator's node
abbrev pub left_of : Node → ℕ
left_of (Constant b) = 0
left_of (Name j) = 0
left_of (Unary u k) = 0
left_of (Binary b left k) = left - 1

-- a node's value for each of the valuations, from those of its operands
unfoldable pub node_word : (n : Node) (a : Letter) (left right : ℕ) → ℕ
unfolding of_bits bit
node_word (Constant false) a left right = 0
node_word (Constant true) a left right = all_valuations
node_word (Name j) a left right = of_bits (λ v. bit a j) vector_limit
node_word (Unary Not k) a left right = bit_xor right all_valuations
node_word (Unary Next k) a left right = of_bits (λ v. bit v k) vector_limit
node_word (Unary WeakNext k) a left right = of_bits (λ v. bit v k) vector_limit
node_word (Unary Eventually k) a left right = bit_or right (of_bits (λ v. bit v k) vector_limit)
node_word (Unary Always k) a left right = bit_and right (of_bits (λ v. bit v k) vector_limit)
node_word (Binary Until l k) a left right = bit_or right (bit_and left (of_bits (λ v. bit v k) vector_limit))
node_word (Binary Release l k) a left right = bit_and right (bit_or left (of_bits (λ v. bit v k) vector_limit))
node_word (Binary And l k) a left right = bit_and left right
node_word (Binary Or l k) a left right = bit_or left right
node_word (Binary Implies l k) a left right = bit_or (bit_xor left all_valuations) right

-- for each node below m that stands for a formula, the words hold the formula's value for each of the valuations
unfoldable pub Evaluated : (nodes : List Node) (a : Letter) (words : List ℕ) (m : ℕ) → Type 0
unfolding of_bits value
Evaluated nodes a words m =
    (i : ℕ) → i < m → (k : ℕ) (φ : Formula) → Stands nodes i k φ → get_or words i 0 ≡ of_bits (λ v. value φ k a v) vector_limit

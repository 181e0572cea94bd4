-- The nodes of a formula in a buffer, operands before their operator: what the reader hands to the automaton.
-- Assumes nothing.
use Rattle.std.specs.Prelude.{ℕ, ◌+◌, ◌≡◌, false, List, [], ◌∷◌, ◌++◌, Ok, Err}
use Rattle.std.proofs.lemmas.List.Edits.{sets}
use Rattle.reader.specs.declared.marks.Kind.{Kind}
use Rattle.reader.specs.declared.nodes.UnaryOp.{UnaryOp}
use Rattle.reader.specs.declared.nodes.UnaryOp.TheVariants as op
use Rattle.reader.specs.declared.nodes.BinaryOp.{BinaryOp}
use Rattle.reader.specs.declared.nodes.BinaryOp.TheVariants as pair
use Rattle.reader.specs.declared.nodes.Node.{Node}
use Rattle.reader.specs.declared.nodes.Node.TheVariants as node
use Rattle.reader.specs.Text.{Text}
use Rattle.reader.specs.Formula.{Unary, neg, next, weak, eventually, always, Binary, until, release, conj, disj, impl}
use Rattle.reader.specs.Formula.{Formula, constant, name, unary, binary, size, with_unary, with_binary, operators}
use Rattle.reader.specs.Reading.{Reading, IsGood}

-- the operator in code of a prefix mark's
abbrev pub unary_op : Unary → UnaryOp
unary_op neg = op.Not
unary_op next = op.Next
unary_op weak = op.WeakNext
unary_op eventually = op.Eventually
unary_op always = op.Always

-- the operator in code of an infix mark's
abbrev pub binary_op : Binary → BinaryOp
binary_op until = pair.Until
binary_op release = pair.Release
binary_op conj = pair.And
binary_op disj = pair.Or
binary_op impl = pair.Implies

-- the node that a buffer is filled with before it is read into, and what is read past its end
abbrev pub blank_node : Node
blank_node = node.Constant false

-- the nodes of a formula before which n nodes stand, and whose first temporal operator has the coordinate k: the last operand of a node stands just before it.
-- An operator has the coordinate k that is next at its mark, which a temporal one takes; an infix one also the number of nodes up to its left operand, that one
-- included.
unfoldable pub code : (n k : ℕ) → Formula → List Node
code n k (constant b) = node.Constant b ∷ []
code n k (name j) = node.Name j ∷ []
code n k (unary u φ) = code n (with_unary u k) φ ++ (node.Unary (unary_op u) k ∷ [])
code n k (binary b φ ψ) =
    code n k φ ++ (code (n + size φ) (with_binary b (k + operators φ)) ψ ++ (node.Binary (binary_op b) (n + size φ) (k + operators φ) ∷ []))

-- the nodes of a whole text, whose coordinates are numbered from 1
abbrev pub nodes_of : Formula → List Node
nodes_of φ = code 0 1 φ

-- the buffer after reading: the nodes in front where the text is good, else as it was
unfoldable pub Written : (i : ℕ) (kind : ℕ → Kind) (text : Text) (r : Reading) (out out' : List Node) → Type 0
Written i kind text (Ok n) out out' = (φ : Formula) → IsGood i kind text φ → out' ≡ sets out 0 (nodes_of φ)
Written i kind text (Err e) out out' = out' ≡ out

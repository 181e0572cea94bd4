-- What stands in the nodes of a formula: each node stands for a part of it, and the last for the whole. Assumes nothing.
use Prim.Native.Nat.{ℕ, zero, suc, ◌+◌, ◌-◌, ◌≤◌, ◌<◌}
use mathlib.Core.Path.{◌≡◌, sym, ap, ◌∙◌}
use mathlib.Core.List.{List, [], ◌∷◌, ◌++◌}
use native.Mathlib.Nat.{add_assoc, add-zero, zero-add}
use native.Mathlib.Omega.{arith}
use lib.ListN.{drop, get_or, length, take, length-append, get_or-append}
use lib.Seq.{get_or-append-add, sets, sets-eq, take-append_seam}
use Rattle.reader.specs.Limits.{node_limit, operator_limit}
use Rattle.reader.specs.Formula.{with_unary, with_binary}
use Rattle.reader.specs.Formula.{Formula, constant, name, unary, binary, size, operators}
use Rattle.reader.specs.declared.nodes.Node.{Node}
use Rattle.reader.specs.declared.nodes.Node.TheVariants as node
use Rattle.reader.specs.inner.Nodes.{binary_op, blank_node, code, nodes_of}
use Rattle.automaton.specs.inner.Representation.{Represents}
use Rattle.reader.proofs.NodeLaws.{size_pos, code_length}
use Rattle.automaton.specs.inner.Nodes.{Stands, at_constant, at_name, at_unary, at_binary}

-- ---- a stretch of a list of nodes
module _ (nodes : List Node) where
  -- the nodes stand in the list from n on
  unfoldable Stretch : ℕ → List Node → Type 0
  Stretch n xs = (j : ℕ) → j < length xs → get_or nodes (n + j) blank_node ≡ get_or xs j blank_node

  stretch_left : (n : ℕ) (xs ys : List Node) → Stretch n (xs ++ ys) → Stretch n xs
  unfolding Stretch
  stretch_left n xs ys s j h = s j (omega (arith, length-append xs ys)) ∙ get_or-append xs ys blank_node j h

  stretch_right : (n m : ℕ) (xs ys : List Node) → length xs ≡ m → Stretch n (xs ++ ys) → Stretch (n + m) ys
  unfolding Stretch
  stretch_right n m xs ys e s j h =
      ap (λ (i : ℕ). get_or nodes i blank_node) (add_assoc n m j)
      ∙ s (m + j) (omega (arith, length-append xs ys))
      ∙ ap (λ (i : ℕ). get_or (xs ++ ys) (i + j) blank_node) (sym e)
      ∙ get_or-append-add xs ys j blank_node

  stretch_head : (n : ℕ) (x : Node) (xs : List Node) → Stretch n (x ∷ xs) → get_or nodes n blank_node ≡ x
  unfolding Stretch
  stretch_head n x xs s = ap (λ (i : ℕ). get_or nodes i blank_node) (sym (add-zero n)) ∙ s 0 (omega arith)

-- ---- from a stretch to what the nodes stand for
module _ (nodes : List Node) where
  -- the node at a place that is known by another name
  moved : (n i : ℕ) (x : Node) → n ≡ i → get_or nodes n blank_node ≡ x → get_or nodes i blank_node ≡ x
  moved n i x e h = ap (λ (m : ℕ). get_or nodes m blank_node) (sym e) ∙ h

  stretch_node : (n k i : ℕ) (φ : Formula) → suc i ≡ n + size φ → Stretch nodes n (code n k φ) → Stands nodes i k φ
  unfolding code size
  stretch_node n k i (constant b) e s = at_constant (moved n i _ (omega arith) (stretch_head nodes n _ [] s))
  stretch_node n k i (name j) e s = at_name (moved n i _ (omega arith) (stretch_head nodes n _ [] s))
  stretch_node n k zero (unary u φ) e s = absurd (omega (arith, size_pos φ))
  stretch_node n k (suc i) (unary u φ) e s =
      let xs = code n (with_unary u k) φ in
      let q : n + size φ ≡ suc i = omega arith in
      at_unary
      (moved (n + size φ) (suc i) _ q (stretch_head nodes (n + size φ) _ [] (stretch_right nodes n (size φ) xs _ (code_length φ n (with_unary u k)) s)))
      (stretch_node n (with_unary u k) i φ (sym q) (stretch_left nodes n xs _ s))
  stretch_node n k zero (binary b φ ψ) e s = absurd (omega (arith, size_pos φ))
  stretch_node n k (suc i) (binary b φ ψ) e s =
      let K = with_binary b (k + operators φ) in
      let xs = code n k φ in
      let ys = code (n + size φ) K ψ in
      let j = n + size φ - 1 in
      let p : suc j ≡ n + size φ = omega (arith, size_pos φ) in
      let q : n + size φ + size ψ ≡ suc i = omega arith in
      let t = stretch_right nodes n (size φ) xs _ (code_length φ n k) s in
      at_binary {j = j} {ψ = ψ}
      (moved (n + size φ + size ψ) (suc i) _ q
      (stretch_head nodes (n + size φ + size ψ) _ [] (stretch_right nodes (n + size φ) (size ψ) ys _ (code_length ψ (n + size φ) K) t))
      ∙ ap (λ (l : ℕ). node.Binary (binary_op b) l (k + operators φ)) (sym p))
      (omega arith)
      (stretch_node n k j φ p (stretch_left nodes n xs _ s))
      (stretch_node (n + size φ) K i ψ (sym q) (stretch_left nodes (n + size φ) ys _ t))

  -- a formula has as many nodes as its size says
  pub represented_length : (φ : Formula) → Represents nodes φ → length nodes ≡ size φ
  represented_length φ r = ap (λ (l : List Node). length l) r.all ∙ code_length φ 0 1

  -- the last of a formula's nodes stands for the formula
  pub root_node : (φ : Formula) → Represents nodes φ → Stands nodes (length nodes - 1) 1 φ
  unfolding Stretch
  root_node φ r =
      stretch_node 0 1 (length nodes - 1) φ (omega (arith, size_pos φ, represented_length φ r))
      (λ j h. ap (λ (i : ℕ). get_or nodes i blank_node) (zero-add j) ∙ ap (λ (l : List Node). get_or l j blank_node) r.all)

-- the front of a buffer that was overwritten by the nodes of a formula within the limits
pub written_represents : (nodes : List Node) (φ : Formula) → size φ ≤ node_limit
    → operators φ ≤ operator_limit → size φ ≤ length nodes → Represents (take (size φ) (sets nodes 0 (nodes_of φ))) φ
written_represents nodes φ few ops room =
    let n = code_length φ 0 1 in
    let rest = drop (0 + length (nodes_of φ)) nodes in
    record {
      all = ap (take (size φ)) (sets-eq (nodes_of φ) nodes 0 (omega arith))
          ∙ ap (λ (m : ℕ). take m (nodes_of φ ++ rest)) (sym n) ∙ take-append_seam (nodes_of φ) rest;
      few_nodes = few;
      few_operators = ops;
    }

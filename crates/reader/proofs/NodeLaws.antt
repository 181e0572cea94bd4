-- The nodes of a formula, one after the other in a buffer.
-- Assumes nothing.
use mathlib.Core.Path.{◌≡◌, refl, sym, ap, ◌∙◌}
use mathlib.Core.List.{List, [], ◌∷◌, ◌++◌}
use Prim.Native.Nat.{ℕ, suc, ◌+◌, ◌<◌}
use native.Mathlib.Omega.{arith}
use lib.ListN.{length, set, length-append}
use lib.Seq.{sets}
use Rattle.reader.specs.Formula.{Unary, Binary, Formula, constant, name, unary, binary, size, with_unary, with_binary, operators}
use Rattle.reader.specs.declared.nodes.Node.{Node}
use Rattle.reader.specs.declared.nodes.Node.TheVariants as node
use Rattle.reader.specs.inner.Nodes.{unary_op, binary_op, code}

sets_append : (xs ys l : List Node) (i : ℕ) → sets l i (xs ++ ys) ≡ sets (sets l i xs) (i + length xs) ys
sets_append [] ys l i = ap (λ (k : ℕ). sets l k ys) (omega arith)
sets_append (x ∷ xs) ys l i = sets_append xs ys (set l i x) (suc i) ∙ ap (λ (k : ℕ). sets (sets (set l i x) (suc i) xs) k ys) (omega arith)

sets_one : (out X : List Node) (W : Node) (n a : ℕ) → length X ≡ a → sets out n (X ++ (W ∷ [])) ≡ set (sets out n X) (n + a) W
sets_one out X W n a e = rw (← e) (sets_append X (W ∷ []) out n)

sets_two : (out X Y : List Node) (W : Node) (n a b : ℕ) → length X ≡ a → length Y ≡ b
    → sets out n (X ++ (Y ++ (W ∷ []))) ≡ set (sets (sets out n X) (n + a) Y) (n + a + b) W
sets_two out X Y W n a b e f = rw (← e, ← f) (sets_append X (Y ++ (W ∷ [])) out n ∙ sets_append Y (W ∷ []) (sets out n X) (n + length X))

pub size_pos : (φ : Formula) → 0 < size φ
unfolding size
size_pos (constant b) = omega arith
size_pos (name j) = omega arith
size_pos (unary u φ) = omega arith
size_pos (binary b φ ψ) = omega arith

-- the counts of a formula that is an operator over others
pub size_binary : (b : Binary) (α β φ : Formula) → φ ≡ binary b α β → size φ ≡ size α + size β + 1
unfolding size
size_binary b α β φ e = ap size e

pub operators_binary : (b : Binary) (α β φ : Formula) → φ ≡ binary b α β → operators φ ≡ operators α + with_binary b (operators β)
unfolding operators
operators_binary b α β φ e = ap operators e

pub size_unary : (u : Unary) (α φ : Formula) → φ ≡ unary u α → size φ ≡ size α + 1
unfolding size
size_unary u α φ e = ap size e

pub operators_unary : (u : Unary) (α φ : Formula) → φ ≡ unary u α → operators φ ≡ with_unary u (operators α)
unfolding operators
operators_unary u α φ e = ap operators e

-- a formula has as many nodes in a buffer as it has nodes
pub code_length : (φ : Formula) (n k : ℕ) → length (code n k φ) ≡ size φ
unfolding code size
code_length (constant b) n k = refl
code_length (name j) n k = refl
code_length (unary u φ) n k = length-append (code n (with_unary u k) φ) (node.Unary (unary_op u) k ∷ []) ∙ omega (arith, code_length φ n (with_unary u k))
code_length (binary b φ ψ) n k =
    let m = n + size φ in
    let j = k + operators φ in
    length-append (code n k φ) (code m (with_binary b j) ψ ++ (node.Binary (binary_op b) m j ∷ []))
    ∙ omega (arith, code_length φ n k, length-append (code m (with_binary b j) ψ) (node.Binary (binary_op b) m j ∷ []), code_length ψ m (with_binary b j))

-- the nodes of both operands and then the operator's are those of the formula
pub code_binary : (n k : ℕ) (b : Binary) (α β : Formula) (out out₁ out₂ out₃ : List Node) → out₁ ≡ sets out n (code n k α)
    → out₂ ≡ sets out₁ (n + size α) (code (n + size α) (with_binary b (k + operators α)) β)
    → out₃ ≡ set out₂ (n + size α + size β) (node.Binary (binary_op b) (n + size α) (k + operators α)) → out₃ ≡ sets out n (code n k (binary b α β))
unfolding code
code_binary n k b α β out out₁ out₂ out₃ e f g =
    let m = n + size α in
    let j = k + operators α in
    g
    ∙ ap (λ (o : List Node). set o (m + size β) (node.Binary (binary_op b) m j)) (f ∙ ap (λ (o : List Node). sets o m (code m (with_binary b j) β)) e)
    ∙ sym (sets_two out (code n k α) (code m (with_binary b j) β) (node.Binary (binary_op b) m j) n (size α) (size β) (code_length α n k)
    (code_length β m (with_binary b j)))

-- the nodes of the operand and then the operator's are those of the formula
pub code_unary : (n k : ℕ) (u : Unary) (α : Formula) (out out₁ out₂ : List Node) → out₁ ≡ sets out n (code n (with_unary u k) α)
    → out₂ ≡ set out₁ (n + size α) (node.Unary (unary_op u) k) → out₂ ≡ sets out n (code n k (unary u α))
unfolding code
code_unary n k u α out out₁ out₂ e f =
    f
    ∙ ap (λ (o : List Node). set o (n + size α) (node.Unary (unary_op u) k)) e
    ∙ sym (sets_one out (code n (with_unary u k) α) (node.Unary (unary_op u) k) n (size α) (code_length α n (with_unary u k)))

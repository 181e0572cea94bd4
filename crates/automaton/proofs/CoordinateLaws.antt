-- From the words of the nodes to the valuation of the present position, and the end valuation.
-- Assumes nothing.
use Prim.Native.Nat.{ℕ, zero, suc, ◌+◌, ◌-◌, ◌^◌, ◌≤◌, ◌<◌}
use mathlib.Core.Path.{◌≡◌, refl, sym, ap, ◌∙◌, subst}
use mathlib.Core.Bool.{Bool, false}
use mathlib.Core.List.{List, [], ◌∷◌, ◌++◌}
use native.Mathlib.Nat.{zero-add, add-zero, add-suc, suc-add, not-suc-le-zero, le_of_suc-le-suc, zero-lt-suc, lt_of_lt_of_le}
use native.Mathlib.Omega.{arith}
use native.Mathlib.Numerals.{one-add}
use lib.ListN.{get_or, length}
use lib.Pow.{pow_mono}
use Rattle.std.specs.Prelude.{Some}
use Rattle.reader.specs.Formula.{Unary, Binary, neg, next, weak, eventually, always, until, release, conj, disj, impl, with_unary, with_binary}
use Rattle.reader.specs.Formula.{Formula, constant, name, unary, binary, operators}
use Rattle.reader.specs.declared.nodes.Node.{Node}
use Rattle.reader.specs.declared.nodes.Node.TheVariants as node
use Rattle.reader.specs.inner.Nodes.{unary_op, binary_op, blank_node}
use Rattle.automaton.specs.inner.Sizes.{coordinate_limit, vector_limit}
use Rattle.automaton.specs.Bits.{bit, of_bits, gather}
use Rattle.automaton.specs.Valuation.{value, coords, ends, present, end_vector}
use Rattle.automaton.specs.inner.Representation.{Represents}
use Rattle.automaton.specs.inner.Nodes.{Stands, at_constant, at_name, at_unary, at_binary}
use Rattle.automaton.specs.inner.Evaluation.{Evaluated}
use Rattle.automaton.specs.inner.Coordinates.{coordinate_of, Located, owner_of, operator_at, owner, end_of, end_bit, Makes}
use Rattle.automaton.proofs.BitLaws.{of_bits_ext}
use Rattle.reader.proofs.NodeLaws.{size_pos}
use Rattle.automaton.proofs.ValuationLaws.{coords_length, ends_length}
use Rattle.automaton.proofs.NodeLaws.{represented_length, root_node}
use Rattle.automaton.proofs.EvaluationLaws.{node_bit}
use Rattle.automaton.proofs.OperatorLaws.{placed}

-- ---- the bits of a node's operators: those of its operands, and its own where it is temporal
unary_bits : Unary → Bool → List Bool → List Bool
unary_bits neg x bs = bs
unary_bits next x bs = x ∷ bs
unary_bits weak x bs = x ∷ bs
unary_bits eventually x bs = x ∷ bs
unary_bits always x bs = x ∷ bs

binary_bits : Binary → Bool → List Bool → List Bool
binary_bits until x bs = x ∷ bs
binary_bits release x bs = x ∷ bs
binary_bits conj x bs = bs
binary_bits disj x bs = bs
binary_bits impl x bs = bs

unary_ends : (u : Unary) (k : ℕ) (φ : Formula) → ends (unary u φ) ≡ unary_bits u (end_of (node.Unary (unary_op u) k)) (ends φ)
unfolding ends unary_bits end_of
unary_ends neg k φ = refl
unary_ends next k φ = refl
unary_ends weak k φ = refl
unary_ends eventually k φ = refl
unary_ends always k φ = refl

binary_ends : (b : Binary) (l k : ℕ) (φ ψ : Formula) → ends (binary b φ ψ) ≡ ends φ ++ binary_bits b (end_of (node.Binary (binary_op b) l k)) (ends ψ)
unfolding ends binary_bits end_of
binary_ends until l k φ ψ = refl
binary_ends release l k φ ψ = refl
binary_ends conj l k φ ψ = refl
binary_ends disj l k φ ψ = refl
binary_ends impl l k φ ψ = refl

-- the value of a prefix operator's coordinate: of X and N the operand's
own_value : Unary → Formula → ℕ → ℕ → ℕ → Bool
own_value neg φ k a v = value (unary neg φ) k a v
own_value next φ k a v = value φ (suc k) a v
own_value weak φ k a v = value φ (suc k) a v
own_value eventually φ k a v = value (unary eventually φ) k a v
own_value always φ k a v = value (unary always φ) k a v

unary_coords : (u : Unary) (φ : Formula) (k a v : ℕ) → coords (unary u φ) k a v ≡ unary_bits u (own_value u φ k a v) (coords φ (with_unary u k) a v)
unfolding coords unary_bits own_value
unary_coords neg φ k a v = refl
unary_coords next φ k a v = refl
unary_coords weak φ k a v = refl
unary_coords eventually φ k a v = refl
unary_coords always φ k a v = refl

binary_coords : (b : Binary) (φ ψ : Formula) (k a v : ℕ)
    → coords (binary b φ ψ) k a v ≡ coords φ k a v ++ binary_bits b (value (binary b φ ψ) k a v) (coords ψ (with_binary b (k + operators φ)) a v)
unfolding coords binary_bits
binary_coords until φ ψ k a v = refl
binary_coords release φ ψ k a v = refl
binary_coords conj φ ψ k a v = refl
binary_coords disj φ ψ k a v = refl
binary_coords impl φ ψ k a v = refl

-- ---- a test of coordinates against a list of bits
module _ (g : ℕ → Bool) where
  -- the test of the coordinates from k on gives the list
  unfoldable Along : ℕ → List Bool → Type 0
  Along k bs = (j : ℕ) → j < length bs → g (k + j) ≡ get_or bs j false

  along_nil : (k : ℕ) → Along k []
  unfolding Along
  along_nil k j h = absurd (not-suc-le-zero h)

  along_cons : (k : ℕ) (b : Bool) (bs : List Bool) → g k ≡ b → Along (suc k) bs → Along k (b ∷ bs)
  unfolding Along
  along_cons k b bs e o zero h = ap g (add-zero k) ∙ e
  along_cons k b bs e o (suc j) h = ap g (add-suc k j ∙ sym (suc-add k j)) ∙ o j (le_of_suc-le-suc h)

  along_append : (k : ℕ) (bs cs : List Bool) → Along k bs → Along (k + length bs) cs → Along k (bs ++ cs)
  unfolding Along
  along_append k [] cs o p = subst (λ (i : ℕ). Along i cs) (add-zero k) p
  along_append k (b ∷ bs) cs o p =
      along_cons k b (bs ++ cs) (ap g (sym (add-zero k)) ∙ o 0 (zero-lt-suc (length bs)))
      (along_append (suc k) bs cs (λ j h. ap g (suc-add k j ∙ sym (add-suc k j)) ∙ o (suc j) (omega arith))
      (subst (λ (i : ℕ). Along i cs) (add-suc k (length bs) ∙ sym (suc-add k (length bs))) p))

  along_unary : (u : Unary) (k : ℕ) (x : Bool) (bs : List Bool)
      → (coordinate_of (node.Unary (unary_op u) k) ≡ Some k → g k ≡ x) → Along (with_unary u k) bs → Along k (unary_bits u x bs)
  unfolding unary_bits coordinate_of
  along_unary neg k x bs e o = o
  along_unary next k x bs e o = along_cons k x bs (e refl) o
  along_unary weak k x bs e o = along_cons k x bs (e refl) o
  along_unary eventually k x bs e o = along_cons k x bs (e refl) o
  along_unary always k x bs e o = along_cons k x bs (e refl) o

  along_right : (b : Binary) (l k : ℕ) (x : Bool) (bs : List Bool)
      → (coordinate_of (node.Binary (binary_op b) l k) ≡ Some k → g k ≡ x) → Along (with_binary b k) bs → Along k (binary_bits b x bs)
  unfolding binary_bits coordinate_of
  along_right until l k x bs e o = along_cons k x bs (e refl) o
  along_right release l k x bs e o = along_cons k x bs (e refl) o
  along_right conj l k x bs e o = o
  along_right disj l k x bs e o = o
  along_right impl l k x bs e o = o

  along_binary : (b : Binary) (l k n : ℕ) (x : Bool) (bs cs : List Bool) → length bs ≡ n
      → (coordinate_of (node.Binary (binary_op b) l (k + n)) ≡ Some (k + n) → g (k + n) ≡ x)
      → Along k bs → Along (with_binary b (k + n)) cs → Along k (bs ++ binary_bits b x cs)
  along_binary b l k n x bs cs q e o p =
      along_append k bs (binary_bits b x cs) o (subst (λ (i : ℕ). Along (k + i) (binary_bits b x cs)) (sym q) (along_right b l (k + n) x cs e p))

-- ---- the coordinates of a formula's nodes
module _ (nodes : List Node) (places : List ℕ)
    (pl : (j o : ℕ) → o < length nodes → coordinate_of (get_or nodes o blank_node) ≡ Some j → get_or places j 0 ≡ o) where
  -- what is asked of a coordinate's node is asked of the operator that has it
  operator : {A : Type 0} (f : Node → ℕ → A) (i k : ℕ) (n : Node) → i < length nodes → get_or nodes i blank_node ≡ n → coordinate_of n ≡ Some k
      → f (operator_at nodes places k) (get_or places k 0) ≡ f n i
  operator f i k n h e t =
      let p : get_or places k 0 ≡ i = pl k i h (ap coordinate_of e ∙ t) in
      ap (λ (o : ℕ). f (get_or nodes o blank_node) o) p ∙ ap (λ (x : Node). f x i) e

  -- ---- the end valuation
  ended : (i k : ℕ) (φ : Formula) → i < length nodes → Stands nodes i k φ → Along (λ j. end_of (operator_at nodes places j)) k (ends φ)
  unfolding ends
  ended i k (constant b) h (at_constant e) = along_nil _ k
  ended i k (name n) h (at_name e) = along_nil _ k
  ended i k (unary u φ) h (at_unary {i = i'} e t) =
      let g : ℕ → Bool = λ j. end_of (operator_at nodes places j) in
      subst (Along g k) (sym (unary_ends u k φ))
      (along_unary g u k (end_of (node.Unary (unary_op u) k)) (ends φ)
      (operator (λ n o. end_of n) (suc i') k (node.Unary (unary_op u) k) h e)
      (ended i' (with_unary u k) φ (omega arith) t))
  ended i k (binary b φ ψ) h (at_binary {i = i'} {j = j} e n s t) =
      let g : ℕ → Bool = λ j. end_of (operator_at nodes places j) in
      let c = k + operators φ in
      subst (Along g k) (sym (binary_ends b (suc j) c φ ψ))
      (along_binary g b (suc j) k (operators φ) (end_of (node.Binary (binary_op b) (suc j) c)) (ends φ) (ends ψ) (ends_length φ)
      (operator (λ n o. end_of n) (suc i') c (node.Binary (binary_op b) (suc j) c) h e)
      (ended j k φ (omega arith) s)
      (ended i' (with_binary b c) ψ (omega arith) t))

  -- ---- the words of the coordinates
  module _ (a : ℕ) (ws : List ℕ) (ev : Evaluated nodes a ws (length nodes)) (v : ℕ) (hv : v < vector_limit) where
    -- the bit of an operator's coordinate
    abbrev own : ℕ → Bool
    own k = bit (get_or ws (owner_of (operator_at nodes places k) (get_or places k 0)) 0) v

    -- of a node with one operand, from the operand's and its own
    own_unary : (u : Unary) (φ : Formula) (i k : ℕ)
        → bit (get_or ws i 0) v ≡ value φ (with_unary u k) a v → bit (get_or ws (suc i) 0) v ≡ value (unary u φ) k a v
        → bit (get_or ws (owner_of (node.Unary (unary_op u) k) (suc i)) 0) v ≡ own_value u φ k a v
    unfolding owner_of own_value
    own_unary neg φ i k x y = y
    own_unary next φ i k x y = let e : suc i - 1 ≡ i = omega arith in ap (λ (n : ℕ). bit (get_or ws n 0) v) e ∙ x
    own_unary weak φ i k x y = let e : suc i - 1 ≡ i = omega arith in ap (λ (n : ℕ). bit (get_or ws n 0) v) e ∙ x
    own_unary eventually φ i k x y = y
    own_unary always φ i k x y = y

    owned : (i k : ℕ) (φ : Formula) → i < length nodes → Stands nodes i k φ → Along own k (coords φ k a v)
    unfolding coords owner_of
    owned i k (constant b) h (at_constant e) = along_nil own k
    owned i k (name n) h (at_name e) = along_nil own k
    owned i k (unary u φ) h (at_unary {i = i'} e t) =
        subst (Along own k) (sym (unary_coords u φ k a v))
        (along_unary own u k (own_value u φ k a v) (coords φ (with_unary u k) a v)
        (λ q. operator (λ n o. bit (get_or ws (owner_of n o) 0) v) (suc i') k (node.Unary (unary_op u) k) h e q
        ∙ own_unary u φ i' k (node_bit nodes a ws (length nodes) v i' (with_unary u k) φ ev hv (omega arith) t)
        (node_bit nodes a ws (length nodes) v (suc i') k (unary u φ) ev hv h (at_unary e t)))
        (owned i' (with_unary u k) φ (omega arith) t))
    owned i k (binary b φ ψ) h (at_binary {i = i'} {j = j} e n s t) =
        let c = k + operators φ in
        subst (Along own k) (sym (binary_coords b φ ψ k a v))
        (along_binary own b (suc j) k (operators φ) (value (binary b φ ψ) k a v)
        (coords φ k a v) (coords ψ (with_binary b c) a v) (coords_length φ k a v)
        (λ q. operator (λ n o. bit (get_or ws (owner_of n o) 0) v) (suc i') c (node.Binary (binary_op b) (suc j) c) h e q
        ∙ node_bit nodes a ws (length nodes) v (suc i') k (binary b φ ψ) ev hv h (at_binary {j = j} {ψ = ψ} e n s t))
        (owned j k φ (omega arith) s)
        (owned i' (with_binary b c) ψ (omega arith) t))

-- ---- the promises of the functions

-- the root's bit
pub root_bit : (nodes : List Node) (φ : Formula) → Represents nodes φ → (a : ℕ) (ws : List ℕ)
    → Evaluated nodes a ws (length nodes) → (v : ℕ) → v < vector_limit → bit (get_or ws (length nodes - 1) 0) v ≡ value φ 1 a v
root_bit nodes φ rep a ws ev v hv =
    node_bit nodes a ws (length nodes) v (length nodes - 1) 1 φ ev hv (omega (arith, represented_length nodes φ rep, size_pos φ)) (root_node nodes φ rep)

module _ (nodes : List Node) (places : List ℕ) (φ : Formula) (rep : Represents nodes φ) (loc : Located nodes (length nodes) places) where
  pub ended_vector : of_bits (end_bit nodes places) (suc (operators φ)) ≡ end_vector φ
  unfolding end_vector gather end_bit Along
  ended_vector =
      let l = false ∷ ends φ in
      let n : length l ≡ suc (operators φ) = ap suc (ends_length φ) in
      let last : length nodes - 1 < length nodes = omega (arith, represented_length nodes φ rep, size_pos φ) in
      let tree = ended nodes places (placed nodes places φ rep loc) (length nodes - 1) 1 φ last (root_node nodes φ rep) in
      let all = along_cons (end_bit nodes places) 0 false (ends φ) refl
      (λ j h. ap (end_bit nodes places) (one-add j) ∙ ap (λ (i : ℕ). end_of (operator_at nodes places i)) (sym (one-add j)) ∙ tree j h) in
      of_bits_ext (end_bit nodes places) (λ j. get_or l j false) (suc (operators φ))
      (λ j h. ap (end_bit nodes places) (sym (zero-add j)) ∙ all j (omega arith)) ∙ ap (of_bits (λ j. get_or l j false)) (sym n)

  module _ (a : ℕ) (ws : List ℕ) (ev : Evaluated nodes a ws (length nodes)) where
    -- the valuation that the coordinates' words make from v is that of the present position
    pub made_present : (ps : List ℕ) → ((j : ℕ) → j < coordinate_limit → get_or ps j 0 ≡ get_or ws (owner nodes places j) 0) → Makes φ a ps
    unfolding Makes present gather Along owner
    made_present ps same v hv =
        let l = value φ 1 a v ∷ coords φ 1 a v in
        let few = rep.few_operators in
        let g : ℕ → Bool = λ j. bit (get_or ws (owner nodes places j) 0) v in
        let pl = placed nodes places φ rep loc in
        let last : length nodes - 1 < length nodes = omega (arith, represented_length nodes φ rep, size_pos φ) in
        let tree = owned nodes places pl a ws ev v hv (length nodes - 1) 1 φ last (root_node nodes φ rep) in
        let all = along_cons g 0 (value φ 1 a v) (coords φ 1 a v) (root_bit nodes φ rep a ws ev v hv)
        (λ j h. ap g (one-add j) ∙ ap (own nodes places pl a ws ev v hv) (sym (one-add j)) ∙ tree j h) in
        let n : length l ≡ suc (operators φ) = ap suc (coords_length φ 1 a v) in
        of_bits_ext (λ j. bit (get_or ps j 0) v) (λ j. get_or l j false) (suc (operators φ))
        (λ j h. ap (λ (x : ℕ). bit x v) (same j (omega arith)) ∙ ap g (sym (zero-add j)) ∙ all j (omega arith))
        ∙ ap (of_bits (λ j. get_or l j false)) (sym n)

-- the valuation from the words, for a width at hand
pub present_from : (φ : Formula) (a : ℕ) (ps : List ℕ) (w : ℕ) → w ≡ suc (operators φ)
    → Makes φ a ps → (v : ℕ) → v < vector_limit → of_bits (λ j. bit (get_or ps j 0) v) w ≡ present φ a v
unfolding Makes
present_from φ a ps w e made v h = ap (of_bits (λ j. bit (get_or ps j 0) v)) e ∙ made v h

-- a valuation fits six bits
pub vector_small : (w x : ℕ) → w ≤ coordinate_limit → x < 2 ^ w → x < vector_limit
vector_small w x h l = lt_of_lt_of_le l (pow_mono {i = w} {j = coordinate_limit} h)

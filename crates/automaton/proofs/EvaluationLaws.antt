-- One node's turn: with the operands' words right, the node's word is right. Assumes nothing.
use Prim.Native.Nat.{ℕ, suc, ◌+◌, ◌-◌, ◌≤◌, ◌<◌}
use mathlib.Core.Path.{◌≡◌, refl, sym, ap, ap₂, ◌∙◌, subst}
use mathlib.Core.Bool.{Bool, true, false, not, ◌&&◌, ◌||◌}
use mathlib.Core.List.{List}
use mathlib.Core.Logic.{⊎_elim}
use native.Mathlib.Nat.{le_refl, eq-or-lt_of_le, le_of_suc-le-suc}
use native.Mathlib.Omega.{arith}
use lib.Bits.{bit_and, bit_or, bit_xor}
use lib.ListN.{get_or, set, length}
use lib.Seq.{get_or-set_same, get_or-set_other}
use Rattle.reader.specs.Formula.{Unary, Binary, neg, next, weak, eventually, always, until, release, conj, disj, impl, with_unary, with_binary}
use Rattle.reader.specs.Formula.{Formula, constant, name, unary, binary, operators}
use Rattle.reader.specs.declared.nodes.Node.{Node}
use Rattle.reader.specs.declared.nodes.Node.TheVariants as node
use Rattle.reader.specs.inner.Nodes.{unary_op, binary_op, blank_node}
use Rattle.automaton.specs.inner.Sizes.{vector_limit}
use Rattle.automaton.specs.Bits.{bit, of_bits}
use Rattle.automaton.specs.Valuation.{value}
use Rattle.automaton.specs.inner.Nodes.{Stands, at_constant, at_name, at_unary, at_binary}
use Rattle.automaton.specs.inner.Evaluation.{all_valuations, left_of, node_word, Evaluated}
use Rattle.automaton.proofs.BitLaws.{of_bits_and, of_bits_or, of_bits_not, same_true, same_false, bit_of_bits}

-- the valuations at which a test passes
abbrev set_of : (ℕ → Bool) → ℕ
set_of f = of_bits f vector_limit

not_set : (x : ℕ) (f : ℕ → Bool) → x ≡ set_of f → bit_xor x all_valuations ≡ set_of (λ v. not (f v))
not_set x f e = ap₂ bit_xor e (same_true true refl) ∙ of_bits_not f vector_limit

and_sets : (x y : ℕ) (f g : ℕ → Bool) → x ≡ set_of f → y ≡ set_of g → bit_and x y ≡ set_of (λ v. f v && g v)
and_sets x y f g e d = ap₂ bit_and e d ∙ of_bits_and f g vector_limit

or_sets : (x y : ℕ) (f g : ℕ → Bool) → x ≡ set_of f → y ≡ set_of g → bit_or x y ≡ set_of (λ v. f v || g v)
or_sets x y f g e d = ap₂ bit_or e d ∙ of_bits_or f g vector_limit

-- ---- the word of a node, from its operands'
module _ (a L R : ℕ) where
  constant_given : (b : Bool) → node_word (node.Constant b) a L R ≡ set_of (λ v. b)
  unfolding node_word
  constant_given false = same_false false refl
  constant_given true = same_true true refl

  unary_given : (k : ℕ) (u : Unary) (φ : Formula) → R ≡ set_of (λ v. value φ (with_unary u k) a v)
      → node_word (node.Unary (unary_op u) k) a L R ≡ set_of (λ v. value (unary u φ) k a v)
  unfolding node_word value
  unary_given k neg φ r = not_set R (λ v. value φ k a v) r
  unary_given k next φ r = refl
  unary_given k weak φ r = refl
  unary_given k eventually φ r = or_sets R (set_of (λ v. bit v k)) (λ v. value φ (suc k) a v) (λ v. bit v k) r refl
  unary_given k always φ r = and_sets R (set_of (λ v. bit v k)) (λ v. value φ (suc k) a v) (λ v. bit v k) r refl

  binary_given : (k j : ℕ) (b : Binary) (φ ψ : Formula) → L ≡ set_of (λ v. value φ k a v)
      → R ≡ set_of (λ v. value ψ (with_binary b (k + operators φ)) a v)
      → node_word (node.Binary (binary_op b) j (k + operators φ)) a L R ≡ set_of (λ v. value (binary b φ ψ) k a v)
  unfolding node_word value
  binary_given k j until φ ψ l r =
      let p : ℕ → Bool = λ v. value φ k a v in
      let c : ℕ → Bool = λ v. bit v (k + operators φ) in
      or_sets R (bit_and L (set_of c)) (λ v. value ψ (suc (k + operators φ)) a v) (λ v. p v && c v) r (and_sets L (set_of c) p c l refl)
  binary_given k j release φ ψ l r =
      let p : ℕ → Bool = λ v. value φ k a v in
      let c : ℕ → Bool = λ v. bit v (k + operators φ) in
      and_sets R (bit_or L (set_of c)) (λ v. value ψ (suc (k + operators φ)) a v) (λ v. p v || c v) r (or_sets L (set_of c) p c l refl)
  binary_given k j conj φ ψ l r = and_sets L R (λ v. value φ k a v) (λ v. value ψ (k + operators φ) a v) l r
  binary_given k j disj φ ψ l r = or_sets L R (λ v. value φ k a v) (λ v. value ψ (k + operators φ) a v) l r
  binary_given k j impl φ ψ l r =
      or_sets (bit_xor L all_valuations) R (λ v. not (value φ k a v)) (λ v. value ψ (k + operators φ) a v) (not_set L (λ v. value φ k a v) l) r

module _ (nodes : List Node) (a : ℕ) (ws : List ℕ) where
  -- what the code hands to node i
  abbrev left_at : ℕ → ℕ
  left_at i = get_or ws (left_of (get_or nodes i blank_node)) 0

  abbrev right_at : ℕ → ℕ
  right_at i = get_or ws (i - 1) 0

  -- and the word that it gives it
  abbrev given : ℕ → ℕ
  given i = node_word (get_or nodes i blank_node) a (left_at i) (right_at i)

  right_word : {i k : ℕ} {φ : Formula} → Evaluated nodes a ws (suc i) → Stands nodes i k φ → right_at (suc i) ≡ set_of (λ v. value φ k a v)
  unfolding Evaluated
  right_word {i} {k} {φ} ev t =
      let e : suc i - 1 ≡ i = omega arith in
      ap (λ (j : ℕ). get_or ws j 0) e ∙ ev i (le_refl (suc i)) k φ t

  left_word : {i j k : ℕ} {φ : Formula} (b : Binary) (c : ℕ) → Evaluated nodes a ws (suc i)
      → get_or nodes (suc i) blank_node ≡ node.Binary (binary_op b) (suc j) c → j ≤ i → Stands nodes j k φ → left_at (suc i) ≡ set_of (λ v. value φ k a v)
  unfolding Evaluated
  left_word {i} {j} {k} {φ} b c ev e h t =
      let q : suc j - 1 ≡ j = omega arith in
      ap (λ (x : ℕ). get_or ws x 0) (ap left_of e ∙ q) ∙ ev j (omega arith) k φ t

  -- the word of a node that is known
  word_is : (i : ℕ) (n : Node) {x : ℕ} → get_or nodes i blank_node ≡ n → node_word n a (left_at i) (right_at i) ≡ x → given i ≡ x
  word_is i n e h = ap (λ (m : Node). node_word m a (left_at i) (right_at i)) e ∙ h

  node_given : (i k : ℕ) (φ : Formula) → Evaluated nodes a ws i → Stands nodes i k φ → given i ≡ set_of (λ v. value φ k a v)
  unfolding node_word value
  node_given i k (constant b) ev (at_constant e) = word_is i _ e (constant_given a (left_at i) (right_at i) b)
  node_given i k (name n) ev (at_name e) = word_is i _ e refl
  node_given i k (unary u φ) ev (at_unary e t) = word_is i _ e (unary_given a (left_at i) (right_at i) k u φ (right_word ev t))
  node_given i k (binary b φ ψ) ev (at_binary {j = j} e n s t) =
      word_is i _ e (binary_given a (left_at i) (right_at i) k (suc j) b φ ψ (left_word b (k + operators φ) ev e (omega arith) s) (right_word ev t))

  -- the turn of the loop: the word x of node i, made from its operands' words y and z, is stored
  pub evaluated_more : (i x y z : ℕ) (n : Node) → i < length ws → n ≡ get_or nodes i blank_node → y ≡ get_or ws (left_of n) 0 → z ≡ right_at i
      → x ≡ node_word n a y z → Evaluated nodes a ws i → Evaluated nodes a (set ws i x) (suc i)
  unfolding Evaluated
  evaluated_more i x y z n h en ey ez ex ev j l k φ t =
      let operands : node_word n a y z ≡ node_word n a (left_at i) (right_at i) = ap₂ (node_word n a) (ey ∙ ap (λ (m : Node). get_or ws (left_of m) 0) en) ez in
      let e : x ≡ given i = ex ∙ operands ∙ ap (λ (m : Node). node_word m a (left_at i) (right_at i)) en in
      ⊎_elim
      (λ (q : j ≡ i). subst (λ (m : ℕ). Stands nodes m k φ → get_or (set ws i x) m 0 ≡ set_of (λ v. value φ k a v))
      (sym q) (λ u. get_or-set_same ws i x 0 h ∙ e ∙ node_given i k φ ev u) t)
      (λ (q : j < i). get_or-set_other ws i j x 0 (λ r. let z : ⊥ = omega arith in z) ∙ ev j q k φ t)
      (eq-or-lt_of_le (le_of_suc-le-suc l))

  -- a bit of an evaluated node's word
  pub node_bit : (m v i k : ℕ) (φ : Formula) → Evaluated nodes a ws m → v < vector_limit → i < m → Stands nodes i k φ → bit (get_or ws i 0) v ≡ value φ k a v
  unfolding Evaluated
  node_bit m v i k φ ev hv h t = ap (λ (x : ℕ). bit x v) (ev i h k φ t) ∙ bit_of_bits (λ u. value φ k a u) vector_limit v hv

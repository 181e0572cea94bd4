-- The temporal operators among a formula's nodes: how many there are, and that each has a coordinate of its own. Assumes nothing.
use Prim.Native.Nat.{ℕ, suc, ◌+◌, ◌-◌, ◌≤◌, ◌<◌}
use mathlib.Core.Path.{◌≡◌, refl, sym, ap, ◌∙◌}
use mathlib.Core.Bool.{cond}
use mathlib.Core.List.{List, [], ◌∷◌, ◌++◌}
use mathlib.Core.Logic.{⊎_elim}
use native.Mathlib.Nat.{eq-or-lt_of_le}
use native.Mathlib.Omega.{arith}
use lib.ListN.{get_or, length}
use Rattle.std.specs.Prelude.{Option, Some, unwrap_or}
use Rattle.std.proofs.lemmas.Bool.{cases_lt}
use Rattle.std.proofs.lemmas.List.Sums.{sum_by-append}
use Rattle.std.proofs.lemmas.Option.{none-some}
use Rattle.reader.specs.Formula.{Unary, Binary, neg, next, weak, eventually, always, until, release, conj, disj, impl, with_unary, with_binary}
use Rattle.reader.specs.Formula.{Formula, constant, name, unary, binary, size, operators}
use Rattle.reader.specs.declared.nodes.Node.{Node}
use Rattle.reader.specs.declared.nodes.Node.TheVariants as node
use Rattle.reader.specs.inner.Nodes.{unary_op, binary_op, blank_node, code}
use Rattle.automaton.specs.inner.Representation.{Represents}
use Rattle.automaton.specs.inner.Nodes.{Stands, at_constant, at_name, at_unary, at_binary}
use Rattle.automaton.specs.inner.Coordinates.{coordinate_of, is_temporal_node, operators_in, Located}
use Rattle.automaton.proofs.NodeLaws.{represented_length, root_node}

-- ---- what an operator adds to a count
abbrev counts : Node → ℕ
counts n = cond (is_temporal_node n) 1 0

pub unary_adds : (u : Unary) (k n : ℕ) → with_unary u n ≡ counts (node.Unary (unary_op u) k) + n
unfolding coordinate_of
unary_adds neg k n = omega arith
unary_adds next k n = omega arith
unary_adds weak k n = omega arith
unary_adds eventually k n = omega arith
unary_adds always k n = omega arith

pub binary_adds : (b : Binary) (l k n : ℕ) → with_binary b n ≡ counts (node.Binary (binary_op b) l k) + n
unfolding coordinate_of
binary_adds until l k n = omega arith
binary_adds release l k n = omega arith
binary_adds conj l k n = omega arith
binary_adds disj l k n = omega arith
binary_adds impl l k n = omega arith

-- a node with a coordinate is counted, and the coordinate is the one that the node has
counted_one : (n : Node) (c : ℕ) → coordinate_of n ≡ Some c → counts n ≡ 1
counted_one n c e = ap (λ (o : Option ℕ). cond (Rattle.std.specs.Prelude.is_some o) 1 0) e

some_same : (j k : ℕ) → Some j ≡ Some k → j ≡ k
some_same j k e = ap (λ (o : Option ℕ). unwrap_or o 0) e

unary_own : (u : Unary) (k c : ℕ) → coordinate_of (node.Unary (unary_op u) k) ≡ Some c → k ≡ c
unfolding coordinate_of
unary_own neg k c e = absurd (none-some c e)
unary_own next k c e = some_same k c e
unary_own weak k c e = some_same k c e
unary_own eventually k c e = some_same k c e
unary_own always k c e = some_same k c e

binary_own : (b : Binary) (l k c : ℕ) → coordinate_of (node.Binary (binary_op b) l k) ≡ Some c → k ≡ c
unfolding coordinate_of
binary_own until l k c e = some_same k c e
binary_own release l k c e = some_same k c e
binary_own conj l k c e = absurd (none-some c e)
binary_own disj l k c e = absurd (none-some c e)
binary_own impl l k c e = absurd (none-some c e)

-- ---- the number of operators
counted : (φ : Formula) (n k : ℕ) → operators_in (code n k φ) ≡ operators φ
unfolding code size operators coordinate_of
counted (constant b) n k = refl
counted (name j) n k = refl
counted (unary u φ) n k =
    sum_by-append counts (code n (with_unary u k) φ) (node.Unary (unary_op u) k ∷ [])
    ∙ omega (arith, counted φ n (with_unary u k), unary_adds u k (operators φ))
counted (binary b φ ψ) n k =
    let j = k + operators φ in
    let m = n + size φ in
    sum_by-append counts (code n k φ) (code m (with_binary b j) ψ ++ (node.Binary (binary_op b) m j ∷ []))
    ∙ omega (
      arith,
      sum_by-append counts (code m (with_binary b j) ψ) (node.Binary (binary_op b) m j ∷ []),
      counted φ n k,
      counted ψ m (with_binary b j),
      binary_adds b m j (operators ψ),
    )

pub all_counted : (nodes : List Node) (φ : Formula) → Represents nodes φ → operators_in nodes ≡ operators φ
all_counted nodes φ r = ap (λ (l : List Node). operators_in l) r.all ∙ counted φ 0 1

module _ (nodes : List Node) where
  -- the coordinate of node o
  abbrev at : ℕ → Option ℕ
  at o = coordinate_of (get_or nodes o blank_node)

  -- of a node that is known
  at_is : (i o c : ℕ) (n : Node) → get_or nodes i blank_node ≡ n → o ≡ i → at o ≡ Some c → coordinate_of n ≡ Some c
  at_is i o c n e q p = sym (ap at q ∙ ap coordinate_of e) ∙ p

  -- the coordinates of a formula's operators lie between its first and the last
  within : (i k o c : ℕ) (φ : Formula) → Stands nodes i k φ → o ≤ i → i < o + size φ → at o ≡ Some c → (k ≤ c) × (c < k + operators φ)
  unfolding size operators coordinate_of
  within i k o c (constant b) (at_constant e) h g p = absurd (none-some c (at_is i o c (node.Constant b) e (omega arith) p))
  within i k o c (name j) (at_name e) h g p = absurd (none-some c (at_is i o c (node.Name j) e (omega arith) p))
  within i k o c (unary u φ) (at_unary {i = i'} e t) h g p =
      let d = unary_adds u k k in
      let f = unary_adds u k (operators φ) in
      ⊎_elim
      (λ (q : o ≡ suc i').
      let w = at_is (suc i') o c (node.Unary (unary_op u) k) e q p in
      let x = unary_own u k c w in
      let y = counted_one (node.Unary (unary_op u) k) c w in omega arith)
      (λ (q : o < suc i'). let w = within i' (with_unary u k) o c φ t (omega arith) (omega arith) p in omega arith)
      (eq-or-lt_of_le h)
  within i k o c (binary b φ ψ) (at_binary {i = i'} {j = j} e n s t) h g p =
      let N = node.Binary (binary_op b) (suc j) (k + operators φ) in
      let d = binary_adds b (suc j) (k + operators φ) (k + operators φ) in
      let f = binary_adds b (suc j) (k + operators φ) (operators ψ) in
      ⊎_elim
      (λ (q : o ≡ suc i').
      let w = at_is (suc i') o c N e q p in
      let x = binary_own b (suc j) (k + operators φ) c w in
      let y = counted_one N c w in omega arith)
      (λ (q : o < suc i').
      ⊎_elim
      (λ (r : j < o). let w = within i' (with_binary b (k + operators φ)) o c ψ t (omega arith) (omega arith) p in omega arith)
      (λ (r : o ≤ j). let w = within j k o c φ s (omega arith) (omega arith) p in omega arith)
      (cases_lt j o))
      (eq-or-lt_of_le h)

  -- no two operators of a formula have the same coordinate
  apart : (i k o p c : ℕ) (φ : Formula) → Stands nodes i k φ → o < p → p ≤ i → i < o + size φ → at o ≡ Some c → at p ≡ Some c → ⊥
  unfolding size operators
  apart i k o p c (constant b) (at_constant e) l h g z y = omega arith
  apart i k o p c (name j) (at_name e) l h g z y = omega arith
  apart i k o p c (unary u φ) (at_unary {i = i'} e t) l h g z y =
      let d = unary_adds u k k in
      ⊎_elim
      (λ (q : p ≡ suc i').
      let w = at_is (suc i') p c (node.Unary (unary_op u) k) e q y in
      let v = unary_own u k c w in
      let s = counted_one (node.Unary (unary_op u) k) c w in
      let x = within i' (with_unary u k) o c φ t (omega arith) (omega arith) z in
      let n : ⊥ = omega arith in n)
      (λ (q : p < suc i'). apart i' (with_unary u k) o p c φ t l (omega arith) (omega arith) z y)
      (eq-or-lt_of_le h)
  apart i k o p c (binary b φ ψ) (at_binary {i = i'} {j = j} e n s t) l h g z y =
      let N = node.Binary (binary_op b) (suc j) (k + operators φ) in
      let K = with_binary b (k + operators φ) in
      let d = binary_adds b (suc j) (k + operators φ) (k + operators φ) in
      let right : (x : ℕ) → j < x → x ≤ i' → at x ≡ Some c → K ≤ c = λ x f f' r. (within i' K x c ψ t f' (omega arith) r).0 in
      let left : (x : ℕ) → x ≤ j → suc i' < x + size (binary b φ ψ) → at x ≡ Some c → c < k + operators φ =
      λ x f f' r. (within j k x c φ s f (omega arith) r).1 in
      ⊎_elim
      (λ (q : p ≡ suc i').
      let w = at_is (suc i') p c N e q y in
      let v = binary_own b (suc j) (k + operators φ) c w in
      let one_more = counted_one N c w in
      ⊎_elim
      (λ (f : j < o). let m = right o f (omega arith) z in let x : ⊥ = omega arith in x)
      (λ (f : o ≤ j). let m = left o f g z in let x : ⊥ = omega arith in x)
      (cases_lt j o))
      (λ (q : p < suc i').
      ⊎_elim
      (λ (f : j < o). apart i' K o p c ψ t l (omega arith) (omega arith) z y)
      (λ (f : o ≤ j).
      ⊎_elim
      (λ (f' : j < p). let m = left o f g z in let m' = right p f' (omega arith) y in let x : ⊥ = omega arith in x)
      (λ (f' : p ≤ j). apart j k o p c φ s l f' (omega arith) z y)
      (cases_lt j p))
      (cases_lt j o))
      (eq-or-lt_of_le h)

  -- the last node with an operator's coordinate is that operator's
  pub placed : (places : List ℕ) (φ : Formula) → Represents nodes φ → Located nodes (length nodes) places
      → (j o : ℕ) → o < length nodes → at o ≡ Some j → get_or places j 0 ≡ o
  placed places φ r loc j o h e =
      let n = represented_length nodes φ r in
      let ops = r.few_operators in
      let root = root_node nodes φ r in
      let b = within (length nodes - 1) 1 o j φ root (omega arith) (omega arith) e in
      let w = loc j o (omega arith) h e in
      ⊎_elim
      (λ (q : o ≡ get_or places j 0). sym q)
      (λ (q : o < get_or places j 0). absurd (apart (length nodes - 1) 1 o (get_or places j 0) j φ root q (omega arith) (omega arith) e w.2))
      (eq-or-lt_of_le w.0)

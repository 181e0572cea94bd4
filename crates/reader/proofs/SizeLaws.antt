-- The counts of a text are the counts of its formula.
-- Assumes nothing.
use mathlib.Core.Path.{◌≡◌, refl, sym, ap, ◌∙◌}
use mathlib.Core.Bool.{Bool, false, cond}
use mathlib.Core.List.{[], ◌∷◌, ◌++◌}
use Prim.Native.Nat.{ℕ, suc, ◌+◌}
use native.Mathlib.Omega.{arith}
use Rattle.std.proofs.lemmas.Bool.Decides.{nat_tests}
use Rattle.std.specs.List.{count_by}
use Rattle.std.proofs.lemmas.List.Sums.{sum_by-cons, sum_by-append}
use Rattle.reader.specs.declared.marks.Kind.{Kind}
use Rattle.reader.specs.Text.{Text}
use Rattle.reader.specs.Formula.{Formula, size, operators}
use Rattle.reader.specs.Marks.{mark_kind, is_temporal_mark, among_of}
use Rattle.reader.specs.Grammar.{without_blanks, Derives, operand, prefix, parens, lower, infixed}
use Rattle.reader.specs.inner.Counts.{tick, writes_node, node_count, operator_count}
use Rattle.reader.proofs.MarkLaws.{operand_size, operand_operators, operand_tick, open_tick, close_tick, prefix_tick, infix_tick}

-- what no blank is counted by counts the marks alone
count_marks : (p : ℕ → Bool) → p 32 ≡ false → (s : Text) → count_by p (without_blanks s) ≡ count_by p s
unfolding without_blanks
count_marks p n [] = refl
count_marks p n (b ∷ s) =
    grind (arith, nat_tests, count_marks p n s, sum_by-cons (λ (x : ℕ). cond (p x) 1 0) b s, sum_by-cons (λ (x : ℕ). cond (p x) 1 0) b (without_blanks s))

-- 1 for a mark that writes a node, else 0
abbrev node_tick : Kind → ℕ
node_tick k = cond (writes_node k) 1 0

node_cons : (b : ℕ) (s : Text) → node_count (b ∷ s) ≡ node_tick (mark_kind b) + node_count s
node_cons b s = sum_by-cons (λ (x : ℕ). node_tick (mark_kind x)) b s

node_append : (u v : Text) → node_count (u ++ v) ≡ node_count u + node_count v
node_append u v = sum_by-append (λ (x : ℕ). node_tick (mark_kind x)) u v

operator_cons : (b : ℕ) (s : Text) → operator_count (b ∷ s) ≡ tick b + operator_count s
unfolding tick
operator_cons b s = sum_by-cons tick b s

operator_append : (u v : Text) → operator_count (u ++ v) ≡ operator_count u + operator_count v
unfolding tick
operator_append u v = sum_by-append tick u v

-- a formula has as many nodes as its marks
count_nodes : {i l : ℕ} {w : Text} {φ : Formula} → Derives i mark_kind l w φ → node_count w ≡ size φ
unfolding size
count_nodes {i} (operand {b = b} k e) = omega (arith, node_cons b [], ap node_tick k, ap size e, operand_size i b)
count_nodes (prefix {b = b} {w = w} k x e) = omega (arith, node_cons b w, ap node_tick k, count_nodes x, ap size e)
count_nodes (parens {a = a} {b = b} {w = w} ka kb x) =
    omega (arith, node_cons a (w ++ (b ∷ [])), node_append w (b ∷ []), node_cons b [], ap node_tick ka, ap node_tick kb, count_nodes x)
count_nodes (lower x) = count_nodes x
count_nodes (infixed {b = b} {u = u} {v = v} k x y e) =
    omega (arith, node_append u (b ∷ v), node_cons b v, ap node_tick k, count_nodes x, count_nodes y, ap size e)

-- and as many temporal operators
count_operators : {i l : ℕ} {w : Text} {φ : Formula} → Derives i mark_kind l w φ → operator_count w ≡ operators φ
unfolding operators
count_operators {i} (operand {b = b} k e) = omega (arith, operator_cons b [], operand_tick b k, ap operators e, operand_operators i b)
count_operators (prefix {b = b} {w = w} {φ = α} k x e) =
    omega (arith, operator_cons b w, count_operators x, ap operators e, prefix_tick b k (operators α))
count_operators (parens {a = a} {b = b} {w = w} ka kb x) =
    omega (
      arith,
      operator_cons a (w ++ (b ∷ [])),
      operator_append w (b ∷ []),
      operator_cons b [],
      open_tick a ka,
      close_tick b kb,
      count_operators x,
    )
count_operators (lower x) = count_operators x
count_operators (infixed {l = l} {b = b} {u = u} {v = v} {ψ = β} k x y e) =
    omega (
      arith,
      operator_append u (b ∷ v),
      operator_cons b v,
      count_operators x,
      count_operators y,
      ap operators e,
      infix_tick b (suc l) k (operators β),
    )

module _ {i : ℕ} (text : Text) {φ : Formula} (x : Derives i mark_kind 4 (without_blanks text) φ) where
  pub size_count : size φ ≡ node_count text
  unfolding mark_kind among_of
  size_count = sym (count_nodes x) ∙ count_marks (λ (b : ℕ). writes_node (mark_kind b)) refl text

  pub operators_count : operators φ ≡ operator_count text
  unfolding is_temporal_mark among_of
  operators_count = sym (count_operators x) ∙ count_marks is_temporal_mark refl text

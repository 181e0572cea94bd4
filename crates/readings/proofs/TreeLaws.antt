-- A text that a tree reads (proofs/Tree.antt) has the tree's formula, by the grammar.
-- Assumes nothing.
use Prim.Native.Nat.{ℕ, zero, suc, ◌≤◌}
use mathlib.Core.Path.{◌≡◌, refl, sym, ap, ap₂, ◌∙◌, subst}
use mathlib.Core.Bool.{Bool, true, ◌&&◌}
use mathlib.Core.List.{List, [], ◌∷◌}
use mathlib.Core.Logic.{⊎_elim}
use native.Mathlib.Nat.{eq-or-lt_of_le, le_of_suc-le-suc}
use native.Mathlib.Omega.{arith}
use lib.Dec.{eqb, leb}
use borrow.Author.Tests.{eqb-true, leb-true}
use Rattle.reader.specs.declared.marks.Kind.{Kind}
use Rattle.reader.specs.declared.marks.Kind.TheVariants.{Operand, Prefix, Infix, Open, Close, Other}
use Rattle.reader.specs.Formula.{Formula}
use Rattle.reader.specs.Grammar.{without_blanks, Derives, Reads, operand, prefix, parens, lower, infixed}
use Rattle.reader.proofs.BoolLaws.{and_true}
use Rattle.readings.proofs.Tree.{Tree, single, prefixed, grouped, joined, flat, formula_of, kind_code, same_kind, fits, same_bytes, reads_by}

-- kinds with one number are one
kind_from : ℕ → Kind
kind_from zero = Operand
kind_from (suc zero) = Prefix
kind_from (suc (suc zero)) = Open
kind_from (suc (suc (suc zero))) = Close
kind_from (suc (suc (suc (suc zero)))) = Other
kind_from (suc (suc (suc (suc (suc l))))) = Infix l

decoded : (k : Kind) → kind_from (kind_code k) ≡ k
unfolding kind_from
decoded Operand = refl
decoded Prefix = refl
decoded Open = refl
decoded Close = refl
decoded Other = refl
decoded (Infix l) = refl

same_kind_lem : (j k : Kind) → same_kind j k ≡ true → j ≡ k
same_kind_lem j k e = sym (decoded j) ∙ ap kind_from (eqb-true (kind_code j) (kind_code k) e) ∙ decoded k

same_bytes_lem : (u v : List ℕ) → same_bytes u v ≡ true → u ≡ v
unfolding same_bytes
same_bytes_lem [] [] e = refl
same_bytes_lem [] (c ∷ v) e = absurd (mathlib.Core.Bool.false≢true e)
same_bytes_lem (b ∷ u) [] e = absurd (mathlib.Core.Bool.false≢true e)
same_bytes_lem (b ∷ u) (c ∷ v) e =
    let w = and_true (eqb b c) (same_bytes u v) e in ap₂ (λ (x : ℕ) (s : List ℕ). x ∷ s) (eqb-true b c w.0) (same_bytes_lem u v w.1)

module _ (i : ℕ) (kind : ℕ → Kind) where
  -- a formula of a level is one of every level above
  raise : (l m : ℕ) {w : List ℕ} {φ : Formula} → m ≤ l → Derives i kind m w φ → Derives i kind l w φ
  raise zero m {w} {φ} h d = subst (λ (k : ℕ). Derives i kind k w φ) (let e : m ≡ 0 = omega arith in e) d
  raise (suc l) m {w} {φ} h d =
      ⊎_elim (λ e. subst (λ (k : ℕ). Derives i kind k w φ) e d) (λ g. lower (raise l m (le_of_suc-le-suc g) d)) (eq-or-lt_of_le h)

  derives : (l : ℕ) (t : Tree) → fits kind l t ≡ true → Derives i kind l (flat t) (formula_of i t)
  unfolding fits flat formula_of
  derives l (single b) e = raise l 0 (omega arith) (operand (same_kind_lem (kind b) Operand e) refl)
  derives l (prefixed b t) e =
      let w = and_true (same_kind (kind b) Prefix) (fits kind 0 t) e in
      raise l 0 (omega arith) (prefix (same_kind_lem (kind b) Prefix w.0) (derives 0 t w.1) refl)
  derives l (grouped t) e =
      let w = and_true (same_kind (kind 40) Open) (same_kind (kind 41) Close && fits kind 4 t) e in
      let v = and_true (same_kind (kind 41) Close) (fits kind 4 t) w.1 in
      raise l 0 (omega arith) (parens (same_kind_lem (kind 40) Open w.0) (same_kind_lem (kind 41) Close v.0) (derives 4 t v.1))
  derives l (joined m t b u) e =
      let w = and_true (leb (suc m) l) (same_kind (kind b) (Infix (suc m)) && (fits kind m t && fits kind (suc m) u)) e in
      let v = and_true (same_kind (kind b) (Infix (suc m))) (fits kind m t && fits kind (suc m) u) w.1 in
      let z = and_true (fits kind m t) (fits kind (suc m) u) v.1 in
      raise l (suc m) (leb-true (suc m) l w.0)
      (infixed (same_kind_lem (kind b) (Infix (suc m)) v.0) (derives m t z.0) (derives (suc m) u z.1) refl)

  pub reads : (text : List ℕ) (t : Tree) → reads_by kind text t ≡ true → Reads i kind text (formula_of i t)
  unfolding reads_by
  reads text t e =
      let w = and_true (same_bytes (flat t) (without_blanks text)) (fits kind 4 t) e in
      subst (λ (s : List ℕ). Derives i kind 4 s (formula_of i t)) (same_bytes_lem (flat t) (without_blanks text) w.0) (derives 4 t w.1)

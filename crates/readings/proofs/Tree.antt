-- Trees that say how a text is read: a certificate that the text has a formula. The test computes the tree's marks and the levels of its infix marks.
-- Assumes nothing.
use Prim.Native.Nat.{ℕ, suc}
use mathlib.Core.Bool.{Bool, true, false, ◌&&◌}
use mathlib.Core.List.{List, [], ◌∷◌, ◌++◌}
use lib.Dec.{eqb, leb}
use Rattle.reader.specs.declared.marks.Kind.{Kind}
use Rattle.reader.specs.declared.marks.Kind.TheVariants.{Operand, Prefix, Infix, Open, Close, Other}
use Rattle.reader.specs.Formula.{Formula, unary, binary}
use Rattle.reader.specs.Marks.{operand_of, unary_of, binary_of}
use Rattle.reader.specs.Grammar.{without_blanks}

-- an operand, a prefix mark before a tree, a tree in parentheses, and an infix mark between two trees, with the level below its own
pub data Tree : Type 0 where
  single : ℕ → Tree
  prefixed : ℕ → Tree → Tree
  grouped : Tree → Tree
  joined : ℕ → Tree → ℕ → Tree → Tree

-- its marks
unfoldable pub flat : Tree → List ℕ
flat (single b) = b ∷ []
flat (prefixed b t) = b ∷ flat t
flat (grouped t) = 40 ∷ (flat t ++ (41 ∷ []))
flat (joined m t b u) = flat t ++ (b ∷ flat u)

-- its formula, with i inputs
unfoldable pub formula_of : ℕ → Tree → Formula
unfolding operand_of unary_of binary_of
formula_of i (single b) = operand_of i b
formula_of i (prefixed b t) = unary (unary_of b) (formula_of i t)
formula_of i (grouped t) = formula_of i t
formula_of i (joined m t b u) = binary (binary_of b) (formula_of i t) (formula_of i u)

-- a kind as a number, by which kinds are compared
abbrev pub kind_code : Kind → ℕ
kind_code Operand = 0
kind_code Prefix = 1
kind_code Open = 2
kind_code Close = 3
kind_code Other = 4
kind_code (Infix l) = suc (suc (suc (suc (suc l))))

abbrev pub same_kind : Kind → Kind → Bool
same_kind j k = eqb (kind_code j) (kind_code k)

-- the tree is one of the level
unfoldable pub fits : (ℕ → Kind) → ℕ → Tree → Bool
fits kind l (single b) = same_kind (kind b) Operand
fits kind l (prefixed b t) = same_kind (kind b) Prefix && fits kind 0 t
fits kind l (grouped t) = same_kind (kind 40) Open && (same_kind (kind 41) Close && fits kind 4 t)
fits kind l (joined m t b u) = leb (suc m) l && (same_kind (kind b) (Infix (suc m)) && (fits kind m t && fits kind (suc m) u))

-- two lists of bytes are the same
unfoldable pub same_bytes : List ℕ → List ℕ → Bool
same_bytes [] [] = true
same_bytes [] (c ∷ v) = false
same_bytes (b ∷ u) [] = false
same_bytes (b ∷ u) (c ∷ v) = eqb b c && same_bytes u v

-- the tree reads the text
unfoldable pub reads_by : (ℕ → Kind) → List ℕ → Tree → Bool
unfolding without_blanks flat fits same_bytes
reads_by kind text t = same_bytes (flat t) (without_blanks text) && fits kind 4 t

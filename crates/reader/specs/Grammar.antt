-- The grammar of texts (specification, "Texts"), as a relation between bytes and formulas.
-- Every mark is one byte and blanks may stand anywhere between marks, so a text is judged by its bytes without the blanks.
-- The five levels: 0 what prefix marks bind, 1 until and release, 2 and, 3 or, 4 implies. All infix marks group to the right.
-- Assumes nothing.
use Rattle.std.specs.Prelude.{ℕ, suc, ◌≡◌, cond, [], ◌∷◌, ◌++◌, eqb}
use Rattle.reader.specs.declared.marks.Kind.{Kind}
use Rattle.reader.specs.declared.marks.Kind.TheVariants.{Operand, Prefix, Infix, Open, Close}
use Rattle.reader.specs.Text.{Text}
use Rattle.reader.specs.Formula.{Formula, unary, binary}
use Rattle.reader.specs.Marks.{operand_of, unary_of, binary_of}

-- the bytes but for the blanks
unfoldable pub without_blanks : Text → Text
without_blanks [] = []
without_blanks (b ∷ s) = cond (eqb b 32) (without_blanks s) (b ∷ without_blanks s)

-- the marks are a formula of the level, in a text with i inputs where `kind` says what each byte is
pub data Derives (i : ℕ) (kind : ℕ → Kind) : (l : ℕ) (w : Text) (φ : Formula) → Type 0 where
  -- a name or a constant
  operand : {b : ℕ} {φ : Formula} → kind b ≡ Operand → φ ≡ operand_of i b → Derives i kind 0 (b ∷ []) φ
  -- a prefix mark before what prefix marks bind
  prefix : {b : ℕ} {w : Text} {φ χ : Formula} → kind b ≡ Prefix → Derives i kind 0 w φ → χ ≡ unary (unary_of b) φ → Derives i kind 0 (b ∷ w) χ
  -- parentheses hold a whole text
  parens : {a b : ℕ} {w : Text} {φ : Formula} → kind a ≡ Open → kind b ≡ Close → Derives i kind 4 w φ → Derives i kind 0 (a ∷ (w ++ (b ∷ []))) φ
  -- a formula of a level is one of the next
  lower : {l : ℕ} {w : Text} {φ : Formula} → Derives i kind l w φ → Derives i kind (suc l) w φ
  -- an infix mark of the level, with a formula of the level below on its left and one of its own level on its right
  infixed : {l b : ℕ} {u v : Text} {φ ψ χ : Formula} → kind b ≡ Infix (suc l) → Derives i kind l u φ → Derives i kind (suc l) v ψ → χ ≡ binary (binary_of b) φ ψ
      → Derives i kind (suc l) (u ++ (b ∷ v)) χ

-- the text is the formula
abbrev pub Reads : (i : ℕ) (kind : ℕ → Kind) (text : Text) (φ : Formula) → Type 0
Reads i kind text φ = Derives i kind 4 (without_blanks text) φ

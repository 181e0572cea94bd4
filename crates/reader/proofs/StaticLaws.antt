-- A text in which no temporal mark is in reach, as a condition, has no temporal operator.
-- Assumes nothing.
use mathlib.Core.Path.{◌≡◌, refl, ap, ◌∙◌}
use mathlib.Core.Bool.{false}
use mathlib.Core.List.{List}
use Prim.Native.Nat.{ℕ, suc}
use native.Mathlib.Omega.{arith}
use Rattle.std.proofs.lemmas.Bool.Decides.{nat_tests}
use Rattle.reader.specs.declared.marks.Kind.{Kind}
use Rattle.reader.specs.declared.marks.Kind.TheVariants.{Prefix, Infix}
use Rattle.reader.specs.Formula.{Formula, operators}
use Rattle.reader.specs.Marks.{kind_in, allowed_by}
use Rattle.reader.specs.Grammar.{Derives, operand, prefix, parens, lower, infixed}
use Rattle.reader.specs.inner.Counts.{tick}
use Rattle.reader.proofs.MarkLaws.{is_other, same_kind, prefix_tick, infix_tick, operand_operators}

-- a mark in reach is no temporal one
no_tick : (i o b : ℕ) (k : Kind) → kind_in i o false b ≡ k → is_other k ≡ false → tick b ≡ 0
unfolding kind_in allowed_by tick
no_tick i o b k e n = grind (arith, nat_tests)

pub static : {i : ℕ} (o : ℕ) {l : ℕ} {w : List ℕ} {φ : Formula} → Derives i (kind_in i o false) l w φ → operators φ ≡ 0
unfolding operators
static {i} o (operand {b = b} k e) = ap operators e ∙ operand_operators i b
static {i} o (prefix {b = b} {φ = α} k x e) =
    omega (arith, ap operators e, prefix_tick b (same_kind i o false b Prefix k refl) (operators α), no_tick i o b Prefix k refl, static o x)
static o (parens ka kb x) = static o x
static o (lower x) = static o x
static {i} o (infixed {l = l} {b = b} {φ = α} {ψ = β} k x y e) =
    omega (
      arith,
      ap operators e,
      infix_tick b (suc l) (same_kind i o false b (Infix (suc l)) k refl) (operators β),
      no_tick i o b (Infix (suc l)) k refl,
      static o x,
      static o y,
    )

-- The bytes of each kind, one by one, and the part of a formula and the node that they write.
-- Assumes nothing.
use mathlib.Core.Path.{◌≡◌, refl}
use mathlib.Core.Logic.{◌⊎◌}
use mathlib.Core.Bool.{Bool, true, false}
use Prim.Native.Nat.{ℕ, suc, ◌+◌, ◌-◌, ◌≤◌, ◌<◌}
use native.Mathlib.Omega.{arith}
use Rattle.std.proofs.lemmas.Bool.Decides.{nat_tests}
use Rattle.reader.specs.declared.marks.Kind.{Kind}
use Rattle.reader.specs.declared.marks.Kind.TheVariants.{Operand, Prefix, Infix, Open, Close, Other}
use Rattle.reader.specs.Formula.{Unary, neg, next, weak, eventually, always, Binary, until, release, conj, disj, impl}
use Rattle.reader.specs.Formula.{size, with_unary, with_binary, operators}
use Rattle.reader.specs.Marks.{among_of, mark_kind, is_temporal_mark, allowed_by, kind_in, operand_of, unary_of, binary_of}
use Rattle.reader.specs.inner.Counts.{tick}

-- ---- the bytes of a kind

-- where an operand's byte lies: 0 1, a b c d, p q r s
abbrev pub OperandByte : ℕ → Type 0
OperandByte b = ((48 ≤ b) × (b ≤ 49)) ⊎ (((97 ≤ b) × (b ≤ 100)) ⊎ ((112 ≤ b) × (b ≤ 115)))

pub operand_byte : (b : ℕ) → mark_kind b ≡ Operand → OperandByte b
unfolding mark_kind among_of
operand_byte b e = grind (arith, nat_tests)

-- operands and parentheses take no coordinate
pub operand_tick : (b : ℕ) → mark_kind b ≡ Operand → tick b ≡ 0
unfolding mark_kind among_of tick is_temporal_mark
operand_tick b e = grind (arith, nat_tests)

pub open_tick : (b : ℕ) → mark_kind b ≡ Open → tick b ≡ 0
unfolding mark_kind among_of tick is_temporal_mark
open_tick b e = grind (arith, nat_tests)

pub close_tick : (b : ℕ) → mark_kind b ≡ Close → tick b ≡ 0
unfolding mark_kind among_of tick is_temporal_mark
close_tick b e = grind (arith, nat_tests)

-- an operator takes as many coordinates whatever came before it
pub with_unary_lem : (u : Unary) (k : ℕ) → with_unary u k ≡ k + with_unary u 0
with_unary_lem neg k = omega arith
with_unary_lem next k = omega arith
with_unary_lem weak k = omega arith
with_unary_lem eventually k = omega arith
with_unary_lem always k = omega arith

pub with_binary_lem : (u : Binary) (k : ℕ) → with_binary u k ≡ k + with_binary u 0
with_binary_lem until k = omega arith
with_binary_lem release k = omega arith
with_binary_lem conj k = omega arith
with_binary_lem disj k = omega arith
with_binary_lem impl k = omega arith

-- a temporal operator, and no other, takes one
pub prefix_tick : (b : ℕ) → mark_kind b ≡ Prefix → (k : ℕ) → with_unary (unary_of b) k ≡ k + tick b
unfolding mark_kind among_of tick is_temporal_mark unary_of
prefix_tick b e k = grind (arith, nat_tests)

pub infix_tick : (b l : ℕ) → mark_kind b ≡ Infix l → (k : ℕ) → with_binary (binary_of b) k ≡ k + tick b
unfolding mark_kind among_of tick is_temporal_mark binary_of
infix_tick b l e k = grind (arith, nat_tests)

-- an infix mark's level is 1 to 4
infix_bounds : (b l : ℕ) → mark_kind b ≡ Infix l → (0 < l) × (l ≤ 4)
unfolding mark_kind among_of
infix_bounds b l e = grind (arith, nat_tests)

abbrev pub InfixLevel : ℕ → Type 0
InfixLevel l = (m : ℕ) × (l ≡ suc m) × (m < 4)

-- ---- the operands

pub operand_size : (i b : ℕ) → size (operand_of i b) ≡ 1
unfolding operand_of size
operand_size i b = grind (arith, nat_tests)

pub operand_operators : (i b : ℕ) → operators (operand_of i b) ≡ 0
unfolding operand_of operators
operand_operators i b = grind (arith, nat_tests)

-- ---- what is in reach

abbrev pub is_other : Kind → Bool
is_other Operand = false
is_other Prefix = false
is_other (Infix l) = false
is_other Open = false
is_other Close = false
is_other Other = true

-- a mark in reach is that mark of the whole alphabet
pub same_kind : (i o : ℕ) (t : Bool) (b : ℕ) (k : Kind) → kind_in i o t b ≡ k → is_other k ≡ false → mark_kind b ≡ k
unfolding kind_in
same_kind i o t b k e n = grind (arith, nat_tests)

pub infix_level : (i o : ℕ) (t : Bool) (b l : ℕ) → kind_in i o t b ≡ Infix l → InfixLevel l
infix_level i o t b l e =
    let h = infix_bounds b l (same_kind i o t b (Infix l) e refl) in
    (l - 1, omega arith, omega arith)

-- 0 and the closing parenthesis are always in reach
pub zero_in : (i o : ℕ) (t : Bool) → kind_in i o t 48 ≡ Operand
unfolding kind_in allowed_by is_temporal_mark among_of mark_kind
zero_in i o t = refl

pub close_in : (i o : ℕ) (t : Bool) → kind_in i o t 41 ≡ Close
unfolding kind_in allowed_by is_temporal_mark among_of mark_kind
close_in i o t = refl

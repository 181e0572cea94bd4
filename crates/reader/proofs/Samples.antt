-- Small texts with one input and one output: their formulas, the nodes of one, and the places of bad texts.
-- Assumes nothing.
use mathlib.Core.Path.{◌≡◌, refl}
use mathlib.Core.Bool.{true}
use mathlib.Core.List.{[], ◌∷◌}
use Rattle.reader.specs.Formula.{Formula, eventually, next, conj, until, name, unary, binary, size, operators}
use Rattle.reader.specs.Marks.{kind_in, allowed_by, is_temporal_mark, among_of, mark_kind, operand_of, unary_of, binary_of}
use Rattle.reader.specs.Grammar.{without_blanks, Reads, operand, prefix, parens, lower, infixed}
use Rattle.reader.specs.Place.{IsPlace}
use Rattle.reader.specs.declared.nodes.UnaryOp.TheVariants as op
use Rattle.reader.specs.declared.nodes.BinaryOp.TheVariants as pair
use Rattle.reader.specs.declared.nodes.Node.TheVariants as node
use Rattle.reader.specs.inner.Nodes.{code, nodes_of}
use Rattle.reader.specs.inner.Scan.{step_of, scan_of}
use Rattle.reader.proofs.ReadingLaws.{place_of}

-- F(a&Xa)
abbrev again : Formula
again = unary eventually (binary conj (name 0) (unary next (name 0)))

reads_again : Reads 1 (kind_in 1 1 true) (70 ∷ 40 ∷ 97 ∷ 38 ∷ 88 ∷ 97 ∷ 41 ∷ []) again
unfolding without_blanks kind_in allowed_by is_temporal_mark among_of mark_kind operand_of unary_of binary_of
reads_again =
    lower (lower (lower (lower
    (prefix refl (parens {w = 97 ∷ 38 ∷ 88 ∷ 97 ∷ []} refl refl
    (lower (lower (infixed {u = 97 ∷ []} refl (lower (operand refl refl)) (lower (lower (prefix refl (operand refl refl) refl))) refl)))) refl))))

-- its nodes: a, a, X with coordinate 2, & with a on its left, F with coordinate 1
nodes_again : nodes_of again ≡ node.Name 0 ∷ node.Name 0 ∷ node.Unary op.Next 2 ∷ node.Binary pair.And 1 2 ∷ node.Unary op.Eventually 1 ∷ []
unfolding code size operators
nodes_again = refl

-- p U a, with a blank: p has the bit behind the one input
reads_until : Reads 1 (kind_in 1 1 true) (112 ∷ 32 ∷ 85 ∷ 97 ∷ []) (binary until (name 1) (name 0))
unfolding without_blanks kind_in allowed_by is_temporal_mark among_of mark_kind operand_of unary_of binary_of
reads_until = lower (lower (lower (infixed {u = 112 ∷ []} refl (operand refl refl) (lower (operand refl refl)) refl)))

-- the empty text is bad at 0, and `a b` at 2, where b is out of reach
empty_text : IsPlace 1 (kind_in 1 1 true) [] 0
unfolding scan_of
empty_text = place_of 1 1 true [] 0 refl

second_input : IsPlace 1 (kind_in 1 1 true) (97 ∷ 32 ∷ 98 ∷ []) 2
unfolding scan_of step_of kind_in allowed_by is_temporal_mark among_of mark_kind
second_input = place_of 1 1 true (97 ∷ 32 ∷ 98 ∷ []) 2 refl

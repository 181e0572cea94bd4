-- The nodes and the temporal operators of a text, counted by its bytes.
-- Assumes nothing.
use Rattle.std.specs.Prelude.{ℕ, Bool, true, false, cond, count_by}
use Rattle.reader.specs.declared.marks.Kind.{Kind}
use Rattle.reader.specs.declared.marks.Kind.TheVariants.{Operand, Prefix, Infix, Open, Close, Other}
use Rattle.reader.specs.Text.{Text}
use Rattle.reader.specs.Marks.{mark_kind, is_temporal_mark}

-- 1 for a temporal mark, else 0
unfoldable pub tick : ℕ → ℕ
tick b = cond (is_temporal_mark b) 1 0

-- a mark of this kind writes a node
abbrev pub writes_node : Kind → Bool
writes_node Operand = true
writes_node Prefix = true
writes_node (Infix l) = true
writes_node Open = false
writes_node Close = false
writes_node Other = false

-- the nodes of a text
abbrev pub node_count : Text → ℕ
node_count text = count_by (λ b. writes_node (mark_kind b)) text

-- the temporal operators of a text
abbrev pub operator_count : Text → ℕ
operator_count text = count_by is_temporal_mark text

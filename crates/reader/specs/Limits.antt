-- The limits on a text (specification, "Refusals", refusals 2, 5, 6 and 8).
-- Assumes nothing.
use Rattle.std.specs.Prelude.{ℕ, Bool, ltb, length}
use Rattle.reader.specs.Text.{Text}

-- the bytes of a rule or of a condition
abbrev pub text_limit : ℕ
text_limit = 255

-- the test of refusal 2: a text over that many bytes
abbrev pub too_long : Text → Bool
too_long text = ltb text_limit (length text)

-- the nodes of a rule or of a condition
abbrev pub node_limit : ℕ
node_limit = 64

-- the temporal operators of a rule
abbrev pub operator_limit : ℕ
operator_limit = 5

-- What may stand in a text, as one value: the number of its input and output names, and whether temporal marks may.
-- Assumes nothing.
use Rattle.std.specs.Prelude.{ℕ, true, false}
use Rattle.reader.specs.declared.marks.Kind.{Kind}
use Rattle.reader.specs.declared.refusal.Subject.{Subject}
use Rattle.reader.specs.declared.refusal.Subject.TheVariants.{Rule, Condition}
use Rattle.reader.specs.declared.vocabulary.Vocabulary.{Vocabulary}
use Rattle.reader.specs.Marks.{kind_in}

-- the kind of a byte in a text of the vocabulary
abbrev pub kind_of : Vocabulary → ℕ → Kind
kind_of v = kind_in v.inputs v.outputs v.temporal

-- what may stand in the text, with i inputs and o outputs: in a rule all names and marks, in a condition input names only, and no temporal mark
abbrev pub vocabulary_of : Subject → (i o : ℕ) → Vocabulary
vocabulary_of Rule i o = record { inputs = i; outputs = o; temporal = true }
vocabulary_of Condition i o = record { inputs = i; outputs = 0; temporal = false }

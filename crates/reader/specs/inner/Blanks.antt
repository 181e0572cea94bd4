-- The blanks of a text.
-- Assumes nothing.
use Rattle.std.specs.Prelude.{ℕ, ◌≤◌, ◌<◌, ◌≡◌, length, get_or, drop}
use Rattle.reader.specs.Text.{Text}
use Rattle.reader.specs.Grammar.{without_blanks}

-- a mark is at the place, or the text's end
pub record IsMarkOrEnd (text : Text) (at : ℕ) : Type 0 where
  pub within : at ≤ length text
  pub no_blank : at < length text → get_or text at 0 ≡ 32 → ⊥

-- r is past the blanks from at on
pub record PastBlanks (text : Text) (at r : ℕ) : Type 0 where
  pub from : at ≤ r
  pub mark_or_end : IsMarkOrEnd text r
  pub same : without_blanks (drop r text) ≡ without_blanks (drop at text)

-- What two runs of the listing call, or of the program's call, on one input, into outputs that held the same, have in common (proofs/OneAnswer.antt: any two
-- for which the call's promise holds): everything. The text is the same, byte for byte, with its lines of the states, and so are the count and every byte of
-- the output.
-- No promise of a call that the specification names rests on this file.
-- Assumes nothing.
use Rattle.std.specs.Prelude.{ℕ, ◌≡◌}
use Rattle.reader.specs.Text.{Text}

-- two runs, which had the texts text₁ and text₂, left the outputs output₁ and output₂ and said r₁ and r₂
pub record ListedAgree (text₁ text₂ output₁ output₂ : Text) (r₁ r₂ : ℕ) : Type 0 where
  pub text : text₁ ≡ text₂
  pub output : output₁ ≡ output₂
  pub count : r₁ ≡ r₂

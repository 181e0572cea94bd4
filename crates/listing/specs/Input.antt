-- The program's input (specification, "Program", and refusal 14): four lines, each ended by 0x0A. The first is exactly a digit, a blank
-- and a digit; 5 to 9 are read too, and the call then refuses them by 1. The second is exactly `fair` or `stable`. The third and
-- the fourth, the condition and the rule, are any bytes but 0x0A. Nothing stands after the fourth, and the whole has at most 2,048 bytes.
-- Assumes nothing.
use Rattle.std.specs.Prelude.{ℕ, ◌≤◌, ◌≡◌, [], ◌∷◌, ◌++◌, length}
use Rattle.reader.specs.Text.{Text}
use Rattle.plays.specs.declared.mode.Mode.{Mode}
use Rattle.plays.specs.declared.mode.Mode.TheVariants.{Fair, Stable}
use Rattle.listing.specs.Decimal.{digit}

abbrev pub input_limit : ℕ
input_limit = 2048

-- the byte that ends a line
abbrev pub newline : ℕ
newline = 10

abbrev pub blank : ℕ
blank = 32

-- `fair` and `stable`
abbrev pub fair_word : Text
fair_word = 102 ∷ 97 ∷ 105 ∷ 114 ∷ []

abbrev pub stable_word : Text
stable_word = 115 ∷ 116 ∷ 97 ∷ 98 ∷ 108 ∷ 101 ∷ []

abbrev pub mode_word : Mode → Text
mode_word Fair = fair_word
mode_word Stable = stable_word

-- no byte ends a line
unfoldable pub Line : Text → Type 0
Line [] = Unit {0}
Line (b ∷ bytes) = (b ≡ newline → ⊥) × Line bytes

-- the input asks for i inputs, o outputs, the mode, the condition and the rule
pub record Asks (input : Text) (i o : ℕ) (mode : Mode) (condition rule : Text) : Type 0 where
  pub short : length input ≤ input_limit
  pub inputs : i ≤ 9
  pub outputs : o ≤ 9
  pub text : input ≡ digit i ∷ blank ∷ digit o ∷ newline ∷ (mode_word mode ++ (newline ∷ (condition ++ (newline ∷ (rule ++ (newline ∷ []))))))
  pub condition_line : Line condition
  pub rule_line : Line rule

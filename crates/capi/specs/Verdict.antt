-- What the two calls that solve a game write for C: the library's answer in numbers.
-- Assumes nothing.
use Rattle.std.specs.Prelude.{ℕ, ◌≡◌, Ok, Err}
use Rattle.plays.specs.Strategy.{Table}
use Rattle.reader.specs.Text.{Text}
use Rattle.plays.specs.declared.mode.Mode.{Mode}
use Rattle.reader.specs.Refusal.{answer_number, answer_place}
use Rattle.game.specs.declared.answer.Outcome.TheVariants.{Can, Cannot}
use Rattle.game.specs.Answer.{Answer, answer_states, answer_round}
use Rattle.plays.specs.Arena.{Arena}
use Rattle.game.specs.Rule.{Buffers, RuleSolved}
use Rattle.game.specs.Given.{GivenSolved}

-- 1 for "can", and 0 for "cannot" or a refusal
abbrev pub can_flag : Answer → ℕ
can_flag (Ok (Can n r)) = 1
can_flag (Ok (Cannot n)) = 0
can_flag (Err x) = 0

-- the rule call: the library's answer, and the five numbers of it
pub record RuleWritten (mode : Mode) (i o : ℕ) (rule condition : Text) (old new : Buffers) (number can n round place : ℕ) : Type 0 where
  pub answer : Answer
  pub solved : RuleSolved mode i o rule condition old new answer
  pub number_of : number ≡ answer_number answer
  pub can_of : can ≡ can_flag answer
  pub n_of : n ≡ answer_states answer
  pub round_of : round ≡ answer_round answer
  pub place_of : place ≡ answer_place answer

-- the call for a given automaton: the library's answer, and the four numbers of it
pub record GivenWritten (mode : Mode) (i o start : ℕ) (G : Arena) (σ₀ τ₀ σ τ : Table) (number can round place : ℕ) : Type 0 where
  pub answer : Answer
  pub solved : GivenSolved mode i o start G σ₀ τ₀ σ τ answer
  pub number_of : number ≡ answer_number answer
  pub can_of : can ≡ can_flag answer
  pub round_of : round ≡ answer_round answer
  pub place_of : place ≡ answer_place answer

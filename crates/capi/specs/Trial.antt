-- What the trial call writes for C: the library's answer in numbers.
-- Assumes nothing.
use Rattle.std.specs.Prelude.{ℕ, ◌≡◌, Bool, true, false, Result, Ok, Err}
use Rattle.machine.specs.Letters.{Trace}
use Rattle.reader.specs.Text.{Text}
use Rattle.reader.specs.declared.refusal.Refusal.{Refusal}
use Rattle.reader.specs.Refusal.{answer_number, answer_place}
use Rattle.automaton.specs.Trial.{Tried}

-- 1 where the list satisfies the rule, else 0
abbrev pub satisfied_flag : Result Bool Refusal → ℕ
satisfied_flag (Ok true) = 1
satisfied_flag (Ok false) = 0
satisfied_flag (Err x) = 0

-- the library's answer, and the three numbers of it
pub record TrialWritten (i o : ℕ) (text : Text) (letters : Trace) (number satisfied place : ℕ) : Type 0 where
  pub answer : Result Bool Refusal
  pub tried : Tried i o text letters answer
  pub number_of : number ≡ answer_number answer
  pub satisfied_of : satisfied ≡ satisfied_flag answer
  pub place_of : place ≡ answer_place answer

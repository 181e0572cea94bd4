-- The answers of the two calls that solve a game: the declared type `Outcome`, or a refusal.
-- Assumes nothing.
use Rattle.std.specs.Prelude.{ℕ, cond, ◌==◌, Result, Ok, Err}
use Rattle.reader.specs.declared.refusal.Refusal.{Refusal}
use Rattle.reader.specs.Refusal.{needed_of}
use Rattle.game.specs.declared.answer.Outcome.{Outcome}
use Rattle.game.specs.declared.answer.Outcome.TheVariants.{Can, Cannot}

-- the verdict with its numbers, or a refusal
abbrev pub Answer : Type 0
Answer = Result Outcome Refusal

-- the verdict on n states with the round number r: "cannot" where it is 0
abbrev pub verdict_of : (n r : ℕ) → Outcome
verdict_of n r = cond (r == 0) (Cannot n) (Can n r)

-- the number of states of a verdict
abbrev pub outcome_states : Outcome → ℕ
outcome_states (Can n r) = n
outcome_states (Cannot n) = n

-- the round number of a verdict: 0 for "cannot"
abbrev pub outcome_round : Outcome → ℕ
outcome_round (Can n r) = r
outcome_round (Cannot n) = 0

-- the number of states: of a verdict, and of a refusal by 3 the states that the buffers must have room for; 0 for every other refusal
abbrev pub answer_states : Answer → ℕ
answer_states (Ok v) = outcome_states v
answer_states (Err x) = needed_of x

-- the round number of a verdict: 0 for "cannot", and 0 for a refusal
abbrev pub answer_round : Answer → ℕ
answer_round (Ok v) = outcome_round v
answer_round (Err x) = 0

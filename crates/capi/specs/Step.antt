-- What the follower writes for C: the library's answer in numbers.
-- Assumes nothing.
use Rattle.std.specs.Prelude.{ℕ, ◌≡◌, Some, None, Ok, Err}
use Rattle.reader.specs.Refusal.{answer_number, answer_place}
use Rattle.game.specs.declared.follow.Position.{Position}
use Rattle.game.specs.Follower.{FollowAnswer}
use Rattle.capi.specs.Mode.{truth_of, flag_of}

-- the position that C holds as a state and a number
abbrev pub position_of : ℕ → ℕ → Position
position_of state reached = record { state = state; reached = truth_of reached }

-- 1 for a step, else 0
abbrev pub row_flag : FollowAnswer → ℕ
row_flag (Ok (Some m)) = 1
row_flag (Ok None) = 0
row_flag (Err x) = 0

-- the output, and 0 where there is no step
abbrev pub output_of : FollowAnswer → ℕ
output_of (Ok (Some m)) = m.output
output_of (Ok None) = 0
output_of (Err x) = 0

-- the state after the call: the old one where there is no step
abbrev pub state_after : FollowAnswer → ℕ → ℕ
state_after (Ok (Some m)) old = m.next.state
state_after (Ok None) old = old
state_after (Err x) old = old

-- whether a goal was entered, after the call: the old number where there is no step
abbrev pub reached_after : FollowAnswer → ℕ → ℕ
reached_after (Ok (Some m)) old = flag_of m.next.reached
reached_after (Ok None) old = old
reached_after (Err x) old = old

-- the numbers that are written for an answer on this position
pub record StepWritten (answer : FollowAnswer) (state₀ reached₀ state reached row output place number : ℕ) : Type 0 where
  pub number_of : number ≡ answer_number answer
  pub place_of : place ≡ answer_place answer
  pub row_of : row ≡ row_flag answer
  pub output_of_lem : output ≡ output_of answer
  pub state_of : state ≡ state_after answer state₀
  pub reached_of : reached ≡ reached_after answer reached₀

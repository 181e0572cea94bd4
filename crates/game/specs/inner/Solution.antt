-- What the solver hands to the tables.
-- Assumes nothing.
use Rattle.std.specs.Prelude.{◌≡◌, ℕ, ◌<◌, ◌≤◌, Bool, true, false, List, slice_index}
use Rattle.plays.specs.Arena.{State, Arena}
use Rattle.plays.specs.inner.Rank.{Ranked}
use Rattle.plays.specs.inner.Beaten.{Beaten}
use Rattle.plays.specs.inner.Exact.{ExactNeeds}
use Rattle.game.specs.Tables.{need_limit}
use Rattle.game.specs.inner.Rounds.{Found}

-- what the solver finds: both players' ranks, the ranks `near` by which the system's table goes first, with their limit m, and the round number r. When fair
-- the near ranks are the system's; when stable they are its needs with the limit m
pub record Solves (fair : Bool) (G : Arena) (start : State) (near system environment : List ℕ) (m r : ℕ) : Type 0 where
  pub found : Found fair G system environment
  pub near_ranked : Ranked G true fair m near
  pub near_won : (t : ℕ) → 0 < slice_index near t → 0 < slice_index system t
  pub near_fair : fair ≡ true → near ≡ system
  pub near_exact : fair ≡ false → ExactNeeds G m near
  pub limit : fair ≡ false → m ≡ need_limit G.states r
  pub can : 0 < r → (0 < slice_index near start) × (slice_index near start ≤ r)
  pub cannot : r ≡ 0 → 0 < slice_index environment start
  pub beaten : (k : ℕ) → k < r → Beaten fair G k start k

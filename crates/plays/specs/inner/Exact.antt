-- Exact ranks: certificates that no smaller ranks are. Each is a statement about one step, or carries why the player is beaten with less.
-- Assumes nothing.
use Rattle.std.specs.Prelude.{ℕ, ◌<◌, ◌≤◌, ◌≡◌, true, false, List, get_or}
use Rattle.plays.specs.Arena.{Arena, holds}
use Rattle.plays.specs.inner.Rank.{Forces, Ranked}
use Rattle.plays.specs.inner.Beaten.{Beaten, Outplayed}

-- fair, the system: it is beaten with every budget below its rank
abbrev pub ExactRounds : (G : Arena) (r : List ℕ) → Type 0
ExactRounds G r = (s k m : ℕ) → s < G.states → k < get_or r s 0 → Beaten true G m s k

-- stable, the system, with the limit m: the ranks are a certificate, and it is beaten with every budget below its rank, and with every one where it has none
pub record ExactNeeds (G : Arena) (m : ℕ) (r : List ℕ) : Type 0 where
  pub ranked : Ranked G true false m r
  pub beaten : (s k : ℕ) → s < G.states → (0 < get_or r s 0 → k < get_or r s 0) → Beaten false G m s k

-- fair, the environment: below its rank the system can see to it that the next step enters a goal, or a state where the environment has no rank, or, without
-- the condition, one where its rank is not lower
abbrev pub ExactDistances : (G : Arena) (r : List ℕ) → Type 0
ExactDistances G r = (s p : ℕ) → 0 < p → p < get_or r s 0
    → Forces G true s (λ x t. (0 < get_or r t 0 → p ≤ get_or r t 0) × (holds G x ≡ true → get_or r t 0 ≡ 0))

-- stable, the environment: it is outplayed with every budget below its rank
abbrev pub ExactCounts : (G : Arena) (r : List ℕ) → Type 0
ExactCounts G r = (s k : ℕ) → s < G.states → k < get_or r s 0 → Outplayed G s k

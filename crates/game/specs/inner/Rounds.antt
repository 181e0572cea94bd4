-- The passes that give inner ranks and the rounds that give outer ranks. The outer ranks are the system's when fair and the environment's when stable; the inner
-- ranks are the other player's, and are found anew in each round.
-- Assumes nothing.
use Rattle.std.specs.Prelude.{◌≡◌, ℕ, ◌+◌, ◌<◌, ◌≤◌, Bool, true, false, not, List, slice_index}
use Rattle.game.specs.inner.Limits.{rank_limit}
use Rattle.plays.specs.Arena.{State, Input, Arena}
use Rattle.plays.specs.inner.Rank.{judged, Forces, Ranking}
use Rattle.plays.specs.inner.Exact.{ExactRounds, ExactDistances, ExactNeeds, ExactCounts}
use Rattle.game.specs.inner.Serving.{ranked_below}

-- state s has neither rank
abbrev pub Unranked : List ℕ → List ℕ → ℕ → Type 0
Unranked outer inner s = (slice_index outer s ≡ 0) × (slice_index inner s ≡ 0)

-- no state has both ranks
abbrev pub Apart : List ℕ → List ℕ → Type 0
Apart outer inner = (t : ℕ) → 0 < slice_index outer t → slice_index inner t ≡ 0

-- after input x the entered state t is not lost for the player and, where the input is judged, already won
abbrev pub Favorable : (G : Arena) (player : Bool) (won lost : State → Bool) (x : Input) (t : State) → Type 0
Favorable G player won lost x t = (lost t ≡ false) × (judged G player x ≡ true → won t ≡ true)

-- the player of the inner ranks can see to it that the next step is favorable by the inner ranks below p
abbrev pub Attracts : (fair : Bool) (G : Arena) (outer inner : List ℕ) (p : ℕ) (s : State) → Type 0
Attracts fair G outer inner p s = Forces G (not fair) s (Favorable G (not fair) (ranked_below p inner) (ranked_below rank_limit outer))

-- the player of the outer ranks can see to it that the next step is favorable against the inner ranks below p
abbrev pub Keeps : (fair : Bool) (G : Arena) (outer inner : List ℕ) (p : ℕ) (s : State) → Type 0
Keeps fair G outer inner p s = Forces G fair s (Favorable G fair (ranked_below rank_limit outer) (ranked_below p inner))

-- r says whether pass p gives state s an inner rank
pub record Attracted (fair : Bool) (G : Arena) (outer inner : List ℕ) (p s : ℕ) (r : Bool) : Type 0 where
  pub gains : r ≡ true → Unranked outer inner s × Attracts fair G outer inner p s
  pub stays : r ≡ false → Unranked outer inner s → Keeps fair G outer inner p s

-- the inner ranks of the passes so far, all below the limit: each state's certificate speaks of lower ranks alone
pub record InnerRanks (fair : Bool) (G : Arena) (outer inner : List ℕ) (limit : ℕ) : Type 0 where
  pub apart : Apart outer inner
  pub within : (t : ℕ) → 0 < slice_index inner t → t < G.states
  pub below : (t : ℕ) → slice_index inner t < limit
  pub forced : (s : ℕ) → 0 < slice_index inner s → Attracts fair G outer inner (slice_index inner s) s

-- a state without an outer rank that a pass before q left out: the player of the outer ranks keeps it from the inner ranks below that pass, whatever later
-- passes give
abbrev pub Stayed : (fair : Bool) (G : Arena) (outer inner : List ℕ) (q : ℕ) → Type 0
Stayed fair G outer inner q = (s p : ℕ) → s < G.states → slice_index outer s ≡ 0 → 0 < p → p < q → (0 < slice_index inner s → p < slice_index inner s)
    → Keeps fair G outer inner p s

-- the ranks of old stand in new
abbrev pub Extends : List ℕ → List ℕ → Type 0
Extends old new = (t : ℕ) → 0 < slice_index old t → slice_index new t ≡ slice_index old t

-- some state below n has a rank in new alone
abbrev pub Grows : ℕ → List ℕ → List ℕ → Type 0
Grows n old new = (s : ℕ) × (s < n) × (slice_index old s ≡ 0) × (0 < slice_index new s)

-- pass p over the first k states, from the inner ranks old; gave says whether it gave any rank
pub record Passed (fair : Bool) (G : Arena) (outer old inner : List ℕ) (p k : ℕ) (gave : Bool) : Type 0 where
  pub ranks : InnerRanks fair G outer inner (p + 1)
  pub stayed : Stayed fair G outer inner p
  pub keeps : (s : ℕ) → s < k → Unranked outer inner s → Keeps fair G outer inner p s
  pub extends : Extends old inner
  pub more : gave ≡ true → Grows k old inner
  pub none : gave ≡ false → inner ≡ old

-- the inner ranks after the last pass: the player of the outer ranks can keep to the states without one
pub record Attraction (fair : Bool) (G : Arena) (outer inner : List ℕ) : Type 0 where
  pub ranks : InnerRanks fair G outer inner (G.states + 1)
  pub stayed : (s p : ℕ) → 0 < p → p < slice_index inner s → Keeps fair G outer inner p s
  pub keeps : (s : ℕ) → s < G.states → Unranked outer inner s → Keeps fair G outer inner rank_limit s

-- the states below n with neither rank got the outer rank r; gave says whether there is one
pub record Promoted (n r : ℕ) (outer inner new : List ℕ) (gave : Bool) : Type 0 where
  pub added : (t : ℕ) → t < n → Unranked outer inner t → slice_index new t ≡ r
  pub extends : Extends outer new
  pub other : (t : ℕ) → 0 < slice_index inner t → slice_index new t ≡ slice_index outer t
  pub beyond : (t : ℕ) → n ≤ t → slice_index new t ≡ slice_index outer t
  pub more : gave ≡ true → (s : ℕ) × (s < n) × Unranked outer inner s
  pub none : gave ≡ false → (new ≡ outer) × ((s : ℕ) → s < n → slice_index outer s ≡ 0 → 0 < slice_index inner s)

-- the ranks of both players after the last round, and that they are exact
pub record Found (fair : Bool) (G : Arena) (system environment : List ℕ) : Type 0 where
  pub ranking : Ranking fair G system environment
  pub rounds : fair ≡ true → ExactRounds G system
  pub distances : fair ≡ true → ExactDistances G environment
  pub needs : fair ≡ false → ExactNeeds G G.states system
  pub counts : fair ≡ false → ExactCounts G environment

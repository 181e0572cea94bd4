-- Needs above the limit m, which a play may have at its opening: given by passes p = m + 1, m + 2, .. over the states that may have one.
-- Assumes nothing.
use Rattle.std.specs.Prelude.{◌≡◌, ℕ, ◌+◌, ◌<◌, ◌≤◌, Bool, true, false, ◌⊎◌, List, ◌≢◌, slice_index}
use Rattle.plays.specs.Arena.{State, Input, Arena, holds}
use Rattle.plays.specs.inner.Rank.{Forces, Ranked}
use Rattle.plays.specs.inner.Beaten.{Beaten}
use Rattle.plays.specs.inner.Exact.{ExactNeeds}
use Rattle.game.specs.inner.Rounds.{Extends, Grows}
use Rattle.game.specs.inner.Needs.{Shrinks}

-- after input x the entered state t has a need: below p where the input has the condition, within the limit m where it lacks it
abbrev pub Enters : (G : Arena) (m p : ℕ) (needs : List ℕ) (x : Input) (t : State) → Type 0
Enters G m p needs x t = (0 < slice_index needs t) × (holds G x ≡ true → slice_index needs t < p) × (holds G x ≡ false → slice_index needs t ≤ m)

-- after input x the entered state t has no need, or one that is not below p where the input has the condition, and above the limit where it lacks it
abbrev pub Bars : (G : Arena) (m p : ℕ) (needs : List ℕ) (x : Input) (t : State) → Type 0
Bars G m p needs x t = 0 < slice_index needs t → (holds G x ≡ true → p ≤ slice_index needs t) × (holds G x ≡ false → m < slice_index needs t)

-- r says whether every input of state s has an output that enters a goal or such a need; where not, the environment has an input that bars them
pub record Opened (G : Arena) (m : ℕ) (needs : List ℕ) (p s : ℕ) (r : Bool) : Type 0 where
  pub gains : r ≡ true → Forces G true s (Enters G m p needs)
  pub stays : r ≡ false → Forces G false s (Bars G m p needs)

-- r says whether state s, which has no need within the limit, may have one above it; where not, the system is beaten with every budget
pub record Hopeful (G : Arena) (m : ℕ) (system needs : List ℕ) (s : ℕ) (r : Bool) : Type 0 where
  pub some : r ≡ true → (0 < slice_index system s) × (slice_index needs s ≡ 0)
  pub none : r ≡ false → slice_index needs s ≡ 0 → (k : ℕ) → Beaten false G m s k

-- for the first k states the pass in which each is due, 0 for none: the system is beaten with every budget below it, and with every one where there is neither
-- a need nor a pass
pub record Looks (G : Arena) (m : ℕ) (system needs due : List ℕ) (k : ℕ) : Type 0 where
  pub some : (t : ℕ) → 0 < slice_index due t → (t < k) × (0 < slice_index system t) × (slice_index needs t ≡ 0)
  pub late : (t : ℕ) → 0 < slice_index due t → m < slice_index due t
  pub few : (t : ℕ) → slice_index due t ≤ G.states + 1
  pub early : (s j : ℕ) → s < k → j < slice_index due s → Beaten false G m s j
  pub never : (s : ℕ) → s < k → slice_index needs s ≡ 0 → slice_index due s ≡ 0 → (j : ℕ) → Beaten false G m s j

-- the needs with the limit m and the passes in which states are due, in pass p
pub record Standing (G : Arena) (m : ℕ) (system needs due : List ℕ) (p : ℕ) : Type 0 where
  pub above : m < p
  pub ranked : Ranked G true false m needs
  pub won : Shrinks system needs
  pub beaten : (s k : ℕ) → s < G.states → k < slice_index needs s → Beaten false G m s k
  pub some : (t : ℕ) → 0 < slice_index due t → (t < G.states) × (0 < slice_index system t) × (slice_index needs t ≡ 0)
  pub late : (t : ℕ) → 0 < slice_index due t → p ≤ slice_index due t
  pub early : (s k : ℕ) → s < G.states → k < slice_index due s → Beaten false G m s k
  pub never : (s : ℕ) → s < G.states → slice_index needs s ≡ 0 → slice_index due s ≡ 0 → (k : ℕ) → Beaten false G m s k

-- a look at state s in pass p made new of the needs and later of the passes; r says whether another pass may give a need: the state got one, or is due later
pub record Looked (G : Arena) (m : ℕ) (system needs due new later : List ℕ) (p s : ℕ) (r : Bool) : Type 0 where
  pub standing : Standing G m system new later p
  pub below : (t : ℕ) → slice_index needs t ≤ p → slice_index new t ≤ p
  pub extends : Extends needs new
  pub other : (t : ℕ) → (t ≢ s) → slice_index later t ≡ slice_index due t
  pub here : (slice_index later s ≡ 0) ⊎ ((slice_index later s ≡ p + 1) ⊎ ((slice_index later s ≡ slice_index due s) × (p < slice_index due s)))
  pub bars : (u : ℕ) → u < G.states → Forces G false u (Bars G m p needs) → Forces G false u (Bars G m p new)
  pub quiet : r ≡ false → ((t : ℕ) → slice_index new t ≡ slice_index needs t) × (0 < slice_index later s → Forces G false s (Bars G m p new))
  pub goes : r ≡ true → ((slice_index needs s ≡ 0) × (0 < slice_index new s)) ⊎ (p < slice_index due s)

-- before pass p
pub record Widening (G : Arena) (m : ℕ) (system needs due : List ℕ) (p : ℕ) : Type 0 where
  pub standing : Standing G m system needs due p
  pub below : (t : ℕ) → slice_index needs t < p
  pub few : (t : ℕ) → p < slice_index due t → slice_index due t ≤ G.states + 1

-- pass p over the first k states, from the needs old; going says whether another pass may give a need
pub record Widened (G : Arena) (m : ℕ) (system old needs due : List ℕ) (p k : ℕ) (going : Bool) : Type 0 where
  pub standing : Standing G m system needs due p
  pub below : (t : ℕ) → slice_index needs t ≤ p
  pub passed : (s : ℕ) → s < k → 0 < slice_index due s → p < slice_index due s
  pub few : (s : ℕ) → p + 1 < slice_index due s → slice_index due s ≤ G.states + 1
  pub ahead : (s : ℕ) → k ≤ s → p < slice_index due s → slice_index due s ≤ G.states + 1
  pub extends : Extends old needs
  pub quiet : going ≡ false → (t : ℕ) → slice_index needs t < p
  pub bars : going ≡ false → (s : ℕ) → s < k → 0 < slice_index due s → Forces G false s (Bars G m p needs)
  pub more : going ≡ true → Grows k old needs ⊎ (p ≤ G.states)

-- the needs with the limit m, those above it too
pub record Wide (G : Arena) (m : ℕ) (system low needs : List ℕ) : Type 0 where
  pub exact : ExactNeeds G m needs
  pub won : Shrinks system needs
  pub extends : Extends low needs

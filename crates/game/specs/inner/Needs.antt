-- Needs: the system's ranks when stable with a limit l on steps in a row after one without the condition, lifted from 1 until they stand; one above the limit
-- is dropped, to 0.
-- Assumes nothing.
use Rattle.std.specs.Prelude.{◌≡◌, ℕ, ◌+◌, ◌<◌, ◌≤◌, Bool, true, false, cond, List, ◌==◌, ◌≢◌, nat_lt, slice_index}
use Rattle.automaton.specs.Limits.{state_limit}
use Rattle.plays.specs.Arena.{State, Arena}
use Rattle.plays.specs.inner.Rank.{Forces, Falls, Ranked}
use Rattle.plays.specs.inner.Beaten.{Beaten}
use Rattle.plays.specs.inner.Exact.{ExactNeeds}

-- the needs to begin with: 1 for each state below n that has a rank
pub record Marked (n : ℕ) (system needs : List ℕ) : Type 0 where
  pub small : (t : ℕ) → slice_index needs t ≤ 1
  pub won : (t : ℕ) → 0 < slice_index needs t → (t < n) × (0 < slice_index system t)
  pub every : (t : ℕ) → t < n → 0 < slice_index system t → 0 < slice_index needs t

-- the needs so far, with the limit l: the system is beaten with every budget up to l that is below a state's need, and with every one where it has none
pub record Bounds (G : Arena) (l : ℕ) (needs : List ℕ) : Type 0 where
  pub within : (t : ℕ) → 0 < slice_index needs t → t < G.states
  pub small : (t : ℕ) → slice_index needs t ≤ state_limit
  pub beaten : (s k : ℕ) → s < G.states → k ≤ l → (0 < slice_index needs s → k < slice_index needs s) → Beaten false G l s k

-- every state with a need in new has one in old
abbrev pub Shrinks : (old new : List ℕ) → Type 0
Shrinks old new = (t : ℕ) → 0 < slice_index new t → 0 < slice_index old t

-- the need of state s stands with the limit l: it has none, or one of at most l, and every input has an output by which the needs fall
abbrev pub Stands : (G : Arena) (l : ℕ) (needs : List ℕ) (s : State) → Type 0
Stands G l needs s = 0 < slice_index needs s → (slice_index needs s ≤ l) × Forces G true s (Falls G true false l needs s)

-- the next need after k, and none above the limit
abbrev pub raised_need : (l k : ℕ) → ℕ
raised_need l k = cond (nat_lt k l) (k + 1) 0

-- how high need k is: none is the highest
abbrev pub height_of : ℕ → ℕ
height_of k = cond (k == 0) (state_limit + 1) k

-- v is a higher need of state s, or none, and the system is beaten as it says
pub record Higher (G : Arena) (l : ℕ) (needs : List ℕ) (s v : ℕ) : Type 0 where
  pub some : 0 < slice_index needs s
  pub small : v ≤ state_limit
  pub higher : height_of (slice_index needs s) < height_of v
  pub beaten : (k : ℕ) → k ≤ l → (0 < v → k < v) → Beaten false G l s k

-- v is what a look at state s makes of its need: the same where it stands, and a higher one, or none, where it does not
pub record NextNeed (G : Arena) (l : ℕ) (needs : List ℕ) (s v : ℕ) : Type 0 where
  pub stands : v ≡ slice_index needs s → Stands G l needs s
  pub lifts : (v ≢ slice_index needs s) → Higher G l needs s v

-- a sweep over the first k states, from the needs old; lifted says whether it lifted any
pub record Swept (G : Arena) (l : ℕ) (old needs : List ℕ) (k : ℕ) (lifted : Bool) : Type 0 where
  pub bounds : Bounds G l needs
  pub kept : Shrinks old needs
  pub rises : (t : ℕ) → height_of (slice_index old t) ≤ height_of (slice_index needs t)
  pub more : lifted ≡ true → (s : ℕ) × (s < k) × (height_of (slice_index old s) < height_of (slice_index needs s))
  pub stand : lifted ≡ false → (s : ℕ) → s < k → Stands G l needs s

-- the needs with the limit l after the last sweep, from the needs old: they stand, and are within the limit, unless the start has none
pub record Settled (G : Arena) (start : State) (l : ℕ) (old needs : List ℕ) : Type 0 where
  pub bounds : Bounds G l needs
  pub kept : Shrinks old needs
  pub ranked : 0 < slice_index needs start → Ranked G true false l needs
  pub low : 0 < slice_index needs start → (t : ℕ) → slice_index needs t ≤ l

-- the system is beaten on every state without a rank, whatever the limit and the budget
abbrev pub UnrankedBeaten : (G : Arena) (system : List ℕ) → Type 0
UnrankedBeaten G system = (s : ℕ) → s < G.states → slice_index system s ≡ 0 → (m k : ℕ) → Beaten false G m s k

-- the system's ranks: its needs with n, none above n, and where a state has none the system is beaten on it
pub record SystemNeeds (G : Arena) (system : List ℕ) : Type 0 where
  pub exact : ExactNeeds G G.states system
  pub small : (t : ℕ) → slice_index system t ≤ G.states
  pub unranked_beaten : UnrankedBeaten G system

-- needs with the least limit m with which the start keeps one, those above m left out
pub record Narrowed (G : Arena) (start : State) (system needs : List ℕ) (m : ℕ) : Type 0 where
  pub positive : 0 < m
  pub few : m ≤ G.states
  pub bounds : Bounds G m needs
  pub ranked : Ranked G true false m needs
  pub low : (t : ℕ) → slice_index needs t ≤ m
  pub won : Shrinks system needs
  pub here : 0 < slice_index needs start
  pub beaten : (k : ℕ) → k < m → Beaten false G k start k

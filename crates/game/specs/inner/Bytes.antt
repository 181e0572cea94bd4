-- The bytes of the two tables as the players' ranks allow them: what the functions that fill the tables promise each other.
-- Assumes nothing.
use Rattle.std.specs.Prelude.{◌≡◌, ℕ, ◌-◌, ◌*◌, ◌/◌, ◌%◌, ◌<◌, Bool, true, false, cond, ◌&&◌, ◌||◌, List, ◌==◌, nat_le, slice_index, slice_index_or, Option, Some, None}
use Rattle.automaton.specs.Buffer.{Kept}
use Rattle.plays.specs.Arena.{State, Input, Output, Arena, next, goal}
use Rattle.plays.specs.Entry.{Lowest}
use Rattle.plays.specs.inner.Rank.{cap, AllowedOutput, AllowedInput}
use Rattle.game.specs.Tables.{no_move}

-- the largest rank that is allowed after a step from a state of rank `own`: a lower one at a judged input, and else the cap
abbrev pub limit_of : (steady : Bool) (most : ℕ) (judged : Bool) (own : ℕ) → ℕ
limit_of steady most true own = own - 1
limit_of steady most false own = cap steady most own

-- whether state t has a rank, and one that is at most `limit`
abbrev pub is_below : List ℕ → ℕ → State → Bool
is_below r limit t = nat_le 1 (slice_index r t) && nat_le (slice_index r t) limit

-- the rank of state s, if it has one
abbrev pub rank_at : List ℕ → State → Option ℕ
rank_at r s = cond (slice_index r s == 0) None (Some (slice_index r s))

-- whether a search stops at output y: the step enters a goal, or a state with the property p
abbrev pub stops_at : (G : Arena) (p : State → Bool) (s : State) (x : Input) (y : Output) → Bool
stops_at G p s x y = goal G (next G s x y) || p (next G s x y)

-- the first output at which a search stops, if there is one
abbrev pub FirstStop : (G : Arena) (p : State → Bool) (s : State) (x : Input) → Option ℕ → Type 0
FirstStop G p s x (Some k) = (k < G.outputs) × ((y : ℕ) → y < k → stops_at G p s x y ≡ false) × (stops_at G p s x k ≡ true)
FirstStop G p s x None = (y : ℕ) → y < G.outputs → stops_at G p s x y ≡ false

-- the lowest move that ranks allow on state s, if the state has a rank
abbrev pub Move : (r : List ℕ) (s : State) (Allowed : ℕ → Type 0) → Option ℕ → Type 0
Move r s Allowed (Some k) = (0 < slice_index r s) × Lowest Allowed k
Move r s Allowed None = slice_index_or r s 0 ≡ 0

-- the byte of a move
abbrev pub move_byte : Option ℕ → ℕ
move_byte (Some k) = k
move_byte None = no_move

-- the system's byte for state s and input x: the lowest output that the ranks allow
pub record SystemByte (fair : Bool) (G : Arena) (most : ℕ) (r : List ℕ) (s x b : ℕ) : Type 0 where
  pub none : slice_index_or r s 0 ≡ 0 → b ≡ no_move
  pub lowest : 0 < slice_index r s → Lowest (AllowedOutput fair G most r s x) b

-- the environment's byte for state s: the lowest input that the ranks allow
pub record EnvironmentByte (fair : Bool) (G : Arena) (r : List ℕ) (s b : ℕ) : Type 0 where
  pub none : slice_index_or r s 0 ≡ 0 → b ≡ no_move
  pub lowest : 0 < slice_index r s → Lowest (AllowedInput fair G r s) b

-- the system's byte by two ranks: by the near ones, with the limit m, on a state that has one, else by the far ones
pub record MixedByte (fair : Bool) (G : Arena) (m : ℕ) (near far : List ℕ) (s x b : ℕ) : Type 0 where
  pub by_near : 0 < slice_index near s → Lowest (AllowedOutput fair G m near s x) b
  pub by_far : slice_index_or near s 0 ≡ 0 → SystemByte fair G G.states far s x b

-- the system's table in a buffer that held σ₀
pub record SystemFilled (fair : Bool) (G : Arena) (m : ℕ) (near far σ₀ σ : List ℕ) : Type 0 where
  pub byte : (k : ℕ) → k < G.states * G.inputs → MixedByte fair G m near far (k / G.inputs) (k % G.inputs) (slice_index σ k)
  pub kept : Kept (G.states * G.inputs) σ₀ σ

-- the environment's table in a buffer that held τ₀
pub record EnvironmentFilled (fair : Bool) (G : Arena) (r τ₀ τ : List ℕ) : Type 0 where
  pub byte : (s : ℕ) → s < G.states → EnvironmentByte fair G r s (slice_index τ s)
  pub kept : Kept G.states τ₀ τ

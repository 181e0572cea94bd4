-- The test on one step, and the first input that no output serves.
-- Assumes nothing.
use Rattle.std.specs.Prelude.{◌≡◌, ℕ, ◌<◌, Bool, true, false, cond, not, ◌&&◌, ◌||◌, List, Option, Some, None, ◌==◌, nat_lt, slice_index}
use Rattle.std.specs.Bool.{beq}
use Rattle.plays.specs.Arena.{State, Input, Output, Arena, next, goal, holds}

-- whether state t has a rank below the limit
unfoldable pub ranked_below : ℕ → List ℕ → ℕ → Bool
ranked_below limit r t = not (slice_index r t == 0) && nat_lt (slice_index r t) limit

-- the test on the state t that a step with input x enters: a goal, or else a state that is won where x has the condition, and one that is safe where it has
-- not
unfoldable pub serving_at : (G : Arena) (won safe : State → Bool) (x : Input) (t : State) → Bool
serving_at G won safe x t = goal G t || cond (holds G x) (won t) (safe t)

-- output y serves input x on state s
abbrev pub serving : (G : Arena) (won safe : State → Bool) (s : State) (x : Input) (y : Output) → Bool
serving G won safe s x y = serving_at G won safe x (next G s x y)

-- the safe states: those with a rank below the limit, or those without one
abbrev pub safe_below : (inside : Bool) (limit : ℕ) (r : List ℕ) (t : State) → Bool
safe_below inside limit r t = beq (ranked_below limit r t) inside

-- some output serves input x
abbrev pub IsServed : (G : Arena) (won safe : State → Bool) (s : State) (x : Input) → Type 0
IsServed G won safe s x = (y : ℕ) × (y < G.outputs) × (serving G won safe s x y ≡ true)

-- no output serves input x
abbrev pub IsUnserved : (G : Arena) (won safe : State → Bool) (s : State) (x : Input) → Type 0
IsUnserved G won safe s x = (y : ℕ) → y < G.outputs → serving G won safe s x y ≡ false

-- some output serves each input
abbrev pub AllServed : (G : Arena) (won safe : State → Bool) (s : State) → Type 0
AllServed G won safe s = (x : ℕ) → x < G.inputs → IsServed G won safe s x

-- r is an output that serves input x, or none where there is none
abbrev pub Served : (G : Arena) (won safe : State → Bool) (s : State) (x : Input) (r : Option ℕ) → Type 0
Served G won safe s x (Some y) = (y < G.outputs) × (serving G won safe s x y ≡ true)
Served G won safe s x None = IsUnserved G won safe s x

-- r is the first input that no output serves, or none where there is none
abbrev pub FirstUnserved : (G : Arena) (won safe : State → Bool) (s : State) (r : Option ℕ) → Type 0
FirstUnserved G won safe s (Some x) = (x < G.inputs) × IsUnserved G won safe s x × ((k : ℕ) → k < x → IsServed G won safe s k)
FirstUnserved G won safe s None = AllServed G won safe s

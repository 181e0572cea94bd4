-- Budgets: why no way of the system does with a smaller number. A position is a state and a budget, the number of steps with the condition that may still
-- come before a goal; where the budget is used up and no goal was entered, the system is beaten.
-- Assumes nothing.
use Rattle.std.specs.Prelude.{ℕ, ◌-◌, ◌<◌, ◌≡◌, Bool, true, false}
use Rattle.plays.specs.Arena.{State, Input, Output, Arena, next, goal, holds}

-- the budget that a step leaves of k, where h says whether it has the condition: one less with it; without it, fair, all of k; stable, the limit m anew
abbrev pub left : (fair : Bool) (m : ℕ) (h : Bool) (k : ℕ) → ℕ
left fair m true k = k - 1
left true m false k = k
left false m false k = m

-- the system is beaten on state s with budget k: it has none, or the environment has an input after which no output enters a goal and every output leaves the
-- system beaten
pub data Beaten (fair : Bool) (G : Arena) (m : ℕ) : State → ℕ → Type 0 where
  over : {s k : ℕ} → k ≡ 0 → Beaten fair G m s k
  forced : {s k : ℕ} (x : Input) → x < G.inputs → ((y : Output) → y < G.outputs → goal G (next G s x y) ≡ false)
      → ((y : Output) → y < G.outputs → Beaten fair G m (next G s x y) (left fair m (holds G x) k)) → Beaten fair G m s k

-- stable, the environment: the budget is the number of steps without the condition that may still come. What a step leaves of k, where h says whether it has
-- the condition
abbrev pub unspent : (h : Bool) (k : ℕ) → ℕ
unspent true k = k
unspent false k = k - 1

-- the environment is outplayed on state s with budget k: it has none, or the system has an output for every input that enters a goal or leaves it outplayed
pub data Outplayed (G : Arena) : State → ℕ → Type 0 where
  spent : {s k : ℕ} → k ≡ 0 → Outplayed G s k
  answered : {s k : ℕ} (f : Input → Output) → ((x : Input) → x < G.inputs → f x < G.outputs)
      → ((x : Input) → x < G.inputs → goal G (next G s x (f x)) ≡ false → Outplayed G (next G s x (f x)) (unspent (holds G x) k)) → Outplayed G s k

-- The bytes of the two tables (specification, "Tables"): each is the lowest output, or input, that serves on its state. What serves is said by the states'
-- numbers (Number.antt), so the arena and the mode determine every byte (proofs/EntryLaws.antt, one_system and one_environment).
-- Assumes nothing.
use Rattle.std.specs.Prelude.{ℕ, ◌<◌, ◌≤◌, ◌≡◌, true, false, ◌⊎◌}
use Rattle.plays.specs.declared.mode.Mode.{Mode}
use Rattle.plays.specs.declared.mode.Mode.TheVariants.{Fair, Stable}
use Rattle.plays.specs.Arena.{State, Input, Output, Arena, next, goal, holds, lacks}
use Rattle.plays.specs.Strategy.{Table, system_byte, environment_byte}
use Rattle.plays.specs.Round.{Reaching, RoundNumber}
use Rattle.plays.specs.Number.{Won, Need, Distance, Count}

-- b is the lowest number with the property P
pub record Lowest (P : ℕ → Type 0) (b : ℕ) : Type 0 where
  pub has : P b
  pub lowest : (c : ℕ) → c < b → P c → ⊥

-- by the numbers ν of the states, 0 for none, output y serves for input x on state s: it enters a goal, or a state with a number, which is smaller than that of
-- s at a step with the condition, and at most `most` at any other
abbrev pub OutputServes : (G : Arena) (ν : State → ℕ) (most : ℕ) (s : State) (x : Input) (y : Output) → Type 0
OutputServes G ν most s x y =
    (y < G.outputs)
    × ((goal G (next G s x y) ≡ true)
    ⊎ ((0 < ν (next G s x y)) × (holds G x ≡ true → ν (next G s x y) < ν s) × (holds G x ≡ false → ν (next G s x y) ≤ most)))

-- fair: input x serves on state s by the distances δ: whatever the output, neither a goal nor a state won by the system is entered, and unless x has the
-- condition the distance falls
abbrev pub FairServes : (G : Arena) (δ : State → ℕ) (s : State) (x : Input) → Type 0
FairServes G δ s x =
    (x < G.inputs)
    × ((y : Output) → y < G.outputs
    → (goal G (next G s x y) ≡ false) × (Won Fair G (next G s x y) → ⊥) × ((holds G x ≡ true) ⊎ (δ (next G s x y) < δ s)))

-- stable: input x serves on state s by the counts κ: whatever the output, neither a goal nor a state won by the system is entered, and the count is no larger
-- after it, and smaller if x lacks the condition
abbrev pub StableServes : (G : Arena) (κ : State → ℕ) (s : State) (x : Input) → Type 0
StableServes G κ s x =
    (x < G.inputs)
    × ((y : Output) → y < G.outputs
    → (goal G (next G s x y) ≡ false) × (Won Stable G (next G s x y) → ⊥) × (κ (next G s x y) ≤ κ s)
    × (lacks G x ≡ true → κ (next G s x y) < κ s))

-- fair: the system's bytes go by the rounds, on each state that it wins; the environment's by the distances, on every other state
pub record FairEntries (G : Arena) (σ τ : Table) : Type 0 where
  pub round : State → ℕ
  pub rounds : (s : State) → s < G.states → RoundNumber Fair G (Reaching G s) (round s)
  pub distance : State → ℕ
  pub distances : (s : State) → s < G.states → (Won Fair G s → ⊥) → Distance G s (distance s)
  pub outputs : (s : State) → s < G.states → Won Fair G s → (x : Input) → x < G.inputs → Lowest (OutputServes G round (round s) s x) (system_byte G σ s x)
  pub inputs : (s : State) → s < G.states → (Won Fair G s → ⊥) → Lowest (FairServes G distance s) (environment_byte τ s)

-- stable: the system's bytes go by the needs with m on each state that has one, and by the needs with n on each other state that it wins; the environment's by
-- the counts, on every other state
pub record StableEntries (G : Arena) (m : ℕ) (σ τ : Table) : Type 0 where
  pub need : State → ℕ
  pub needs : (s : State) → s < G.states → Need G m s (need s)
  pub wide : State → ℕ
  pub wide_needs : (s : State) → s < G.states → Need G G.states s (wide s)
  pub count : State → ℕ
  pub counts : (s : State) → s < G.states → (Won Stable G s → ⊥) → Count G s (count s)
  pub outputs : (s : State) → s < G.states → 0 < need s → (x : Input) → x < G.inputs → Lowest (OutputServes G need m s x) (system_byte G σ s x)
  pub wide_outputs : (s : State) → s < G.states → Won Stable G s → need s ≡ 0 → (x : Input) → x < G.inputs
      → Lowest (OutputServes G wide G.states s x) (system_byte G σ s x)
  pub inputs : (s : State) → s < G.states → (Won Stable G s → ⊥) → Lowest (StableServes G count s) (environment_byte τ s)

-- the bytes of both tables; m is read when stable alone
abbrev pub Entries : (mode : Mode) (G : Arena) (m : ℕ) (σ τ : Table) → Type 0
Entries Fair G m σ τ = FairEntries G σ τ
Entries Stable G m σ τ = StableEntries G m σ τ

-- Won states (specs/Number.antt): a table that wins from a state shows that the state is won, and a table of the environment's that wins shows that it is not.
-- Assumes nothing.
use Prim.Native.Nat.{ℕ, ◌<◌}
use mathlib.Core.List.{List}
use Rattle.plays.specs.declared.mode.Mode.{Mode}
use Rattle.plays.specs.Arena.{Arena}
use Rattle.plays.specs.Strategy.{Assumed, SystemWins, EnvironmentWins}
use Rattle.plays.specs.Round.{Reaching}
use Rattle.plays.specs.Number.{Won}
use Rattle.plays.proofs.RoundLaws.{guarded_way, table_way, table_does, winner_counterplay, does_not}

pub won_by : (mode : Mode) (G : Arena) (k : ℕ) (σ : List ℕ) (s : ℕ) → 0 < G.outputs → SystemWins mode G k σ s → Won mode G s
won_by mode G k σ s some w = (k, guarded_way G σ s, table_way G σ s some, table_does mode G k σ s w)

pub not_won : (mode : Mode) (G : Arena) (τ : List ℕ) (s : ℕ) → EnvironmentWins mode G τ s → Won mode G s → ⊥
not_won mode G τ s w v =
    does_not G (Reaching G s) (Assumed mode G v.0) v.1 v.3 (winner_counterplay mode G τ s w v.0 v.1 v.2)

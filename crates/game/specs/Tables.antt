-- The two tables that are handed out (specification, "Calls" and "Tables"): every state below n is won by one player, whose bytes there are the lowest that
-- serve, the other player's bytes there are 255, and bytes beyond n states' share are as they were.
-- Assumes nothing.
use Rattle.std.specs.Prelude.{◌≡◌, ℕ, ◌*◌, ◌<◌, cond, ◌⊎◌, ◌==◌}
use Rattle.automaton.specs.Buffer.{Kept}
use Rattle.plays.specs.declared.mode.Mode.{Mode}
use Rattle.plays.specs.Arena.{State, Input, Arena}
use Rattle.plays.specs.Strategy.{Table, system_byte, environment_byte, SystemWins, EnvironmentWins}
use Rattle.plays.specs.Round.{Reaching, RoundNumber}
use Rattle.plays.specs.Entry.{Entries}

-- the byte where a player has no move
abbrev pub no_move : ℕ
no_move = 255

-- a state that the system wins: its strategy holds good from there, with n, its bytes there are outputs, and the environment has none
pub record SystemState (mode : Mode) (G : Arena) (σ τ : Table) (s : State) : Type 0 where
  pub wins : SystemWins mode G G.states σ s
  pub bytes : (x : Input) → x < G.inputs → system_byte G σ s x < G.outputs
  pub other : environment_byte τ s ≡ no_move

-- a state that the environment wins
pub record EnvironmentState (mode : Mode) (G : Arena) (σ τ : Table) (s : State) : Type 0 where
  pub wins : EnvironmentWins mode G τ s
  pub byte : environment_byte τ s < G.inputs
  pub other : (x : Input) → x < G.inputs → system_byte G σ s x ≡ no_move

-- both tables, in buffers that held σ₀ and τ₀
pub record Tables (mode : Mode) (G : Arena) (σ₀ τ₀ σ τ : Table) : Type 0 where
  pub won : (s : State) → s < G.states → SystemState mode G σ τ s ⊎ EnvironmentState mode G σ τ s
  pub system_kept : Kept (G.states * G.inputs) σ₀ σ
  pub environment_kept : Kept G.states τ₀ τ

-- what the needs of states are taken with when stable, on n states: the round number r of the start on "can", else n
abbrev pub need_limit : (n r : ℕ) → ℕ
need_limit n r = cond (r == 0) n r

-- the verdict on the start with the round number r: "can" where r is above 0, and then the system's strategy holds good from the start with r for n;
-- "cannot" where r is 0, and then the environment wins from the start. Every byte of a winner is the lowest that serves
pub record Verdict (mode : Mode) (G : Arena) (σ τ : Table) (start : State) (r : ℕ) : Type 0 where
  pub system : 0 < r → SystemState mode G σ τ start × SystemWins mode G r σ start
  pub environment : r ≡ 0 → EnvironmentState mode G σ τ start
  pub round : RoundNumber mode G (Reaching G start) r
  pub entries : Entries mode G (need_limit G.states r) σ τ

-- Ranks: the certificates by which a game is solved, a number for each state and player, each a statement about one step.
-- A player is true for the system and false for the environment, and the mode true for fair: the player of the steady ranks is then the mode.
-- Assumes nothing.
use Rattle.std.specs.Prelude.{ℕ, ◌<◌, ◌≤◌, ◌≡◌, Bool, true, false, not, List, ◌⊎◌, get_or}
use Rattle.plays.specs.declared.mode.Mode.{Mode}
use Rattle.plays.specs.declared.mode.Mode.TheVariants.{Fair, Stable}
use Rattle.plays.specs.Arena.{State, Input, Output, Arena, next, goal, holds, lacks}

-- the mode as a truth value, and back
abbrev pub is_fair : Mode → Bool
is_fair Fair = true
is_fair Stable = false

abbrev pub mode_of : Bool → Mode
mode_of true = Fair
mode_of false = Stable

-- the inputs at which the player's rank has to fall: with the condition for the system, without it for the environment
abbrev pub judged : Arena → Bool → Input → Bool
judged G true x = holds G x
judged G false x = lacks G x

-- no transition of the n states leaves them
abbrev pub Enclosed : Arena → Type 0
Enclosed G = (s x y : ℕ) → s < G.states → x < G.inputs → y < G.outputs → next G s x y < G.states

-- what a player asks of the state that a step enters: the system is done at a goal, the environment must avoid it
abbrev pub Safe : (G : Arena) (player : Bool) (t : State) (D : Type 0) → Type 0
Safe G true t D = (goal G t ≡ true) ⊎ D
Safe G false t D = (goal G t ≡ false) × D

-- the player can see to it that the next step is to its liking: the system has an output for every input, the environment an input for every output
abbrev pub Forces : (G : Arena) (player : Bool) (s : State) (R : Input → State → Type 0) → Type 0
Forces G true s R = (x : ℕ) → x < G.inputs → (y : ℕ) × (y < G.outputs) × Safe G true (next G s x y) (R x (next G s x y))
Forces G false s R = (x : ℕ) × (x < G.inputs) × ((y : ℕ) → y < G.outputs → Safe G false (next G s x y) (R x (next G s x y)))

-- the largest rank that a step may enter, from a state of rank `own`, at an input that is not judged: its own where the ranks are steady, else `most`
abbrev pub cap : (steady : Bool) (most own : ℕ) → ℕ
cap true most own = own
cap false most own = most

-- after input x on s, the entered state t has a rank, which is lower at a judged input, and else within the cap
abbrev pub Falls : (G : Arena) (player steady : Bool) (most : ℕ) (r : List ℕ) (s : State) (x : Input) (t : State) → Type 0
Falls G player steady most r s x t =
    (0 < get_or r t 0)
    × (judged G player x ≡ true → get_or r t 0 < get_or r s 0)
    × (judged G player x ≡ false → get_or r t 0 ≤ cap steady most (get_or r s 0))

-- the system's ranks allow output y for input x on state s (`OutputServes`, Entry.antt, by these ranks)
abbrev pub AllowedOutput : (fair : Bool) (G : Arena) (most : ℕ) (r : List ℕ) (s : State) (x : Input) (y : Output) → Type 0
AllowedOutput fair G most r s x y = (y < G.outputs) × Safe G true (next G s x y) (Falls G true fair most r s x (next G s x y))

-- the environment's ranks allow input x on state s
abbrev pub AllowedInput : (fair : Bool) (G : Arena) (r : List ℕ) (s : State) (x : Input) → Type 0
AllowedInput fair G r s x =
    (x < G.inputs) × ((y : ℕ) → y < G.outputs → Safe G false (next G s x y) (Falls G false (not fair) G.states r s x (next G s x y)))

-- a player's ranks, 0 for none, are a certificate, with `most` for the cap of those that are not steady
pub record Ranked (G : Arena) (player steady : Bool) (most : ℕ) (r : List ℕ) : Type 0 where
  pub within : (t : ℕ) → 0 < get_or r t 0 → t < G.states
  pub forced : (s : ℕ) → 0 < get_or r s 0 → Forces G player s (Falls G player steady most r s)

-- the ranks of both players, none above n: the system's are steady when fair and the environment's when stable, and each state has a rank for exactly one
-- of them
pub record Ranking (fair : Bool) (G : Arena) (system environment : List ℕ) : Type 0 where
  pub of_system : Ranked G true fair G.states system
  pub of_environment : Ranked G false (not fair) G.states environment
  pub system_bound : (t : ℕ) → get_or system t 0 ≤ G.states
  pub environment_bound : (t : ℕ) → get_or environment t 0 ≤ G.states
  pub each : (s : ℕ) → s < G.states → ((0 < get_or system s 0) × (get_or environment s 0 ≡ 0)) ⊎ ((get_or system s 0 ≡ 0) × (0 < get_or environment s 0))

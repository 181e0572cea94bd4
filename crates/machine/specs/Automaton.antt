-- Demand 2: what it means that transitions and accepting flags, which the specification calls moves and marks, hold the automaton of a machine.
-- Assumes nothing.
use Rattle.std.specs.Prelude.{ℕ, suc, ◌+◌, ◌*◌, ◌<◌, ◌≡◌, Bool, true, false, List, ◌∷◌, ◌↔◌, length, get_or}
use Rattle.machine.specs.Letters.{Letter, Trace, Letters}
use Rattle.machine.specs.Machine.{Machine}
use Rattle.machine.specs.Run.{run}
use Rattle.machine.specs.Discovery.{Reachable, state_at, states, Distinct}

-- the list holds each reachable state exactly once, the start first
pub record Numbering {S : Type 0} (M : Machine S) (L : ℕ) (ws : List S) : Type 0 where
  pub first : state_at M ws 0 ≡ M.first
  pub distinct : Distinct M ws
  pub reachable : (s : ℕ) → s < length ws → Reachable M L (state_at M ws s)
  pub complete : (x : S) → Reachable M L x → (s : ℕ) × (s < length ws) × (state_at M ws s ≡ x)

-- where the transitions lead from a state by a letter, and by a trace
abbrev pub move : (transitions : List ℕ) (L s : ℕ) (a : Letter) → ℕ
move transitions L s a = get_or transitions (s * L + a) 0

abbrev pub walk : (transitions : List ℕ) (L s : ℕ) (w : Trace) → ℕ
walk transitions L s w = run (move transitions L) s w

-- a truth value as a number: a flag, or a bit
abbrev pub one : Bool → ℕ
one true = 1
one false = 0

-- the n states' transitions and flags are those of the numbered states, and a non-empty trace leads to an accepting state exactly when it is good
pub record Automaton {S : Type 0} (M : Machine S) (Good : Trace → Type 0) (L limit n : ℕ) (transitions accepting : List ℕ) : Type 0 where
  pub count : n ≡ length (states M L limit)
  pub numbering : Numbering M L (states M L limit)
  pub moved : (s : ℕ) (a : Letter) → s < n → a < L
      → (move transitions L s a < n) × (state_at M (states M L limit) (move transitions L s a) ≡ M.after (state_at M (states M L limit) s) a)
  pub marked : (s : ℕ) → s < n → get_or accepting s 0 ≡ one (M.accepts (state_at M (states M L limit) s))
  pub meaning : (a : Letter) (w : Trace) → Letters L (a ∷ w) → (get_or accepting (walk transitions L 0 (a ∷ w)) 0 ≡ 1) ↔ Good (a ∷ w)

-- more than `limit` different states are reachable: here is one more than that
pub record TooManyStates {S : Type 0} (M : Machine S) (L limit : ℕ) : Type 0 where
  pub some : List S
  pub many : length some ≡ suc limit
  pub distinct : Distinct M some
  pub reachable : (s : ℕ) → s < length some → Reachable M L (state_at M some s)

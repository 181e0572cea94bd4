-- The test of a certificate: what antt computes for each row. A certificate has a table and ranks for the player that wins; the test looks at every
-- state with a rank and at every choice of the other player there, one step each. A player is true for the system and false for the environment.
-- Where the system wins with a number above 1, the certificate also has inputs that beat it with one less, whatever it answers.
-- Assumes nothing.
use Prim.Native.Nat.{ℕ, zero, suc}
use mathlib.Core.Bool.{Bool, true, false, not, ◌&&◌, ◌||◌}
use mathlib.Core.List.{List, [], ◌∷◌}
use lib.Dec.{eqb, ltb, leb}
use lib.ListN.{length, get_or}
use Rattle.plays.specs.Arena.{Arena, next, goal, holds}
use Rattle.plays.specs.inner.Rank.{judged}
use Rattle.plays.specs.inner.Beaten.{left}
use Rattle.plays.specs.Strategy.{system_byte, environment_byte}

-- f passes at each number below n
unfoldable pub below : (ℕ → Bool) → ℕ → Bool
below f zero = true
below f (suc n) = f n && below f n

-- from the rank `own` to `rank`: there is one, it is lower at a judged input, and nowhere higher where the ranks are steady
abbrev pub falls_of : Bool → Bool → ℕ → ℕ → Bool
falls_of judged steady rank own = ltb 0 rank && ((not judged || ltb rank own) && (not steady || leb rank own))

-- the system is done at a goal, the environment must avoid it
abbrev pub safe_of : Bool → Bool → Bool → Bool
safe_of true goal falls = goal || falls
safe_of false goal falls = not goal && falls

-- entering t after input x on s is to the player's liking
unfoldable pub step_of : Arena → Bool → Bool → List ℕ → ℕ → ℕ → ℕ → Bool
unfolding goal holds
step_of G player steady r s x t = safe_of player (goal G t) (falls_of (judged G player x) steady (get_or r t 0) (get_or r s 0))

-- the system's byte for state s and input x is an output that its ranks allow
unfoldable pub output_of : Bool → Arena → List ℕ → List ℕ → ℕ → ℕ → Bool
unfolding step_of next
output_of fair G σ r s x = ltb (system_byte G σ s x) G.outputs && step_of G true fair r s x (next G s x (system_byte G σ s x))

-- after the environment's byte for state s, output y is to its liking
unfoldable pub input_of : Bool → Arena → List ℕ → List ℕ → ℕ → ℕ → Bool
unfolding step_of next
input_of fair G τ r s y = step_of G false (not fair) r s (environment_byte τ s) (next G s (environment_byte τ s) y)

-- the player's bytes for state s
unfoldable pub bytes_of : Bool → Bool → Arena → List ℕ → List ℕ → ℕ → Bool
unfolding below output_of input_of
bytes_of true fair G σ r s = below (output_of fair G σ r s) G.inputs
bytes_of false fair G τ r s = ltb (environment_byte τ s) G.inputs && below (input_of fair G τ r s) G.outputs

-- state s: its rank is at most `most`, and the bytes are right where it has one
unfoldable pub state_of : Bool → Bool → Arena → ℕ → List ℕ → List ℕ → ℕ → Bool
unfolding bytes_of
state_of player fair G most table r s = leb (get_or r s 0) most && (eqb (get_or r s 0) 0 || bytes_of player fair G table r s)

-- the winner's test: only states have a rank, the start has one, and every state is right
unfoldable pub wins_of : Bool → Bool → Arena → ℕ → List ℕ → List ℕ → Bool
unfolding below state_of
wins_of player fair G most table r = leb (length r) G.states && (ltb 0 (get_or r 0 0) && below (state_of player fair G most table r) (length r))

-- the inputs use up the budget k from state s, with the limit m, and whatever the outputs are none of them enters a goal
unfoldable pub beaten_of : Bool → Arena → ℕ → List ℕ → ℕ → ℕ → Bool
unfolding below next goal holds
beaten_of fair G m [] s k = eqb k 0
beaten_of fair G m (x ∷ xs) s k =
    ltb x G.inputs
    && below (λ y. not (goal G (next G s x y)) && beaten_of fair G m xs (next G s x y) (left fair m (holds G x) k)) G.outputs

-- the whole test with a round number: 0, and the environment wins; or the system wins with ranks up to the number, and the inputs beat it with one less
unfoldable pub round_of : ℕ → Bool → Arena → List ℕ → List ℕ → List ℕ → Bool
unfolding wins_of beaten_of
round_of zero fair G table r inputs = wins_of false fair G G.states table r
round_of (suc k) fair G table r inputs = wins_of true fair G (suc k) table r && beaten_of fair G k inputs 0 k
